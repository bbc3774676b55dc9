use Rattle.std.proofs.Common.{◌≡◌, ap, ◌∙◌}
use Rattle.sea_disk.specs.declared.file.File.TheVariants.{Arch}
use Rattle.sea_core.specs.Gates.{with_gate}
use Rattle.sea_core.proofs.Alike.{keeps_then}
use Rattle.sea_core.proofs.Gates.{of_each, base_is_no_log, log_is_no_base, arch_is_no_base, arch_is_no_log}
use Rattle.sea_core.proofs.first_gates.lay_gates.Goals as goal

pub returns-in_err-lay_base_gates-clause-keeps : goal.returns-in_err-lay_base_gates-clause-keeps
returns-in_err-lay_base_gates-clause-keeps g c told = keeps_then (c.sync_all.ensures.keeps told) (c.lay_base_gates.ensures.keeps told (c.in_ok-sync_all.ensures.settled told))

pub returns-in_err-lay_log_gates-clause-keeps : goal.returns-in_err-lay_log_gates-clause-keeps
returns-in_err-lay_log_gates-clause-keeps g c told =
    let synced = c.in_ok-sync_all.ensures.settled told in
    keeps_then (keeps_then (c.sync_all.ensures.keeps told) (c.lay_base_gates.ensures.keeps told synced)) (c.lay_log_gates.ensures.keeps told (c.in_ok-lay_base_gates.ensures.settled told synced))

pub returns-clause-keeps : goal.returns-clause-keeps
returns-clause-keeps g c told =
    let synced = c.in_ok-sync_all.ensures.settled told in
    keeps_then (keeps_then (c.sync_all.ensures.keeps told) (c.lay_base_gates.ensures.keeps told synced)) (c.lay_log_gates.ensures.keeps told (c.in_ok-lay_base_gates.ensures.settled told synced))

pub returns-clause-laid : goal.returns-clause-laid
returns-clause-laid g c told =
    let old = g.D.Disk.shows c.args.disk.now in
    let new = g.D.Disk.shows c.lay_log_gates.new.disk in
    let seen = c.in_ok-sync_all.ensures.seen told in
    let settled = c.in_ok-lay_base_gates.ensures.settled told (c.in_ok-sync_all.ensures.settled told) in
    of_each (λ file. new.seen file ≡ with_gate file (old.seen file))
    (λ file base. c.in_ok-lay_log_gates.ensures.others told settled file (base_is_no_log file base) ∙ c.in_ok-lay_base_gates.ensures.laid told file base ∙ ap (with_gate file) (seen file))
    (λ file log. c.in_ok-lay_log_gates.ensures.laid told settled file log ∙ ap (with_gate file) (c.in_ok-lay_base_gates.ensures.others told file (log_is_no_base file log) ∙ seen file))
    (c.in_ok-lay_log_gates.ensures.others told settled Arch arch_is_no_log ∙ c.in_ok-lay_base_gates.ensures.others told Arch arch_is_no_base ∙ seen Arch)
