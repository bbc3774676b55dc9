use Rattle.std.proofs.Common.{◌≡◌, inl, inr, ap, ◌∙◌}
use Rattle.sea_disk.specs.declared.file.File.TheVariants.{Log0, Log1}
use Rattle.sea_core.specs.Gates.{with_gate, with_first_byte}
use Rattle.sea_core.proofs.Alike.{keeps_then}
use Rattle.sea_core.proofs.Gates.{each_log}
use Rattle.sea_core.proofs.first_gates.lay_log_gates.Goals as goal

pub returns-in_err-lay_log_gate-2-clause-keeps : goal.returns-in_err-lay_log_gate-2-clause-keeps
returns-in_err-lay_log_gate-2-clause-keeps g c told settled = keeps_then (c.lay_log_gate.ensures.keeps told settled) (c.lay_log_gate-2.ensures.keeps told (c.in_ok-lay_log_gate.ensures.settled told settled))

pub returns-clause-keeps : goal.returns-clause-keeps
returns-clause-keeps g c told settled = keeps_then (c.lay_log_gate.ensures.keeps told settled) (c.lay_log_gate-2.ensures.keeps told (c.in_ok-lay_log_gate.ensures.settled told settled))

pub returns-clause-laid : goal.returns-clause-laid
returns-clause-laid g c told settled =
    let old = g.D.Disk.shows c.args.disk.now in
    let new = g.D.Disk.shows c.lay_log_gate-2.new.disk in
    let between = c.in_ok-lay_log_gate.ensures.settled told settled in
    each_log (λ file. new.seen file ≡ with_gate file (old.seen file))
    (c.in_ok-lay_log_gate-2.ensures.laid told ∙ ap (with_first_byte 6) (c.in_ok-lay_log_gate.ensures.others told settled Log0 (λ is. cc)))
    (c.in_ok-lay_log_gate-2.ensures.others told between Log1 (λ is. cc) ∙ c.in_ok-lay_log_gate.ensures.laid told)

pub returns-clause-others : goal.returns-clause-others
returns-clause-others g c told settled other none =
    c.in_ok-lay_log_gate-2.ensures.others told (c.in_ok-lay_log_gate.ensures.settled told settled) other (λ is. none (inl is)) ∙ c.in_ok-lay_log_gate.ensures.others told settled other (λ is. none (inr is))
