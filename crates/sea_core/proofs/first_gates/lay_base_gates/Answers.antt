use Rattle.std.proofs.Common.{◌≡◌, inl, inr, ap, ◌∙◌}
use Rattle.sea_disk.specs.declared.file.File.TheVariants.{Base0, Base1}
use Rattle.sea_core.specs.Gates.{with_gate, with_first_byte}
use Rattle.sea_core.proofs.Alike.{keeps_then}
use Rattle.sea_core.proofs.Gates.{each_base}
use Rattle.sea_core.proofs.first_gates.lay_base_gates.Goals as goal

pub returns-in_err-lay_base_gate-2-clause-keeps : goal.returns-in_err-lay_base_gate-2-clause-keeps
returns-in_err-lay_base_gate-2-clause-keeps g c told settled = keeps_then (c.lay_base_gate.ensures.keeps told settled) (c.lay_base_gate-2.ensures.keeps told (c.in_ok-lay_base_gate.ensures.settled told settled))

pub returns-clause-keeps : goal.returns-clause-keeps
returns-clause-keeps g c told settled = keeps_then (c.lay_base_gate.ensures.keeps told settled) (c.lay_base_gate-2.ensures.keeps told (c.in_ok-lay_base_gate.ensures.settled told settled))

pub returns-clause-laid : goal.returns-clause-laid
returns-clause-laid g c told =
    let old = g.D.Disk.shows c.args.disk.now in
    let new = g.D.Disk.shows c.lay_base_gate-2.new.disk in
    each_base (λ file. new.seen file ≡ with_gate file (old.seen file))
    (c.in_ok-lay_base_gate-2.ensures.others told Base0 (λ is. cc) ∙ c.in_ok-lay_base_gate.ensures.laid told)
    (c.in_ok-lay_base_gate-2.ensures.laid told ∙ ap (with_first_byte 17) (c.in_ok-lay_base_gate.ensures.others told Base1 (λ is. cc)))

pub returns-clause-others : goal.returns-clause-others
returns-clause-others g c told other none =
    c.in_ok-lay_base_gate-2.ensures.others told other (λ is. none (inr is)) ∙ c.in_ok-lay_base_gate.ensures.others told other (λ is. none (inl is))
