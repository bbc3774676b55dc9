use Rattle.std.proofs.Common.{not, sym, ap, ◌∙◌, List, ℕ, arith}
use Rattle.std.specs.Str.{bytes_eq}
use Rattle.sea_text.specs.Named.{has_another_name}
use Rattle.sea_text.proofs.PlacesLaws.{turn-out}
use Rattle.sea_text.proofs.indexed.take_out.Goals as goal

pub loop-at-preserved-then-eq : goal.loop-at-preserved-then-eq
loop-at-preserved-then-eq g c =
    let gone = ap not (ap (λ (bytes : List ℕ). bytes_eq bytes c.args.name.now) (sym c.name.ensures) ∙ sym c.eq.ensures ∙ c.if-eq.true) in
    (omega (arith, c.loop-at.invariant.0), c.remove.ensures.rest ∙ turn-out (has_another_name g.T.Named.name c.args.name.now) c.args.items.now c.loop-at.at c.loop-at.items c.index-as_slice-at.result c.loop-at.invariant.0 (omega arith) c.loop-at.invariant.1 (rw (sym c.as_slice.ensures) c.index-as_slice-at.is) gone)
