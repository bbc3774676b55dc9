use Rattle.std.proofs.Common.{not, List, ℕ, sym, ap, ◌∙◌, arith}
use Rattle.std.specs.BTreeMap.{get_by_text}
use Rattle.std.specs.Str.{bytes_eq}
use Rattle.sea_text.specs.Named.{has_another_name}
use Rattle.sea_text.proofs.PlacesLaws.{placed-stays, placed-goes}
use Rattle.sea_text.proofs.indexed.places_without.Goals as goal
use Rattle.sea_text.proofs.indexed.places_without.Goals.{then-ne+in_ok-from_str+in_ok-add_place, else-ne}

pub loop-item-preserved : goal.loop-item-preserved
loop-item-preserved g c =
    let keeps = has_another_name g.T.Named.name c.args.name.now in
    let tested = ap (λ (bytes : List ℕ). not (bytes_eq bytes c.args.name.now)) (sym c.name.ensures) ∙ sym c.ne.ensures in
    elim c.if-ne.branch [
      | then-ne+in_ok-from_str+in_ok-add_place w ↦
          rw (w.places-is, w.at-is) (placed-stays g.T.Named.name keeps (get_by_text c.loop-item.places) c.loop-item.at c.loop-item.item-index c.args.items.now c.item-item.result c.loop-item.invariant (omega arith) c.item-item.is (get_by_text w.add_place.new.places) _ (tested ∙ w.if-ne.true) (w.in_ok-from_str.ensures.ok ∙ w.name-then-ne.ensures) w.in_ok-add_place.ensures.ok)
      | else-ne w ↦
          rw (w.places-is, w.at-is) (placed-goes g.T.Named.name keeps (get_by_text c.loop-item.places) c.loop-item.at c.loop-item.item-index c.args.items.now c.item-item.result c.loop-item.invariant (omega arith) c.item-item.is (tested ∙ w.if-ne.false))
    ]
