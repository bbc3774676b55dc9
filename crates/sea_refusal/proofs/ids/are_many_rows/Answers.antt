use Rattle.std.proofs.Common.{ℕ, List, Some, map, subst}
use Rattle.std.specs.BTreeSet.{contains_text}
use Rattle.sea_operation.specs.Checks.{Checks}
use Rattle.sea_operation.specs.Seen.{has_id}
use Rattle.sea_operation.specs.declared.refusal.OpRefusal.TheVariants.{NoRow}
use Rattle.sea_refusal.proofs.Repeats.{agree_on_ids, same_first}
use Rattle.sea_refusal.proofs.ids.are_many_rows.Goals as goal

-- the ids that were found are those that rows have
pub returns : goal.returns
returns g c =
    let found = λ (id : List ℕ). contains_text c.in_ok-found.found id in
    let has = has_id (g.S.SeenBase.seen c.args.seen.now) c.args.table.now in
    let ids = map (λ id. id.0) c.args.ids.now in
    let agree = agree_on_ids found has c.args.ids.now c.in_ok-found.ensures in
    subst (Checks c.are_found.result) (same_first (λ id. Some (NoRow id)) found has ids agree) c.are_found.ensures
