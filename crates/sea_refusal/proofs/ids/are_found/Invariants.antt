use Rattle.std.proofs.Common.{◌≡◌, map, drop, cond, Some, None}
use Rattle.std.specs.BTreeSet.{contains_text}
use Rattle.sea_operation.specs.declared.refusal.OpRefusal.TheVariants.{NoRow}
use Rattle.sea_operation.specs.Refusal.{first_at}
use Rattle.sea_refusal.proofs.ids.are_found.Given as goal

abbrev pub invariant-loop-id : goal.invariant-loop-id
invariant-loop-id l = first_at (λ id. cond (contains_text l.found id) None (Some (NoRow id))) (map (λ id. id.0) (drop l.id-index l.ids)) ≡ first_at (λ id. cond (contains_text l.found id) None (Some (NoRow id))) (map (λ id. id.0) l.ids)
