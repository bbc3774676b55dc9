use Rattle.std.proofs.Common.{◌≡◌, map, take}
use Rattle.sea_refusal.proofs.ids.ids_of_changes.Given as goal

abbrev pub invariant-loop-change : goal.invariant-loop-change
invariant-loop-change l = map (λ id. id.0) l.ids ≡ map (λ change. change.id.0) (take l.change-index l.changes)
