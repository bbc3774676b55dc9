use Rattle.std.proofs.Common.{◌≡◌, ◌||◌, ◌&&◌, ℕ, List, take}
use Rattle.std.specs.BTreeSet.{contains_text}
use Rattle.std.specs.List.{list_any}
use Rattle.std.specs.Str.{bytes_eq}
use Rattle.sea_operation.proofs.seen.add_of_rows.Given as goal

abbrev pub invariant-loop-row : goal.invariant-loop-row
invariant-loop-row l = (id : List ℕ) → contains_text l.found id ≡ (contains_text l.initial.found id || (contains_text l.ids id && list_any (λ row. bytes_eq row.id.0 id) (take l.row-index l.rows)))
