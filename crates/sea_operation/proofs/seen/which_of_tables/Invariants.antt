use Rattle.std.proofs.Common.{◌≡◌, ◌&&◌, ℕ, List, take}
use Rattle.std.specs.BTreeSet.{contains_text}
use Rattle.sea_operation.specs.Seen.{has_row}
use Rattle.sea_operation.proofs.seen.which_of_tables.Given as goal

abbrev pub invariant-loop-plain : goal.invariant-loop-plain
invariant-loop-plain l = (id : List ℕ) → contains_text l.found id ≡ (contains_text l.ids id && has_row (take l.plain-index l.tables) l.no id)
