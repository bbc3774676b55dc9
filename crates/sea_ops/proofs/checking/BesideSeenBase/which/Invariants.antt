use Rattle.std.proofs.Common.{◌≡◌, ◌&&◌, ℕ, List, take}
use Rattle.std.specs.BTreeSet.{contains_text}
use Rattle.std.specs.List.{list_any}
use Rattle.std.specs.Str.{bytes_eq}
use Rattle.sea_ops.proofs.checking.BesideSeenBase.which.Given as goal

abbrev pub invariant-loop-id : goal.invariant-loop-id
invariant-loop-id g l = (id : List ℕ) → contains_text l.found id ≡ list_any (λ one. bytes_eq one.0 id && g.R.RowsSeen.has_id l.self.rows.now l.table one.0) (take l.id-index l.ids)
