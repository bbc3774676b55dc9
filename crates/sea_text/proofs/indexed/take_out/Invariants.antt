use Rattle.std.proofs.Common.{◌≡◌, ◌≤◌, length}
use Rattle.sea_text.specs.Named.{has_another_name}
use Rattle.sea_text.proofs.PlacesLaws.{gone_from}
use Rattle.sea_text.proofs.indexed.take_out.Given as goal

-- those from here on were gone through
abbrev pub invariant-loop-at : goal.invariant-loop-at
invariant-loop-at g l = (l.at ≤ length l.fn.items) × (l.items ≡ gone_from (has_another_name g.T.Named.name l.name) l.fn.items l.at)

abbrev pub decreases-loop-at : goal.decreases-loop-at
decreases-loop-at g l = l.at
