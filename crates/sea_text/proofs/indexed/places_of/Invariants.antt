use Rattle.std.proofs.Common.{◌≡◌, ◌≤◌, ℕ, List, drop, length}
use Rattle.std.specs.BTreeMap.{get_by_text}
use Rattle.sea_text.specs.Named.{place_from}
use Rattle.sea_text.proofs.indexed.places_of.Given as goal

-- the things from here on have their places
abbrev pub invariant-loop-at : goal.invariant-loop-at
invariant-loop-at g l = (l.at ≤ length l.items) × ((name : List ℕ) → get_by_text l.places name ≡ place_from g.T.Named.name l.at (drop l.at l.items) name)

abbrev pub decreases-loop-at : goal.decreases-loop-at
decreases-loop-at g l = l.at
