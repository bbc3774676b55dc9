use Rattle.std.proofs.Common.{◌≡◌, ◌≤◌, length, map, filter}
use Rattle.sea_text.specs.Named.{is_named}
use Rattle.sea_text.proofs.ChangesLaws.{changed_from, left_before}
use Rattle.sea_text.proofs.indexed.put_changes.Given as goal

-- those from here on have what was made of them, and what was made of those before is left
abbrev pub invariant-loop-at : goal.invariant-loop-at
invariant-loop-at g l =
    (l.at ≤ length l.fn.items)
    × (length l.items ≡ length l.fn.items)
    × ((change : g.row.T.Denot → g.row.T.Denot) → l.fn.news ≡ map change (filter (is_named g.T.Named.name l.name) l.fn.items)
    → (l.items ≡ changed_from (is_named g.T.Named.name l.name) change l.fn.items l.at) × (l.news ≡ left_before (is_named g.T.Named.name l.name) change l.fn.items l.at))

abbrev pub decreases-loop-at : goal.decreases-loop-at
decreases-loop-at g l = l.at
