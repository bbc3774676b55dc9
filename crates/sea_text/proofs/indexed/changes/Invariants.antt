use Rattle.std.proofs.Common.{◌≡◌, ◌++◌, drop, map, filter}
use Rattle.sea_text.specs.Named.{is_named}
use Rattle.sea_text.proofs.indexed.changes.Given as goal

-- what was made so far and what is made of those that are left is what is made of all
abbrev pub invariant-loop-item : goal.invariant-loop-item
invariant-loop-item g l = l.news ++ map (g.C.ChangeOf.changed l.change) (filter (is_named g.T.Named.name l.name) (drop l.item-index l.items)) ≡ map (g.C.ChangeOf.changed l.change) (filter (is_named g.T.Named.name l.name) l.items)
