use Rattle.std.proofs.Common.{◌≡◌, ◌++◌, drop, filter}
use Rattle.sea_operation.specs.Apply.{has_other_name}
use Rattle.sea_plain.proofs.tables.tables_without.Given as goal

-- what is kept so far and of what is left is kept of all
abbrev pub invariant-loop-plain : goal.invariant-loop-plain
invariant-loop-plain l = l.kept ++ filter (has_other_name l.name) (drop l.plain-index l.tables) ≡ filter (has_other_name l.name) l.tables
