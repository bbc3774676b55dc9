use Rattle.std.proofs.Common.{◌≡◌, map, take}
use Rattle.sea_plain.specs.Linked.{table_shown}
use Rattle.sea_plain.proofs.linked.tables_of.Given as goal

abbrev pub invariant-loop-plain : goal.invariant-loop-plain
invariant-loop-plain l = l.tables ≡ map (table_shown l.base.pairs) (take l.plain-index l.plain-items)
