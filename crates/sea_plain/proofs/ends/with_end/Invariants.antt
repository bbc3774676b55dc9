use Rattle.std.proofs.Common.{◌≡◌, map, take}
use Rattle.sea_schema.specs.Tables.{with_link_column}
use Rattle.sea_operation.specs.Apply.{in_plain}
use Rattle.sea_plain.proofs.ends.with_end.Given as goal

abbrev pub invariant-loop-plain : goal.invariant-loop-plain
invariant-loop-plain l = l.new ≡ map (in_plain l.table (with_link_column l.key l.name l.end)) (take l.plain-index l.tables)
