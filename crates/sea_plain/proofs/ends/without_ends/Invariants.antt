use Rattle.std.proofs.Common.{◌≡◌, map, take}
use Rattle.sea_operation.specs.Apply.{without_ends_in}
use Rattle.sea_plain.proofs.ends.without_ends.Given as goal

abbrev pub invariant-loop-plain : goal.invariant-loop-plain
invariant-loop-plain l = l.new ≡ map (without_ends_in l.links) (take l.plain-index l.tables)
