use Rattle.std.proofs.Common.{◌≡◌, map, take}
use Rattle.sea_operation.specs.Apply.{plain_after}
use Rattle.sea_plain.proofs.tables.named_after.Given as goal

abbrev pub invariant-loop-plain : goal.invariant-loop-plain
invariant-loop-plain l = l.tables ≡ map (plain_after l.base l.moment l.op) (take l.plain-index l.plain-items)
