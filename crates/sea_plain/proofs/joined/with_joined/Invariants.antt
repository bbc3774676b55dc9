use Rattle.std.proofs.Common.{◌≡◌, ◌++◌, map, take}
use Rattle.sea_operation.specs.Joined.{joined}
use Rattle.sea_plain.proofs.joined.with_joined.Given as goal

abbrev pub invariant-loop-other : goal.invariant-loop-other
invariant-loop-other l = l.new ≡ l.pairs ++ map (joined l.end l.row) (take l.other-index l.others)
