use Rattle.std.proofs.Common.{◌≡◌, ◌++◌, drop, filter}
use Rattle.sea_operation.specs.Joined.{joins_none, texts_of_ids}
use Rattle.sea_plain.proofs.joined.without_joined.Given as goal

-- what is kept so far and of what is left is kept of all
abbrev pub invariant-loop-pair : goal.invariant-loop-pair
invariant-loop-pair l = l.kept ++ filter (joins_none l.end l.row (texts_of_ids l.others)) (drop l.pair-index l.pairs) ≡ filter (joins_none l.end l.row (texts_of_ids l.others)) l.pairs
