use Rattle.std.proofs.Common.{◌≡◌, ◌++◌, map}
use Rattle.sea_links.specs.Pairs.{side}
use Rattle.sea_links.specs.Index.{pairs_at}
use Rattle.sea_links.proofs.pair_index.sides_of.Given as goal

-- the rows so far and those of the rest are all of them
abbrev pub invariant-loop-number : goal.invariant-loop-number
invariant-loop-number l = l.ids ++ map (side l.first) (pairs_at l.pairs.entries l.number-iterator) ≡ map (side l.first) (pairs_at l.pairs.entries l.numbers.keys)
