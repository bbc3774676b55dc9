use Rattle.std.proofs.Common.{◌≡◌, ◌++◌}
use Rattle.std.specs.Map.{values_of}
use Rattle.sea_links.proofs.pair_index.pairs_of.Given as goal

-- the pairs so far and the rest are all pairs
abbrev pub invariant-loop-pair : goal.invariant-loop-pair
invariant-loop-pair l = l.list.items ++ l.pair-iterator ≡ values_of l.pairs.entries
