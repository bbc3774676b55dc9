use Rattle.std.proofs.Common.{◌≡◌, ◌++◌}
use Rattle.std.specs.Map.{values_of}
use Rattle.sea_links.specs.Indexed.{IsIndexed}
use Rattle.sea_links.proofs.pair_index.copy_of.Given as goal

-- the pairs so far and the rest are all pairs
abbrev pub invariant-loop-pair : goal.invariant-loop-pair
invariant-loop-pair l = IsIndexed l.copy × (values_of l.copy.pairs.entries ++ l.pair-iterator ≡ values_of l.pairs.entries)
