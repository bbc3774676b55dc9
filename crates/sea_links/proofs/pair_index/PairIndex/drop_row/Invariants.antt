use Rattle.std.proofs.Common.{◌≡◌, length}
use Rattle.std.specs.Map.{values_of}
use Rattle.sea_links.specs.Pairs.{without_row}
use Rattle.sea_links.specs.Indexed.{IsIndexed}
use Rattle.sea_links.proofs.pair_index.PairIndex.drop_row.Given as goal

-- without the row's pairs the same are left as at first
abbrev pub invariant-loop-number : goal.invariant-loop-number
invariant-loop-number l = IsIndexed l.self × (without_row l.link l.first l.id (values_of l.self.pairs.entries) ≡ without_row l.link l.first l.id (values_of l.initial.self.pairs.entries))

abbrev pub decreases-loop-number : goal.decreases-loop-number
decreases-loop-number l = length l.self.pairs.entries
