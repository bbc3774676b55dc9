use Rattle.std.proofs.Common.{◌≡◌}
use Rattle.std.specs.List.{list_any}
use Rattle.sea_links.specs.Pairs.{is_pair}
use Rattle.sea_links.specs.Index.{pairs_at}
use Rattle.sea_links.proofs.pair_index.found.Given as goal

-- the pair is among the rest exactly where it is among all
abbrev pub invariant-loop-number : goal.invariant-loop-number
invariant-loop-number l = list_any (is_pair l.link l.first l.second) (pairs_at l.pairs.entries l.number-iterator) ≡ list_any (is_pair l.link l.first l.second) (pairs_at l.pairs.entries l.numbers.keys)
