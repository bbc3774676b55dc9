-- That the index of pairs tells what the pairs are.
use Rattle.std.specs.Prelude.{true, false}
use Rattle.std.specs.BTreeMap.{IsOrdered}
use Rattle.std.specs.Ordering.{nat_cmp}
use Rattle.sea_links.specs.declared.pair_index.PairIndex.{PairIndex}
use Rattle.sea_links.specs.Index.{numbers_at, IsBelow, TellsNumbers}

-- the numbers rise and lie below the next one, and both sides tell the numbers of each row's pairs
pub record IsIndexed (it : PairIndex) : Type 0 where
  pub ordered : IsOrdered nat_cmp it.pairs
  pub below : IsBelow it.next it.pairs.entries
  pub firsts : TellsNumbers true (numbers_at it.firsts) it.pairs.entries
  pub seconds : TellsNumbers false (numbers_at it.seconds) it.pairs.entries
