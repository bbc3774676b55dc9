use Rattle.std.proofs.Common.{◌≡◌, Some, true, false, refl, sym}
use Rattle.std.specs.BTreeMap.{is_at}
use Rattle.std.specs.Map.{remove_entry}
use Rattle.std.specs.Ordering.{nat_cmp}
use Rattle.sea_links.specs.Index.{numbers_at, pair_at}
use Rattle.sea_links.proofs.IndexLaws.{tells-of, below-of}
use Rattle.sea_links.proofs.RemovalLaws.{tells-less, below-less}
use Rattle.sea_links.proofs.pair_index.PairIndex.drop_number.Goals as goal

pub returns-clause-indexed : goal.returns-clause-indexed
returns-clause-indexed c =
    let it = c.args.self.now in
    let same = c.remove.ensures.entries in
    let left = remove_entry (is_at (nat_cmp c.args.number)) it.pairs.entries in
    let found : pair_at it.pairs.entries c.args.number ≡ Some c.in-Some.pair = sym c.in-Some.ensures.value in
    record {
      ordered = c.remove.ensures.ordered;
      below = below-of it.next it.next left c.remove.new.self.entries refl same (below-less (is_at (nat_cmp c.args.number)) it.next it.pairs.entries c.requires.below);
      firsts = tells-of true (numbers_at c.take_number.new.side) left c.remove.new.self.entries same (tells-less true c.args.number c.in-Some.pair it.pairs.entries found (numbers_at it.firsts) (numbers_at c.take_number.new.side) c.requires.firsts c.take_number.ensures);
      seconds = tells-of false (numbers_at c.take_number-2.new.side) left c.remove.new.self.entries same (tells-less false c.args.number c.in-Some.pair it.pairs.entries found (numbers_at it.seconds) (numbers_at c.take_number-2.new.side) c.requires.seconds c.take_number-2.ensures);
    }
