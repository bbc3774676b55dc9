use Rattle.std.proofs.Common.{filter, true, false, refl, ap, ◌∙◌}
use Rattle.std.specs.Map.{values_of}
use Rattle.sea_links.specs.Pairs.{is_of_other_link}
use Rattle.sea_links.specs.Index.{NumberedPairs, numbers_at}
use Rattle.sea_links.proofs.IndexLaws.{tells-of, below-of}
use Rattle.sea_links.proofs.RowsLaws.{link-dropped}
use Rattle.sea_links.proofs.RemovalLaws.{tells-without-link, below-kept, values-kept}
use Rattle.sea_links.proofs.pair_index.PairIndex.drop_link.Goals as goal

pub returns-clause-indexed : goal.returns-clause-indexed
returns-clause-indexed c =
    let it = c.args.self.now in
    let left : NumberedPairs = filter (λ one. is_of_other_link c.args.link one.1) it.pairs.entries in
    let now = c.keep_other_links.new.pairs.entries in
    let same = c.keep_other_links.ensures.kept in
    record {
      ordered = c.keep_other_links.ensures.ordered;
      below = below-of it.next it.next left now refl same (below-kept (λ one. is_of_other_link c.args.link one.1) it.next it.pairs.entries c.requires.below);
      firsts = tells-of true (numbers_at c.remove.new.self) left now same (tells-without-link true c.args.link it.pairs.entries (numbers_at it.firsts) (numbers_at c.remove.new.self) c.requires.firsts (link-dropped c.args.link it.firsts c.remove.new.self c.remove.ensures.updates.0));
      seconds = tells-of false (numbers_at c.remove-2.new.self) left now same (tells-without-link false c.args.link it.pairs.entries (numbers_at it.seconds) (numbers_at c.remove-2.new.self) c.requires.seconds (link-dropped c.args.link it.seconds c.remove-2.new.self c.remove-2.ensures.updates.0));
    }

pub returns-clause-left : goal.returns-clause-left
returns-clause-left c = ap values_of c.keep_other_links.ensures.kept ∙ values-kept (is_of_other_link c.args.link) c.args.self.now.pairs.entries
