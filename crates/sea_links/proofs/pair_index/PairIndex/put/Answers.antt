use Rattle.std.proofs.Common.{◌+◌, ◌++◌, ◌∷◌, [], true, false, refl, ap, ◌∙◌}
use Rattle.std.specs.Map.{values_of}
use Rattle.std.proofs.lemmas.List.{map-append}
use Rattle.sea_links.specs.declared.pair.LinkPair.{LinkPair}
use Rattle.sea_links.specs.Index.{numbers_at}
use Rattle.sea_links.proofs.IndexLaws.{put-at-end, tells-more, tells-again, tells-same, tells-of, below-of, below-next}
use Rattle.sea_links.proofs.pair_index.PairIndex.put.Goals as goal

pub returns-in_default-add_number-clause-indexed : goal.returns-in_default-add_number-clause-indexed
returns-in_default-add_number-clause-indexed c =
    let it = c.args.self.now in
    record {
      ordered = c.requires.ordered;
      below = c.requires.below;
      firsts = tells-again true it.next c.args.link c.args.first.now it.pairs.entries (numbers_at it.firsts) (numbers_at c.add_number.new.side) (numbers_at c.take_number.new.side) c.requires.below c.requires.firsts c.in_ok-add_number.ensures.ok c.take_number.ensures;
      seconds = tells-same false it.pairs.entries (numbers_at it.seconds) (numbers_at c.add_number-2.new.side) c.requires.seconds c.in_default-add_number.ensures.err;
    }

pub returns-in_default-insert-clause-indexed : goal.returns-in_default-insert-clause-indexed
returns-in_default-insert-clause-indexed c =
    let it = c.args.self.now in
    let same = c.in_default-insert.ensures.err in
    record {
      ordered = c.insert.ensures.ordered;
      below = below-of it.next it.next it.pairs.entries c.insert.new.self.entries refl same c.requires.below;
      firsts = tells-of true (numbers_at c.take_number-in_default-insert.new.side) it.pairs.entries c.insert.new.self.entries same (tells-again true it.next c.args.link c.args.first.now it.pairs.entries (numbers_at it.firsts) (numbers_at c.add_number.new.side) (numbers_at c.take_number-in_default-insert.new.side) c.requires.below c.requires.firsts c.in_ok-add_number.ensures.ok c.take_number-in_default-insert.ensures);
      seconds = tells-of false (numbers_at c.take_number-in_default-insert-2.new.side) it.pairs.entries c.insert.new.self.entries same (tells-again false it.next c.args.link c.args.second.now it.pairs.entries (numbers_at it.seconds) (numbers_at c.add_number-2.new.side) (numbers_at c.take_number-in_default-insert-2.new.side) c.requires.below c.requires.seconds c.in-Ok.ensures.ok c.take_number-in_default-insert-2.ensures);
    }

pub returns-clause-indexed : goal.returns-clause-indexed
returns-clause-indexed c =
    let it = c.args.self.now in
    let pair : LinkPair = record { link = c.args.link; first = c.args.first.now; second = c.args.second.now } in
    let same = put-at-end it.next c.args.link c.args.first.now c.args.second.now c.in_ok-duplicate.field-0 c.in_ok-duplicate-2.field-0 it.pairs.entries c.insert.new.self.entries c.requires.below c.in_ok-duplicate.ensures c.in_ok-duplicate-2.ensures c.in-Ok-insert.ensures.entries in
    record {
      ordered = c.insert.ensures.ordered;
      below = below-of (it.next + 1) c.in-Some.next (it.pairs.entries ++ (it.next, pair) ∷ []) c.insert.new.self.entries c.in-Some.ensures.1 same (below-next it.next pair it.pairs.entries c.requires.below);
      firsts = tells-of true (numbers_at c.add_number.new.side) (it.pairs.entries ++ (it.next, pair) ∷ []) c.insert.new.self.entries same (tells-more true it.next pair it.pairs.entries (numbers_at it.firsts) (numbers_at c.add_number.new.side) c.requires.below c.requires.firsts c.in_ok-add_number.ensures.ok);
      seconds = tells-of false (numbers_at c.add_number-2.new.side) (it.pairs.entries ++ (it.next, pair) ∷ []) c.insert.new.self.entries same (tells-more false it.next pair it.pairs.entries (numbers_at it.seconds) (numbers_at c.add_number-2.new.side) c.requires.below c.requires.seconds c.in-Ok.ensures.ok);
    }

pub returns-clause-ok : goal.returns-clause-ok
returns-clause-ok c =
    let it = c.args.self.now in
    let pair : LinkPair = record { link = c.args.link; first = c.args.first.now; second = c.args.second.now } in
    let same = put-at-end it.next c.args.link c.args.first.now c.args.second.now c.in_ok-duplicate.field-0 c.in_ok-duplicate-2.field-0 it.pairs.entries c.insert.new.self.entries c.requires.below c.in_ok-duplicate.ensures c.in_ok-duplicate-2.ensures c.in-Ok-insert.ensures.entries in
    ap values_of same ∙ map-append _ it.pairs.entries ((it.next, pair) ∷ [])
