use Rattle.std.proofs.Common.{◌≡◌, ◌<◌, length, sym, ap, ◌∙◌, arith}
use Rattle.std.specs.BTreeMap.{is_at}
use Rattle.std.specs.Map.{remove_entry, values_of}
use Rattle.std.specs.Ordering.{nat_cmp}
use Rattle.sea_links.specs.Pairs.{is_of, without_row}
use Rattle.sea_links.specs.Index.{NumberedPairs, numbers_of}
use Rattle.sea_links.proofs.LookLaws.{row-first, none-first}
use Rattle.sea_links.proofs.RemovalLaws.{gone-of-row, row-shorter, row-gone}
use Rattle.sea_links.proofs.pair_index.PairIndex.drop_row.Goals as goal

pub loop-number-smaller : goal.loop-number-smaller
loop-number-smaller c =
    let it = c.loop-number.self in
    let is = row-first c.args.link c.args.first c.args.id.now it.pairs c.loop-number.invariant.0.ordered c.in-Some.number c.in-Some.ensures in
    let shorter : length (remove_entry (is_at (nat_cmp c.in-Some.number)) it.pairs.entries) < length it.pairs.entries = row-shorter (is_of c.args.link c.args.first c.args.id.now) c.in-Some.number it.pairs.entries is in
    let same : length c.drop_number.new.self.pairs.entries ≡ length (remove_entry (is_at (nat_cmp c.in-Some.number)) it.pairs.entries) = ap length c.drop_number.ensures.entries in
    omega arith

pub loop-number-preserved : goal.loop-number-preserved
loop-number-preserved c =
    let it = c.loop-number.self in
    let is = row-first c.args.link c.args.first c.args.id.now it.pairs c.loop-number.invariant.0.ordered c.in-Some.number c.in-Some.ensures in (
      c.drop_number.ensures.indexed,
      ap (λ (pairs : NumberedPairs). without_row c.args.link c.args.first c.args.id.now (values_of pairs)) c.drop_number.ensures.entries ∙ gone-of-row c.args.link c.args.first c.args.id.now c.in-Some.number it.pairs.entries is ∙ c.loop-number.invariant.1,
    )

pub returns-clause-left : goal.returns-clause-left
returns-clause-left c =
    let pairs = c.loop-number.self.pairs.entries in
    sym (row-gone c.args.link c.args.first c.args.id.now pairs (none-first (numbers_of c.args.link c.args.first c.args.id.now pairs) c.in_default.ensures)) ∙ c.loop-number.invariant.1
