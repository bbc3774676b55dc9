use Rattle.std.proofs.Common.{drop, sym, ◌∙◌, ◌+◌, arith, rules}
use Rattle.std.specs.BTreeSet.{contains_text}
use Rattle.std.proofs.lemmas.List.{drop_all}
use Rattle.sea_text.proofs.DistinctLaws.{at_place, once-none, once-all, once-old, once-new}
use Rattle.sea_text.proofs.distinct.without_repeats.Goals as goal
use Rattle.sea_text.proofs.distinct.without_repeats.Goals.{then-branch+in_ok-duplicate+in_ok-push, else-branch}

pub loop-text-init : goal.loop-text-init
loop-text-init c = once-none (contains_text c.new-seen.result) c.args.texts.now c.new-kept.result c.new-kept.ensures (λ text. search rules)

pub loop-text-preserved : goal.loop-text-preserved
loop-text-preserved c =
    let texts = c.args.texts.now in
    let text = c.text-item.result in
    let at = c.loop-text.text-index in
    let next = at_place texts at text (omega arith) c.text-item.is in
    let fresh = rw c.as_str.ensures at c.in_ok-insert_text.ensures.new in
    let adds = rw c.as_str.ensures at c.in_ok-insert_text.ensures.after in
    elim c.if-branch.branch [
      | then-branch+in_ok-duplicate+in_ok-push w ↦
          rw (w.kept-is, w.in_ok-push.ensures.ok, w.in_ok-duplicate.ensures) (once-new (contains_text c.loop-text.seen) (contains_text c.insert_text.new.seen) texts c.loop-text.kept (drop at texts) text (drop (at + 1) texts) c.loop-text.invariant next adds (sym w.if-branch.true ∙ fresh))
      | else-branch w ↦
          rw w.kept-is (once-old (contains_text c.loop-text.seen) (contains_text c.insert_text.new.seen) texts c.loop-text.kept (drop at texts) text (drop (at + 1) texts) c.loop-text.invariant next adds (sym w.if-branch.false ∙ fresh))
    ]

pub returns : goal.returns
returns c = once-all (contains_text c.loop-text.seen) c.args.texts.now c.loop-text.kept (drop c.loop-text.text-index c.args.texts.now) c.loop-text.invariant (drop_all c.loop-text.text-index c.args.texts.now (omega arith))
