use Rattle.std.proofs.Common.{map, ap, ◌∙◌, ◌++◌, List, codes}
use Rattle.json.specs.Token.{Token}
use Rattle.sea_ops.specs.Straight.{head_tokens}
use Rattle.sea_ops.specs.Texts.{change_json}
use Rattle.sea_ops.proofs.StraightTexts.{written}
use Rattle.sea_ops.proofs.straight.modify_text.Goals as goal

pub returns : goal.returns
returns c =
    let done = c.if-not-branch.false in
    let before = c.end.ensures.before ∙ c.put_changes.ensures.before ∙ c.begin.ensures.before ∙ c.new-out.ensures.before ∙ c.new.ensures.items in
    let head = c.in_ok-begin.ensures.head ∙ ap (λ (tokens : List Token). tokens ++ head_tokens (codes "modify_rows")) c.new-out.ensures.tokens in
    c.from.ensures ∙ written (codes "modify_rows") c.args.table.now (map change_json c.args.changes.now) _ _ _ _ _ before c.into_inner.ensures.items head (c.in_ok-put_changes.ensures.changes done) c.in_ok-end.ensures.tail
