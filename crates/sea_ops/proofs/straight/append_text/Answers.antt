use Rattle.std.proofs.Common.{map, ap, ◌∙◌, ◌++◌, List, codes}
use Rattle.json.specs.Token.{Token}
use Rattle.sea_ops.specs.Straight.{head_tokens}
use Rattle.sea_ops.specs.Texts.{row_json}
use Rattle.sea_ops.proofs.StraightTexts.{written}
use Rattle.sea_ops.proofs.straight.append_text.Goals as goal

pub returns : goal.returns
returns c =
    let done = c.if-not-branch.false in
    let before = c.end.ensures.before ∙ c.put_rows.ensures.before ∙ c.begin.ensures.before ∙ c.new-out.ensures.before ∙ c.new.ensures.items in
    let head = c.in_ok-begin.ensures.head ∙ ap (λ (tokens : List Token). tokens ++ head_tokens (codes "append_rows")) c.new-out.ensures.tokens in
    c.from.ensures ∙ written (codes "append_rows") c.args.table.now (map row_json c.args.rows.now) _ _ _ _ _ before c.into_inner.ensures.items head (c.in_ok-put_rows.ensures.rows done) c.in_ok-end.ensures.tail
