use Rattle.std.proofs.Common.{ℕ, List, [], ◌∷◌, ◌++◌, ap, sym, ◌∙◌}
use Rattle.serde_json.specs.Written.{has_float, compact_text}
use Rattle.sea_drive.specs.Reply.{reply_line, outcome_line}
use Rattle.sea_drive.proofs.ReplyLaws.{outcome_float, line-shown}
use Rattle.sea_drive.proofs.reply.line_of.Goals as goal

pub returns-in-Silent : goal.returns-in-Silent
unfolding reply_line
returns-in-Silent c = c.new.ensures.items ∙ ap outcome_line (sym c.in-Silent.is)

-- the text of the JSON, and the newline
pub returns : goal.returns
unfolding reply_line
returns c =
    let outcome = c.args.outcome.now in
    let shown = c.in_ok-outcome_json.ensures in
    let text = c.in_ok-line.ensures.text (ap has_float shown ∙ outcome_float c.operations_have_no_float.ensures outcome) ∙ ap compact_text shown in
    c.in_ok-push.ensures.items ∙ ap (λ (bytes : List ℕ). bytes ++ 10 ∷ []) text ∙ sym (line-shown outcome c.in_default.not-Silent)
