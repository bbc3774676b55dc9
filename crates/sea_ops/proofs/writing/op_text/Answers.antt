use Rattle.std.proofs.Common.{ap, ◌∙◌}
use Rattle.serde_json.specs.Written.{has_float, compact_text}
use Rattle.sea_ops.specs.Texts.{text_of}
use Rattle.sea_ops.proofs.TextsLaws.{has_float-json_of}
use Rattle.sea_ops.proofs.writing.op_text.Goals as goal

-- the text of JSON that has no float
pub returns : goal.returns
unfolding text_of
returns c =
    let json = c.in_ok-op_json.ensures in
    c.from.ensures ∙ c.in_ok-bytes.ensures.text (ap has_float json ∙ has_float-json_of c.args.op.now) ∙ ap compact_text json
