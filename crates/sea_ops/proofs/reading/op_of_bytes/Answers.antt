use Rattle.std.proofs.Common.{◌≡◌, Some, option_map, sym, ap, ◌∙◌}
use Rattle.serde_json.specs.Read.{read}
use Rattle.serde_json.specs.View.{view}
use Rattle.sea_ops.proofs.OperationsLaws.{op_of-other_bytes, op_of-utf8}
use Rattle.sea_ops.proofs.reading.op_of_bytes.Goals as goal

-- bytes that are no text
pub returns-in_default : goal.returns-in_default
returns-in_default c = sym (op_of-other_bytes c.args.text.now c.in_default.ensures.cases.0)

-- a text that is JSON
pub returns-in_ok-op_of_value-in-Some : goal.returns-in_ok-op_of_value-in-Some
returns-in_ok-op_of_value-in-Some c =
    let cases = c.in-Ok.ensures.cases in
    let found : Some (view c.in-Some.json) ≡ read c.args.text.now = sym (ap (option_map view) c.in-Some.is) ∙ c.in_ok-json.ensures ∙ ap read cases.0 in
    c.in_ok-op_of_value-in-Some.ensures ∙ op_of-utf8 c.args.text.now _ cases.1 (sym found)
