-- The canonical text of an operation that some text is, is that operation.
use Rattle.std.proofs.Common.{◌≡◌, ℕ, List, Bool, true, false, Option, Some, None, option_and_then, IsUtf8, refl, sym, ◌∙◌, arith}
use Rattle.std.proofs.lemmas.Str.{IsUtf8-from_is_utf8}
use Rattle.std.specs.Str.{is_utf8}
use Rattle.serde_json.specs.Data.{Data}
use Rattle.serde_json.specs.Read.{read}
use Rattle.sea_operation.specs.declared.operation.Op.{Op}
use Rattle.sea_ops.specs.Operations.{op_of, op_of_json}
use Rattle.sea_ops.specs.Texts.{json_of, text_of}
use Rattle.sea_ops.proofs.DataRead.{sound-read}
use Rattle.sea_ops.proofs.OperationsLaws.{op_of-utf8}
use Rattle.sea_ops.proofs.OpsForms.{ComesAgain, comes_again}
use Rattle.sea_ops.proofs.TextsAgain.{read-compact_text, IsUtf8-compact_text}
use Rattle.sea_ops.proofs.TextsLaws.{has_float-json_of, depth-json_of}

-- an operation of JSON that was read
from_read : (text : List ℕ) (op : Op) → IsUtf8 text → (json : Option Data) → read text ≡ json → option_and_then op_of_json json ≡ Some op → ComesAgain op
from_read text op u None found e = cc
from_read text op u (Some d) found e = comes_again d op (sound-read text d u found) e

from_text : (text : List ℕ) (op : Op) (test : Bool) → is_utf8 text ≡ test → op_of text ≡ Some op → ComesAgain op
from_text text op true u e =
    let utf8 = IsUtf8-from_is_utf8 text u in
    let same : op_of text ≡ option_and_then op_of_json (read text) = rw u refl in
    from_read text op utf8 (read text) refl (sym same ∙ e)
from_text text op false u e = let none : op_of text ≡ None = rw u refl in cc

pub op_of-text_of : (op : Op) (text : List ℕ) → op_of text ≡ Some op → op_of (text_of op) ≡ Some op
unfolding text_of
op_of-text_of op text e =
    let h = from_text text op (is_utf8 text) refl e in
    let found = read-compact_text (json_of op) h.sound (has_float-json_of op) (omega (arith, depth-json_of op)) in
    sym (op_of-utf8 (text_of op) (json_of op) (IsUtf8-compact_text (json_of op) h.sound) found) ∙ h.again
