-- How many members an object has, and what the bytes of a text have to be.
use Rattle.std.proofs.Common.{◌≡◌, ℕ, List, [], ◌∷◌, length, String, Global, Bool, true, false, Some, None, IsUtf8, refl, arith}
use Rattle.std.proofs.lemmas.Str.{IsUtf8-from_is_utf8, is_utf8-from_IsUtf8}
use Rattle.std.specs.Str.{is_utf8}
use Rattle.serde_json.specs.Data.{Data}
use Rattle.serde_json.specs.Read.{read}
use Rattle.serde_json.specs.View.{members_view}
use Rattle.serde_json.specs.declared.value.Value.{Value}
use Rattle.sea_ops.specs.Operations.{count_of, op_of, op_of_json}

-- there are as many members as the map of an object has entries
pub count-members : (members : List (String Global × Value)) → count_of (members_view members) ≡ length members
count-members [] = refl
count-members (_ ∷ members) = omega (arith, count-members members)

-- what is no UTF-8 fails the test of it
not_utf8 : (text : List ℕ) (test : Bool) → is_utf8 text ≡ test → ¬ IsUtf8 text → is_utf8 text ≡ false
not_utf8 text true e other = absurd (other (IsUtf8-from_is_utf8 text e))
not_utf8 text false e other = e

-- bytes that are no UTF-8 are no operation
pub op_of-other_bytes : (text : List ℕ) → ¬ IsUtf8 text → op_of text ≡ None
op_of-other_bytes text other = rw (not_utf8 text (is_utf8 text) refl other) refl

-- a text that is JSON is the operation that its value is
pub op_of-utf8 : (text : List ℕ) (json : Data) → IsUtf8 text → read text ≡ Some json → op_of_json json ≡ op_of text
op_of-utf8 text json utf8 found = rw (is_utf8-from_IsUtf8 text utf8, found) refl
