-- The tokens of an operation on rows are those of its JSON.
use Rattle.std.proofs.Common.{◌≡◌, ℕ, List, [], ◌∷◌, ◌++◌, codes, refl, sym, ap, ◌∙◌, append_assoc}
use Rattle.json.specs.Print.{print}
use Rattle.json.specs.Token.{Token, begin_object}
use Rattle.serde_json.specs.Data.{Data, string, array, object, Members, no_members, member}
use Rattle.serde_json.specs.View.{items_of}
use Rattle.serde_json.specs.Written.{compact_text}
use Rattle.serde_json.proofs.Texts.{print-outline}
use Rattle.sea_ops.specs.Straight.{head_tokens, all_tokens, tail_tokens, value_tokens, tokens_of_members}
use Rattle.sea_ops.specs.Texts.{op_member, table_member}

pub printed : (word table : List ℕ) (rows : List Data)
    → print (head_tokens word ++ (all_tokens rows ++ tail_tokens table)) ≡ compact_text (object (op_member word (member (codes "rows") (array (items_of rows)) (table_member table no_members))))
printed word table rows = print-outline (object (op_member word (member (codes "rows") (array (items_of rows)) (table_member table no_members))))

-- what is written from the beginning is the text
pub written : (word table : List ℕ) (rows : List Data) (before items : List ℕ) (first second third : List Token)
    → before ≡ [] → items ≡ before ++ print third → first ≡ head_tokens word → second ≡ first ++ all_tokens rows → third ≡ second ++ tail_tokens table
    → items ≡ compact_text (object (op_member word (member (codes "rows") (array (items_of rows)) (table_member table no_members))))
written word table rows before items first second third none is head all tail =
    is ∙ ap (λ (start : List ℕ). start ++ print third) none
    ∙ ap print (tail ∙ ap (λ (tokens : List Token). tokens ++ tail_tokens table) (all ∙ ap (λ (tokens : List Token). tokens ++ all_tokens rows) head) ∙ append_assoc (head_tokens word) (all_tokens rows) (tail_tokens table))
    ∙ printed word table rows

-- a row whose members are written in order
pub row_written : (old begun new : List Token) (members ordered : Members) → begun ≡ old ++ begin_object ∷ [] → new ≡ begun ++ tokens_of_members ordered → members ≡ ordered → new ≡ old ++ value_tokens (object members)
row_written old begun new members ordered begins rest same =
    rest ∙ ap (λ (tokens : List Token). tokens ++ tokens_of_members ordered) begins
    ∙ append_assoc old (begin_object ∷ []) (tokens_of_members ordered)
    ∙ ap (λ (shown : Members). old ++ value_tokens (object shown)) (sym same)
