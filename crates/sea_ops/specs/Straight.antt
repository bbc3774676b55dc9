-- The text of rows whose cells stand in order: their members as they stand.
use Rattle.std.specs.Prelude.{ℕ, List, [], ◌∷◌, map, Bool, true, false, ◌&&◌, if◌then◌else◌, codes}
use Rattle.std.specs.Cmp.Lexicographic.{slice_cmp}
use Rattle.std.specs.Ordering.{nat_cmp, match_ordering}
use Rattle.json.specs.Token.{Token, begin_object, end_object, begin_array, key}
use Rattle.json.specs.Tree.{json_tokens, items_tokens, members_tokens}
use Rattle.serde_json.specs.Data.{Data, string, object, Members, no_members, member, put}
use Rattle.serde_json.specs.View.{items_of}
use Rattle.serde_json.specs.Written.{outline, items_outline, members_outline}
use Rattle.sea_operation.specs.declared.operation.NamedCell.{NamedCell}
use Rattle.sea_ops.specs.Texts.{json_of_word, with_cells}

-- the tokens of a value
abbrev pub value_tokens : Data → List Token
value_tokens value = json_tokens (outline value)

-- the tokens of items, with the closing bracket
abbrev pub all_tokens : List Data → List Token
all_tokens value = items_tokens (items_outline (items_of value))

-- the tokens of members, with the closing bracket
abbrev pub tokens_of_members : Members → List Token
tokens_of_members members = members_tokens (members_outline members)

-- a name that comes before another, by bytes
abbrev pub is_before : List ℕ → List ℕ → Bool
is_before one other = match_ordering (slice_cmp nat_cmp one other) true false false

-- the first name comes before the second one
abbrev pub begin_in_order : List NamedCell → Bool
begin_in_order [] = true
begin_in_order (one ∷ []) = true
begin_in_order (one ∷ other ∷ _) = is_before one.name other.name

-- each name comes before the next one
unfoldable pub are_in_order : List NamedCell → Bool
are_in_order [] = true
are_in_order (cell ∷ cells) = begin_in_order (cell ∷ cells) && are_in_order cells

-- cells as members, as they stand
abbrev pub members_of : List NamedCell → Members
members_of [] = no_members
members_of (cell ∷ cells) = member cell.name (json_of_word cell.word) (members_of cells)

-- the same with an id at its place among them, unless that has been written
abbrev pub members_left : Bool → List ℕ → List NamedCell → Members
members_left pending id cells = if pending then put (codes "_id") (string id) (members_of cells) else members_of cells

-- a row of cells without an id
abbrev pub cells_json : List NamedCell → Data
cells_json cells = object (with_cells cells no_members)

-- what stands before the rows of an operation
abbrev pub head_tokens : List ℕ → List Token
head_tokens word = begin_object ∷ key (codes "op") ∷ Token.string word ∷ key (codes "rows") ∷ begin_array ∷ []

-- what stands behind them
abbrev pub tail_tokens : List ℕ → List Token
tail_tokens table = key (codes "table") ∷ Token.string table ∷ end_object ∷ []

-- the id of a row
abbrev pub id_tokens : List ℕ → List Token
id_tokens id = key (codes "_id") ∷ Token.string id ∷ []
