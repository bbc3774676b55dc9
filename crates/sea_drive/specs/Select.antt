-- The one form of a select that is built, and its answer.
use Rattle.std.specs.Prelude.{ℕ, ◌&&◌, ◌||◌, ◌==◌, List, [], ◌∷◌, length, map, take, slice_index, Bool, not, nat_lt, nat_le, if◌then◌else◌, Option, Some, None, option_and_then, codes}
use Rattle.std.specs.List.{list_all, list_any}
use Rattle.std.specs.Str.{str_eq_ignore_ascii_case}
use Rattle.sea_moment.specs.Dates.{is_digit}
use Rattle.sea_cell.specs.Cells.{cell_in}
use Rattle.sea_links.specs.declared.pair.LinkPair.{LinkPair}
use Rattle.sea_plain.specs.Linked.{row_shown}
use Rattle.sea_operation.specs.declared.base.PlainTable.{PlainTable}
use Rattle.sea_drive.specs.declared.outcome.Answer.{Answer}
use Rattle.sea_drive.specs.Texts.{stripped}

-- the words that name nothing unless they are quoted
abbrev pub keywords : List (List ℕ)
keywords =
    codes "SELECT" ∷ codes "DISTINCT" ∷ codes "FROM" ∷ codes "WHERE" ∷ codes "GROUP" ∷ codes "BY" ∷ codes "HAVING"
    ∷ codes "ORDER" ∷ codes "ASC" ∷ codes "DESC" ∷ codes "LIMIT" ∷ codes "OFFSET" ∷ codes "AND" ∷ codes "OR"
    ∷ codes "NOT" ∷ codes "IN" ∷ codes "BETWEEN" ∷ codes "LIKE" ∷ codes "IS" ∷ codes "NULL" ∷ codes "HAS"
    ∷ codes "ANY" ∷ codes "ALL" ∷ codes "NONE" ∷ codes "OF" ∷ codes "EXACTLY" ∷ codes "INSERT" ∷ codes "INTO"
    ∷ codes "VALUES" ∷ codes "UPDATE" ∷ codes "DELETE" ∷ codes "TRUE" ∷ codes "FALSE" ∷ codes "AS" ∷ codes "COUNT"
    ∷ codes "SUM" ∷ codes "MIN" ∷ codes "MAX" ∷ codes "AVG" ∷ []

-- a keyword, in capitals or not
abbrev pub is_keyword : List ℕ → Bool
is_keyword word = list_any (λ keyword. str_eq_ignore_ascii_case keyword word) keywords

-- a letter, a digit or an underscore
abbrev pub is_word_byte : ℕ → Bool
is_word_byte byte = (nat_le 65 byte && nat_le byte 90) || ((nat_le 97 byte && nat_le byte 122) || (is_digit byte || (byte == 95)))

-- a table's name as a select may write it
abbrev pub is_table_word : List ℕ → Bool
is_table_word name = nat_lt 0 (length name) && (not (is_digit (slice_index name 0)) && (list_all is_word_byte name && not (is_keyword name)))

-- a name that may stand there
abbrev pub table_word : List ℕ → Option (List ℕ)
table_word name = if is_table_word name then Some name else None

-- the table that a select of all columns names
abbrev pub select_of : List ℕ → Option (List ℕ)
select_of text = option_and_then table_word (stripped (codes "SELECT * FROM ") text)

-- the columns' names, and the cells of the first 100 rows in the order of the columns
abbrev pub answer_of : List LinkPair → PlainTable → Answer
answer_of pairs plain = record {
  columns = map (λ column. column.name) plain.table.columns;
  rows = map (λ row. map (cell_in row) plain.table.columns) (map (row_shown pairs plain.table.columns) (take 100 plain.rows));
}
