-- How many bytes the encoding of a row has.
use Rattle.std.specs.Prelude.{ℕ, ◌+◌, ◌-◌, ◌^◌, ◌&&◌, List, [], ◌∷◌, length, if◌then◌else◌, nat_lt, nat_le, Bool, Option, Some, None, option_map, option_and_then, unwrap_or}
use Rattle.sea_moment.specs.Moment.{is_in_range}
use Rattle.sea_cell.specs.Conversion.{is_amount}
use Rattle.sea_cell.specs.declared.values.CellValue.{CellValue}
use Rattle.sea_cell.specs.declared.values.CellValue.TheVariants.{Empty, Text, Number, Check, Moment, Choice, Choices, Names, Links}
use Rattle.sea_cell.specs.declared.row.Cell.{Cell}
use Rattle.sea_cell.specs.declared.row.Row.{Row}

-- A text after this many bytes that stand before it. Four bytes hold its length, so it has fewer than 2 ^ 32.
abbrev pub text_size : ℕ → List ℕ → Option ℕ
text_size before text = if nat_lt (length text) (2 ^ 32) then Some (before + length text) else None

-- texts, each with 4 bytes of length
abbrev pub texts_size : List (List ℕ) → Option ℕ
texts_size [] = Some 0
texts_size (text ∷ texts) = option_and_then (λ size. option_map (λ rest. size + rest) (texts_size texts)) (text_size 4 text)

-- A list has 4 bytes of key, 1 of tag, 1 of count, and its texts.
abbrev pub list_size : List (List ℕ) → Option ℕ
list_size texts = if nat_le (length texts) 255 then option_map (λ size. 6 + size) (texts_size texts) else None

-- A cell has 4 bytes of key, 1 of tag, and its content: a text and an option 4 of length and their own, a number and a
-- moment 8, a checkbox 1. Links are no cells of a row's encoding, and Empty is none.
abbrev pub cell_size : CellValue → Option ℕ
cell_size (Text text) = text_size 9 text
cell_size (Number units) = if is_amount units then Some 13 else None
cell_size (Check check) = Some 6
cell_size (Moment moment) = if is_in_range moment.0 then Some 13 else None
cell_size (Choice option) = text_size 9 option
cell_size (Choices options) = list_size options
cell_size (Names names) = list_size names
cell_size (Links ids) = None
cell_size Empty = None

-- the cells together
abbrev pub cells_size : List Cell → Option ℕ
cells_size [] = Some 0
cells_size (cell ∷ cells) = option_and_then (λ size. option_map (λ rest. size + rest) (cells_size cells)) (cell_size cell.value)

-- both moments lie in the range, and a byte holds the length of the id and the count of the cells
abbrev pub has_head : Row → Bool
has_head row = is_in_range row.made.0 && (is_in_range row.changed.0 && (nat_le (length row.id.0) 255 && nat_le (length row.cells) 255))

-- A row has 8 bytes of number, 8 of each moment, 1 of the id's length, the id, 1 of the count of cells, and the cells.
abbrev pub row_size : Row → Option ℕ
row_size row = if has_head row then option_map (λ cells. 26 + length row.id.0 + cells) (cells_size row.cells) else None

-- the size of the encoding, or 2 ^ 64 - 1 where there is none
abbrev pub row_bytes_of : Row → ℕ
row_bytes_of row = unwrap_or (row_size row) (2 ^ 64 - 1)
