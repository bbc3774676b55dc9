-- Which cell a column makes of what an operation says, and how a cell is shown.
use Rattle.std.specs.Prelude.{ℕ, ◌^◌, ◌&&◌, ℤ, pos, negsuc, List, length, map, ◌==◌, nat_lt, nat_le, Bool, if◌then◌else◌, Option, Some, None, Result, Ok, Err}
use Rattle.std.specs.List.{list_all}
use Rattle.serde_json.specs.Data.{Data, null, boolean, number, string, array}
use Rattle.serde_json.specs.Find.{of_integer}
use Rattle.serde_json.specs.View.{items_of}
use Rattle.sea_moment.specs.Dates.{moment_of, moment_text}
use Rattle.sea_text.specs.Distinct.{is_among, once}
use Rattle.sea_cell.specs.declared.keys.RowId.{RowId}
use Rattle.sea_cell.specs.declared.column.ColKind.{ColKind}
use Rattle.sea_cell.specs.declared.column.ColKind.TheVariants as kind
use Rattle.sea_cell.specs.declared.column.Column.{Column}
use Rattle.sea_cell.specs.declared.values.CellValue.{CellValue}
use Rattle.sea_cell.specs.declared.values.CellValue.TheVariants as cell
use Rattle.sea_cell.specs.declared.words.CellWord.{CellWord}
use Rattle.sea_cell.specs.declared.words.CellWord.TheVariants as word
use Rattle.sea_cell.specs.declared.conversion.CellFault.{CellFault}
use Rattle.sea_cell.specs.declared.conversion.CellFault.TheVariants as fault

-- a text in a column that takes this many bytes; the empty one is Empty
abbrev pub text_cell : ℕ → List ℕ → Result CellValue CellFault
text_cell limit text = if length text == 0 then Ok cell.Empty else (if nat_le (length text) limit then Ok (cell.Text text) else Err fault.TooLong)

-- the same of what an operation says
abbrev pub text_of_word : ℕ → CellWord → Result CellValue CellFault
text_of_word limit word.Null = Ok cell.Empty
text_of_word limit (word.Text text) = text_cell limit text
text_of_word limit _ = Err fault.NotText

-- a number of units that a cell can have: its absolute value is at most 10 ^ 12
abbrev pub is_amount : ℤ → Bool
is_amount (pos units) = nat_le units (10 ^ 12)
is_amount (negsuc units) = nat_lt units (10 ^ 12)

-- whole units
abbrev pub number_cell : ℤ → Result CellValue CellFault
number_cell units = if is_amount units then Ok (cell.Number units) else Err fault.OutOfRange

-- the same of what an operation says
unfoldable pub number_of_word : CellWord → Result CellValue CellFault
number_of_word word.Null = Ok cell.Empty
number_of_word (word.Whole units) = number_cell units
number_of_word _ = Err fault.NotWhole

-- a checkbox
unfoldable pub check_of_word : CellWord → Result CellValue CellFault
check_of_word word.Null = Ok cell.Empty
check_of_word (word.Check check) = Ok (cell.Check check)
check_of_word _ = Err fault.NotCheck

-- the moment that a text says
abbrev pub moment_cell : Option ℤ → Result CellValue CellFault
moment_cell None = Err fault.BadDate
moment_cell (Some minutes) = Ok (cell.Moment (record { 0 = minutes }))

-- a date, where an operation says one
unfoldable pub date_of_word : CellWord → Result CellValue CellFault
date_of_word word.Null = Ok cell.Empty
date_of_word (word.Text text) = moment_cell (moment_of text)
date_of_word _ = Err fault.NotText

-- one of the options; the empty text is Empty
abbrev pub choice_cell : List (List ℕ) → List ℕ → Result CellValue CellFault
choice_cell options text = if length text == 0 then Ok cell.Empty else (if is_among options text then Ok (cell.Choice text) else Err fault.NoOption)

-- the same of what an operation says
unfoldable pub choice_of_word : List (List ℕ) → CellWord → Result CellValue CellFault
choice_of_word options word.Null = Ok cell.Empty
choice_of_word options (word.Text text) = choice_cell options text
choice_of_word options _ = Err fault.NotText

-- texts without repeats that are all options
abbrev pub choices_once : List (List ℕ) → List (List ℕ) → Result CellValue CellFault
choices_once options texts = if nat_le (length texts) 64 then (if list_all (is_among options) texts then Ok (cell.Choices texts) else Err fault.NoOption) else Err fault.TooLong

-- options, of which each counts once; none is Empty
abbrev pub choices_cell : List (List ℕ) → List (List ℕ) → Result CellValue CellFault
choices_cell options texts = if length texts == 0 then Ok cell.Empty else choices_once options (once texts)

-- the same of what an operation says
unfoldable pub choices_of_word : List (List ℕ) → CellWord → Result CellValue CellFault
choices_of_word options word.Null = Ok cell.Empty
choices_of_word options (word.List texts) = choices_cell options texts
choices_of_word options _ = Err fault.NotList

-- a name that an item can be: at most 64 bytes
abbrev pub is_short : List ℕ → Bool
is_short text = nat_le (length text) 64

-- texts without repeats as names
abbrev pub names_once : List (List ℕ) → Result CellValue CellFault
names_once texts = if nat_le (length texts) 64 && list_all is_short texts then Ok (cell.Names texts) else Err fault.TooLong

-- names, of which each counts once; none is Empty
abbrev pub names_cell : List (List ℕ) → Result CellValue CellFault
names_cell texts = if length texts == 0 then Ok cell.Empty else names_once (once texts)

-- the same of what an operation says
unfoldable pub names_of_word : CellWord → Result CellValue CellFault
names_of_word word.Null = Ok cell.Empty
names_of_word (word.List texts) = names_cell texts
names_of_word _ = Err fault.NotList

-- By the column's type and its options. A text cell takes 1,000 bytes, a long-text cell 8,192. Links and the times of
-- making and of change are not written as cells.
abbrev pub cell_of_kind : ColKind → List (List ℕ) → CellWord → Result CellValue CellFault
cell_of_kind kind.Text options word = text_of_word 1000 word
cell_of_kind kind.LongText options word = text_of_word 8192 word
cell_of_kind kind.Number options word = number_of_word word
cell_of_kind kind.Check options word = check_of_word word
cell_of_kind kind.Date options word = date_of_word word
cell_of_kind kind.Select options word = choice_of_word options word
cell_of_kind kind.Multi options word = choices_of_word options word
cell_of_kind kind.People options word = names_of_word word
cell_of_kind _ options word = Err fault.NotWritable

abbrev pub cell_of : Column → CellWord → Result CellValue CellFault
cell_of column word = cell_of_kind column.kind column.options word

-- an array of texts
abbrev pub texts_json : List (List ℕ) → Data
texts_json texts = array (items_of (map string texts))

-- an array of ids
abbrev pub ids_json : List RowId → Data
ids_json ids = array (items_of (map (λ id. string id.0) ids))

-- A cell is shown as the JSON that it came from, but that a moment is printed anew, links as an array of ids, and an
-- empty cell as null.
abbrev pub json_of : CellValue → Data
json_of cell.Empty = null
json_of (cell.Text text) = string text
json_of (cell.Number units) = number (of_integer units)
json_of (cell.Check check) = boolean check
json_of (cell.Moment moment) = string (moment_text moment.0)
json_of (cell.Choice option) = string option
json_of (cell.Choices options) = texts_json options
json_of (cell.Names names) = texts_json names
json_of (cell.Links ids) = ids_json ids
