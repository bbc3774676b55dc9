-- When a cell meets a filter.
use Rattle.std.specs.Prelude.{ℕ, ◌&&◌, ◌||◌, List, [], ◌∷◌, Bool, true, false, not, nat_eq, int_lt, Option, Some, None}
use Rattle.std.specs.List.{list_all, list_any, starts_with}
use Rattle.std.specs.Option.{option_map_or}
use Rattle.std.specs.Bool.{beq}
use Rattle.std.specs.Ordering.{int_eq}
use Rattle.std.specs.Str.{bytes_eq}
use Rattle.sea_text.specs.Distinct.{is_among}
use Rattle.sea_cell.specs.declared.values.CellValue.{CellValue}
use Rattle.sea_cell.specs.declared.values.CellValue.TheVariants as cell
use Rattle.sea_cell.specs.declared.view.Term.{Term}
use Rattle.sea_cell.specs.declared.view.Term.TheVariants.{Nothing, Cell, Items}
use Rattle.sea_cell.specs.declared.view.Test.{Test}
use Rattle.sea_cell.specs.declared.view.Test.TheVariants as test

-- nothing stands in the cell
abbrev pub is_empty : CellValue → Bool
is_empty cell.Empty = true
is_empty _ = false

-- two values of one kind that are the same
abbrev pub is_same : CellValue → CellValue → Bool
is_same (cell.Text one) (cell.Text other) = bytes_eq one other
is_same (cell.Choice one) (cell.Choice other) = bytes_eq one other
is_same (cell.Number one) (cell.Number other) = int_eq one other
is_same (cell.Check one) (cell.Check other) = beq one other
is_same (cell.Moment one) (cell.Moment other) = int_eq one.0 other.0
is_same _ _ = false

-- two numbers or moments of which the first is less
abbrev pub is_less : CellValue → CellValue → Bool
is_less (cell.Number one) (cell.Number other) = int_lt one other
is_less (cell.Moment one) (cell.Moment other) = int_lt one.0 other.0
is_less _ _ = false

-- the text of a text cell or of a single option
abbrev pub text_in : CellValue → Option (List ℕ)
text_in (cell.Text text) = Some text
text_in (cell.Choice option) = Some option
text_in _ = None

-- a part stands somewhere in a text, by bytes
unfoldable pub has_part : List ℕ → List ℕ → Bool
has_part part [] = starts_with nat_eq [] part
has_part part (byte ∷ text) = starts_with nat_eq (byte ∷ text) part || has_part part text

-- the second cell's text stands in the first one's
abbrev pub contains : CellValue → CellValue → Bool
contains value part = option_map_or (λ text. option_map_or (λ found. has_part found text) (text_in part) false) (text_in value) false

-- the texts of a list cell
abbrev pub texts_in : CellValue → List (List ℕ)
texts_in (cell.Choices options) = options
texts_in (cell.Names names) = names
texts_in _ = []

-- the tests that compare with nothing
abbrev pub met_alone : Test → CellValue → Bool
met_alone test.IsEmpty value = is_empty value
met_alone test.IsNotEmpty value = not (is_empty value)
met_alone _ value = false

-- The tests that compare with a value. On an empty cell all but the two that say not are false.
abbrev pub met_by_value : Test → CellValue → CellValue → Bool
met_by_value test.Is value term = is_same value term
met_by_value test.IsNot value term = not (is_same value term)
met_by_value test.Contains value term = contains value term
met_by_value test.DoesNotContain value term = not (contains value term)
met_by_value test.Less value term = is_less value term
met_by_value test.LessOrEqual value term = is_less value term || is_same value term
met_by_value test.Greater value term = is_less term value
met_by_value test.GreaterOrEqual value term = is_less term value || is_same value term
met_by_value _ value term = false

-- the tests that compare a list with texts; an empty cell is the empty list
abbrev pub met_by_texts : Test → List (List ℕ) → List (List ℕ) → Bool
met_by_texts test.HasAnyOf items texts = list_any (is_among items) texts
met_by_texts test.HasAllOf items texts = list_all (is_among items) texts
met_by_texts test.HasNoneOf items texts = not (list_any (is_among items) texts)
met_by_texts test.IsExactly items texts = list_all (is_among items) texts && list_all (is_among texts) items
met_by_texts _ items texts = false

-- a cell meets a test with a term
abbrev pub met : Test → CellValue → Term → Bool
met test value Nothing = met_alone test value
met test value (Cell term) = met_by_value test value term
met test value (Items texts) = met_by_texts test (texts_in value) texts
