-- Which filters a column takes: what can be asked of its cells, and with what they can be compared.
use Rattle.std.specs.Prelude.{ℕ, ◌==◌, List, [], ◌∷◌, length, Bool, true, false, if◌then◌else◌, Option, Some, None, option_map, Result, Ok, Err, codes}
use Rattle.std.specs.List.{find}
use Rattle.std.specs.Str.{bytes_eq}
use Rattle.sea_cell.specs.Conversion.{cell_of_kind, date_of_word}
use Rattle.sea_cell.specs.Kinds.{sort_of_kind}
use Rattle.sea_cell.specs.declared.conversion.CellFault.{CellFault}
use Rattle.sea_cell.specs.declared.kinds.Sort.{Sort}
use Rattle.sea_cell.specs.declared.kinds.Sort.TheVariants as sort
use Rattle.sea_cell.specs.declared.column.ColKind.{ColKind}
use Rattle.sea_cell.specs.declared.column.ColKind.TheVariants as kind
use Rattle.sea_cell.specs.declared.view.Term.{Term}
use Rattle.sea_cell.specs.declared.view.Term.TheVariants.{Nothing, Cell, Items}
use Rattle.sea_cell.specs.declared.view.Test.{Test}
use Rattle.sea_cell.specs.declared.view.Test.TheVariants as test
use Rattle.sea_cell.specs.declared.values.CellValue.{CellValue}
use Rattle.sea_cell.specs.declared.values.CellValue.TheVariants as cell
use Rattle.sea_cell.specs.declared.words.CellWord.{CellWord}
use Rattle.sea_cell.specs.declared.words.CellWord.TheVariants as word

-- ---- predicates

-- the word of each test
abbrev pub word_of_test : Test → List ℕ
word_of_test test.Is = codes "is"
word_of_test test.IsNot = codes "is_not"
word_of_test test.Contains = codes "contains"
word_of_test test.DoesNotContain = codes "does_not_contain"
word_of_test test.Less = codes "less"
word_of_test test.LessOrEqual = codes "less_or_equal"
word_of_test test.Greater = codes "greater"
word_of_test test.GreaterOrEqual = codes "greater_or_equal"
word_of_test test.HasAnyOf = codes "has_any_of"
word_of_test test.HasAllOf = codes "has_all_of"
word_of_test test.HasNoneOf = codes "has_none_of"
word_of_test test.IsExactly = codes "is_exactly"
word_of_test test.IsEmpty = codes "is_empty"
word_of_test test.IsNotEmpty = codes "is_not_empty"

-- each test once
abbrev pub all_tests : List Test
all_tests = test.Is ∷ test.IsNot ∷ test.Contains ∷ test.DoesNotContain ∷ test.Less ∷ test.LessOrEqual ∷ test.Greater ∷ test.GreaterOrEqual ∷ test.HasAnyOf ∷ test.HasAllOf ∷ test.HasNoneOf ∷ test.IsExactly ∷ test.IsEmpty ∷ test.IsNotEmpty ∷ []

-- the test that a word names, where it names one
abbrev pub test_of : List ℕ → Option Test
test_of word = find (λ test. bytes_eq (word_of_test test) word) all_tests

-- ---- which tests a column takes

-- the tests that values of a sort take, beside whether there is one
abbrev pub sort_takes : Sort → Test → Bool
sort_takes sort.Text test.Is = true
sort_takes sort.Text test.IsNot = true
sort_takes sort.Text test.Contains = true
sort_takes sort.Text test.DoesNotContain = true
sort_takes sort.Number test.Is = true
sort_takes sort.Number test.IsNot = true
sort_takes sort.Number test.Less = true
sort_takes sort.Number test.LessOrEqual = true
sort_takes sort.Number test.Greater = true
sort_takes sort.Number test.GreaterOrEqual = true
sort_takes sort.Check test.Is = true
sort_takes sort.Moment test.Is = true
sort_takes sort.Moment test.IsNot = true
sort_takes sort.Moment test.Less = true
sort_takes sort.Moment test.LessOrEqual = true
sort_takes sort.Moment test.Greater = true
sort_takes sort.Moment test.GreaterOrEqual = true
sort_takes sort.List test.HasAnyOf = true
sort_takes sort.List test.HasAllOf = true
sort_takes sort.List test.HasNoneOf = true
sort_takes sort.List test.IsExactly = true
sort_takes _ test.IsEmpty = true
sort_takes _ test.IsNotEmpty = true
sort_takes _ _ = false

-- link columns take no filter
abbrev pub takes_test : ColKind → Test → Bool
takes_test kind.Link test = false
takes_test kind test = sort_takes (sort_of_kind kind) test

-- ---- with what they are compared

-- a cell that isn't empty
abbrev pub some_value : Result CellValue CellFault → Option CellValue
some_value (Ok cell.Empty) = None
some_value (Ok value) = Some value
some_value (Err _) = None

-- a text that isn't empty
abbrev pub some_text : CellWord → Option (List ℕ)
some_text (word.Text text) = if length text == 0 then None else Some text
some_text _ = None

-- The value that a cell of this type is compared with: one that it could have. An option needn't be one of the column,
-- and the times of making and of change are compared with what a date is.
abbrev pub value_of_term : ColKind → CellWord → Option CellValue
value_of_term kind.Select word = option_map cell.Choice (some_text word)
value_of_term kind.Made word = some_value (date_of_word word)
value_of_term kind.Changed word = some_value (date_of_word word)
value_of_term kind.Multi word = None
value_of_term kind.People word = None
value_of_term kind word = some_value (cell_of_kind kind [] word)

-- nothing, of which null is the word
abbrev pub no_term : CellWord → Option Term
no_term word.Null = Some Nothing
no_term _ = None

-- a part of a text
abbrev pub part_term : CellWord → Option Term
part_term word = option_map (λ text. Cell (cell.Text text)) (some_text word)

-- texts
abbrev pub items_term : CellWord → Option Term
items_term (word.List texts) = Some (Items texts)
items_term _ = None

-- a value
abbrev pub value_term : ColKind → CellWord → Option Term
value_term kind word = option_map Cell (value_of_term kind word)

-- the term of a test that a column of this type takes
unfoldable pub term_for : ColKind → Test → CellWord → Option Term
term_for kind test.IsEmpty word = no_term word
term_for kind test.IsNotEmpty word = no_term word
term_for kind test.Contains word = part_term word
term_for kind test.DoesNotContain word = part_term word
term_for kind test.HasAnyOf word = items_term word
term_for kind test.HasAllOf word = items_term word
term_for kind test.HasNoneOf word = items_term word
term_for kind test.IsExactly word = items_term word
term_for kind _ word = value_term kind word

-- what a filter compares with, where a column of this type takes the test and the word fits it
abbrev pub term_of : ColKind → Test → CellWord → Option Term
term_of kind test word = if takes_test kind test then term_for kind test word else None
