-- The types of columns: the words that name them, and the sort of their values.
use Rattle.std.specs.Prelude.{ℕ, List, [], ◌∷◌, Bool, true, false, Option, codes}
use Rattle.std.specs.List.{find}
use Rattle.std.specs.Str.{bytes_eq}
use Rattle.sea_cell.specs.declared.kinds.Sort.{Sort}
use Rattle.sea_cell.specs.declared.kinds.Sort.TheVariants as sort
use Rattle.sea_cell.specs.declared.column.ColKind.{ColKind}
use Rattle.sea_cell.specs.declared.column.ColKind.TheVariants as kind

-- the word of each type
abbrev pub word_of_kind : ColKind → List ℕ
word_of_kind kind.Text = codes "text"
word_of_kind kind.LongText = codes "long-text"
word_of_kind kind.Number = codes "number"
word_of_kind kind.Check = codes "checkbox"
word_of_kind kind.Date = codes "date"
word_of_kind kind.Select = codes "single-select"
word_of_kind kind.Multi = codes "multiple-select"
word_of_kind kind.People = codes "collaborator"
word_of_kind kind.Link = codes "link"
word_of_kind kind.Made = codes "ctime"
word_of_kind kind.Changed = codes "mtime"

-- each type once
abbrev pub all_kinds : List ColKind
all_kinds = kind.Text ∷ kind.LongText ∷ kind.Number ∷ kind.Check ∷ kind.Date ∷ kind.Select ∷ kind.Multi ∷ kind.People ∷ kind.Link ∷ kind.Made ∷ kind.Changed ∷ []

-- the type that a word names, where it names one
abbrev pub kind_of : List ℕ → Option ColKind
kind_of word = find (λ kind. bytes_eq (word_of_kind kind) word) all_kinds

-- the sort of a type's values
abbrev pub sort_of_kind : ColKind → Sort
sort_of_kind kind.Text = sort.Text
sort_of_kind kind.LongText = sort.Text
sort_of_kind kind.Number = sort.Number
sort_of_kind kind.Check = sort.Check
sort_of_kind kind.Date = sort.Moment
sort_of_kind kind.Select = sort.Text
sort_of_kind kind.Multi = sort.List
sort_of_kind kind.People = sort.List
sort_of_kind kind.Link = sort.List
sort_of_kind kind.Made = sort.Moment
sort_of_kind kind.Changed = sort.Moment

-- the types whose cells are options
abbrev pub has_options : ColKind → Bool
has_options kind.Select = true
has_options kind.Multi = true
has_options _ = false
