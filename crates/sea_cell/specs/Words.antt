-- What an operation says of a cell.
use Rattle.std.specs.Prelude.{ℕ, List, [], ◌∷◌, Option, Some, None, option_map, option_and_then}
use Rattle.serde_json.specs.Data.{Data, null, boolean, number, string, array, object, Items, no_items, item}
use Rattle.serde_json.specs.Find.{as_str, as_integer}
use Rattle.sea_cell.specs.declared.words.CellWord.{CellWord}
use Rattle.sea_cell.specs.declared.words.CellWord.TheVariants.{Null, Check, Whole, Text, List as TextList, Odd}

-- the texts of an array of nothing but strings
abbrev pub texts_of : Items → Option (List (List ℕ))
texts_of no_items = Some []
texts_of (item json items) = option_and_then (λ text. option_map (λ texts. text ∷ texts) (texts_of items)) (as_str json)

-- what there is, or Odd
abbrev pub or_odd : Option CellWord → CellWord
or_odd None = Odd
or_odd (Some word) = word

-- a number is Whole where it is an integer of 64 bits, with or without sign
abbrev pub word_of : Data → CellWord
word_of null = Null
word_of (boolean check) = Check check
word_of (number json) = or_odd (option_map Whole (as_integer json))
word_of (string text) = Text text
word_of (array items) = or_odd (option_map TextList (texts_of items))
word_of (object _) = Odd
