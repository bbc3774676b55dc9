-- What comes first in a list, said without a count or a memory of what came before.
use Rattle.std.specs.Prelude.{◌≡◌, ℕ, List, ◌∷◌, ◌++◌, length, Bool, true, false, ◌||◌, is_some, Ok, Err}
use Rattle.std.specs.List.{list_all, list_any}
use Rattle.sea_text.specs.Distinct.{is_among, once}
use Rattle.sea_cell.specs.declared.column.Column.{Column}
use Rattle.sea_operation.specs.declared.base.Plain.{Plain}
use Rattle.sea_operation.specs.declared.operation.Entry.{Entry}
use Rattle.sea_operation.specs.declared.operation.NewFilter.{NewFilter}
use Rattle.sea_operation.specs.declared.refusal.OpRefusal.{OpRefusal}
use Rattle.sea_operation.specs.Apply.{apply, after}
use Rattle.sea_operation.specs.Viewed.{filter_of}

-- texts that are not in use, none of which stands twice
pub record AreFresh (used : List ℕ → Bool) (texts : List (List ℕ)) : Type 0 where
  pub unused : list_any used texts ≡ false
  pub different : once texts ≡ texts

-- a text that is in use or stands among those before it, which are fresh
pub record IsFirstRepeat (used : List ℕ → Bool) (texts : List (List ℕ)) (text : List ℕ) : Type 0 where
  pub front : List (List ℕ)
  pub behind : List (List ℕ)
  pub parts : texts ≡ front ++ text ∷ behind
  pub repeats : (used text || is_among front text) ≡ true
  pub fresh : AreFresh used front

-- a filter that fits one of these columns
abbrev pub fits : List Column → NewFilter → Bool
fits columns filter = is_some (filter_of columns filter)

-- the filter in this place doesn't fit, and those before it do
pub record IsFirstBad (columns : List Column) (filters : List NewFilter) (at : ℕ) : Type 0 where
  pub front : List NewFilter
  pub filter : NewFilter
  pub behind : List NewFilter
  pub parts : filters ≡ front ++ filter ∷ behind
  pub place : length front ≡ at
  pub fit : list_all (fits columns) front ≡ true
  pub bad : fits columns filter ≡ false

-- the entry in this place is refused by the base that those before it make
pub record IsFirstRefused (base : Plain) (entries : List Entry) (at : ℕ) (refusal : OpRefusal) : Type 0 where
  pub front : List Entry
  pub entry : Entry
  pub behind : List Entry
  pub made : Plain
  pub parts : entries ≡ front ++ entry ∷ behind
  pub place : length front ≡ at
  pub taken : after base front ≡ Ok made
  pub refused : apply made entry ≡ Err refusal

-- the last entry makes the base of what those before it make
pub record IsLastTaken (base : Plain) (before : List Entry) (entry : Entry) (final : Plain) : Type 0 where
  pub made : Plain
  pub taken : after base before ≡ Ok made
  pub last : apply made entry ≡ Ok final
