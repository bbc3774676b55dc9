-- Cells by rising key: where a key stands, and what an edit at its place makes.
use Rattle.std.proofs.Common.{◌≡◌, ℕ, zero, suc, ◌<◌, ◌≤◌, List, [], ◌∷◌, ◌++◌, length, get_or, take, drop, filter, slice_set, Bool, true, false, cond, Some, None, ◌≢◌, Result, OnOk, OnErr, ltb-true, Ok, Err, IfOk, IfErr, refl, sym, ap, ◌∙◌, arith}
use Rattle.std.specs.List.{AllByRecursion, insert, remove}
use Rattle.std.proofs.lemmas.List.{set_split, take-append-drop}
use Rattle.std.specs.List.Sorted.{IsSearchInRange, IsBinarySearchResult, IsNonDecreasingBy}
use Rattle.std.specs.Ordering.{nat_cmp, ordering_index}
use Rattle.std.proofs.lemmas.Cmp.{ranked}
use Rattle.std.proofs.lemmas.List.Sorted.{IsNonDecreasingBy-from_default}
use Rattle.std.proofs.lemmas.Bool.Decides.{nat_tests}
use Rattle.sea_cell.specs.Cells.{IsAbove, IsRising, IsCells, IsFilled, cell_under, stored, below, above, with_cell, key_at, IsAt, IsGap}
use Rattle.sea_cell.specs.declared.keys.ColKey.{ColKey}
use Rattle.sea_cell.specs.declared.values.CellValue.{CellValue}
use Rattle.sea_cell.specs.declared.values.CellValue.TheVariants.{Empty}
use Rattle.sea_cell.specs.declared.row.Cell.{Cell}

-- a cell that is never read, for places past the end
abbrev pub no_cell : Cell
no_cell = record { key = record { 0 = 0 }; value = Empty }

-- each place of cells above a key is above it
pub above_at : (key : ColKey) (cells : List Cell) → IsAbove key cells → (j : ℕ) → j < length cells → key.0 < key_at cells j
above_at key [] h j lt = absurd (omega arith)
above_at key (cell ∷ cells) h zero lt = h.0
above_at key (cell ∷ cells) h (suc j) lt = above_at key cells h.1 j (omega arith)

-- an earlier place has the smaller key
pub rising_at : (cells : List Cell) → IsRising cells → (i j : ℕ) → i < j → j < length cells → key_at cells i < key_at cells j
rising_at [] h i j lt within = absurd (omega arith)
rising_at (cell ∷ cells) h i zero lt within = absurd (omega arith)
rising_at (cell ∷ cells) h zero (suc j) lt within = above_at cell.key cells h.0 j (omega arith)
rising_at (cell ∷ cells) h (suc i) (suc j) lt within = rising_at cells h.1 i j (omega arith) (omega arith)

-- the cells below a key are those before its place
pub below-take : (cells : List Cell) (key : ColKey) (place : ℕ) → ((i : ℕ) → i < place → key_at cells i < key.0) → ((i : ℕ) → place ≤ i → i < length cells → key.0 ≤ key_at cells i) → below key cells ≡ take place cells
below-take [] key zero before after = refl
below-take [] key (suc place) before after = refl
below-take (cell ∷ cells) key zero before after = grind (arith, nat_tests, after 0, below-take cells key zero (λ i lt. absurd (omega arith)) (λ i le lt. after (suc i) (omega arith) (omega arith)))
below-take (cell ∷ cells) key (suc place) before after = grind (arith, nat_tests, before 0, below-take cells key place (λ i lt. before (suc i) (omega arith)) (λ i le lt. after (suc i) (omega arith) (omega arith)))

-- the cells above a key are those from a place on
pub above-drop : (cells : List Cell) (key : ColKey) (place : ℕ) → ((i : ℕ) → i < place → i < length cells → key_at cells i ≤ key.0) → ((i : ℕ) → place ≤ i → i < length cells → key.0 < key_at cells i) → above key cells ≡ drop place cells
above-drop [] key zero before after = refl
above-drop [] key (suc place) before after = refl
above-drop (cell ∷ cells) key zero before after = grind (arith, nat_tests, after 0, above-drop cells key zero (λ i lt. absurd (omega arith)) (λ i le lt. after (suc i) (omega arith) (omega arith)))
above-drop (cell ∷ cells) key (suc place) before after = grind (arith, nat_tests, before 0, above-drop cells key place (λ i lt within. before (suc i) (omega arith) (omega arith)) (λ i le lt. after (suc i) (omega arith) (omega arith)))

module _ (cells : List Cell) (rising : IsRising cells) (key : ColKey) where
  -- the comparisons with a key rise along the cells, as a binary search asks
  comparisons_rise : IsNonDecreasingBy (λ cell. ordering_index (nat_cmp cell.key.0 key.0)) cells
  comparisons_rise = IsNonDecreasingBy-from_default (λ cell. ordering_index (nat_cmp cell.key.0 key.0)) cells no_cell (λ i j le within.
      let keys_rise : key_at cells i ≤ key_at cells j = grind (arith, rising_at cells rising i j, λ (same : i ≡ j). ap (key_at cells) same) in
      grind (arith, nat_tests))

  -- a binary search ends at the key, or at the gap for it
  pub searched : (r : Result ℕ ℕ) → IsSearchInRange r (length cells) → IsBinarySearchResult (λ cell. nat_cmp cell.key.0 key.0) cells r → record { found : IfOk r (IsAt cells key); absent : IfErr r (IsGap cells key) }
  searched (Ok place) within equal = record { found = record { within = within; same = ranked _ key.0 _ (sym (equal no_cell)) }; absent = tt }
  searched (Err place) within parted = record {
    found = tt;
    absent = record {
      within = within;
      before = λ i lt. ranked _ key.0 _ (sym ((parted comparisons_rise).0 i no_cell (omega arith) lt));
      after = λ i le lt. ranked _ key.0 _ (sym ((parted comparisons_rise).1 i no_cell le lt));
    };
  }

-- where a key stands, the cells below it are those before the place, and those above it those behind
pub split_at_key : (cells : List Cell) → IsRising cells → (key : ColKey) (place : ℕ) → IsAt cells key place → record { before : below key cells ≡ take place cells; behind : above key cells ≡ drop (suc place) cells }
split_at_key cells rising key place at = record {
  before = below-take cells key place (λ i lt. omega (arith, rising_at cells rising i place lt at.within, at.same)) (λ i le lt. grind (arith, rising_at cells rising place i, at.same, λ (same : place ≡ i). ap (key_at cells) same));
  behind = above-drop cells key (suc place) (λ i lt within. grind (arith, rising_at cells rising i place, at.within, at.same, λ (same : i ≡ place). ap (key_at cells) same)) (λ i le lt. omega (arith, rising_at cells rising place i (omega arith) lt, at.same));
}

-- in a gap, the cells below the key are those before the place, and those above it the rest
pub split_at_gap : (cells : List Cell) (key : ColKey) (place : ℕ) → IsGap cells key place → record { before : below key cells ≡ take place cells; behind : above key cells ≡ drop place cells }
split_at_gap cells key place gap = record {
  before = below-take cells key place gap.before (λ i le lt. omega (arith, gap.after i le lt));
  behind = above-drop cells key place (λ i lt within. omega (arith, gap.before i lt)) gap.after;
}

-- the value where a key stands
pub cell_under-at : (cells : List Cell) (key : ColKey) (place : ℕ) → ((i : ℕ) → i < place → key_at cells i < key.0) → IsAt cells key place → cell_under cells key ≡ Some (get_or cells place no_cell).value
cell_under-at [] key place before at = absurd (omega (arith, at.within))
cell_under-at (cell ∷ cells) key zero before at = grind (arith, nat_tests, at.same)
cell_under-at (cell ∷ cells) key (suc place) before at = grind (arith, nat_tests, before 0 (omega arith), cell_under-at cells key place (λ i lt. before (suc i) (omega arith)) (record { within = omega (arith, at.within); same = at.same }))

-- no value where no cell has the key
pub cell_under-none : (cells : List Cell) (key : ColKey) → ((i : ℕ) → i < length cells → key_at cells i ≢ key.0) → cell_under cells key ≡ None
cell_under-none [] key other = refl
cell_under-none (cell ∷ cells) key other = grind (arith, nat_tests, other 0 (omega arith), cell_under-none cells key (λ i lt. other (suc i) (omega arith)))

-- what holds of each element of two lists holds of each of both
all-append : {X : Type 0} (P : X → Type 0) (xs ys : List X) → AllByRecursion P xs → AllByRecursion P ys → AllByRecursion P (xs ++ ys)
all-append P [] ys h k = k
all-append P (x ∷ xs) ys h k = (h.0, all-append P xs ys h.1 k)

-- what follows for each element
all-weaker : {X : Type 0} (P Q : X → Type 0) → ((x : X) → P x → Q x) → (xs : List X) → AllByRecursion P xs → AllByRecursion Q xs
all-weaker P Q f [] h = tt
all-weaker P Q f (x ∷ xs) h = (f x h.0, all-weaker P Q f xs h.1)

-- one element more or less at the front
all-cond : {X : Type 0} (P : X → Type 0) (b : Bool) (x : X) (xs : List X) → (b ≡ true → P x) → AllByRecursion P xs → AllByRecursion P (cond b (x ∷ xs) xs)
all-cond P true x xs h k = (h refl, k)
all-cond P false x xs h k = k

-- a filter keeps what holds of each element
all-filter : {X : Type 0} (P : X → Type 0) (test : X → Bool) (xs : List X) → AllByRecursion P xs → AllByRecursion P (filter test xs)
all-filter P test [] h = tt
all-filter P test (x ∷ xs) h = all-cond P (test x) x (filter test xs) (λ _. h.0) (all-filter P test xs h.1)

-- and each element that it leaves passes its test
all-passed : {X : Type 0} (P : X → Type 0) (test : X → Bool) → ((x : X) → test x ≡ true → P x) → (xs : List X) → AllByRecursion P (filter test xs)
all-passed P test passes [] = tt
all-passed P test passes (x ∷ xs) = all-cond P (test x) x (filter test xs) (passes x) (all-passed P test passes xs)

-- a filter keeps the order
rising-cond : (b : Bool) (cell : Cell) (cells : List Cell) → IsAbove cell.key cells → IsRising cells → IsRising (cond b (cell ∷ cells) cells)
rising-cond true cell cells h k = (h, k)
rising-cond false cell cells h k = k

rising-filter : (test : Cell → Bool) (cells : List Cell) → IsRising cells → IsRising (filter test cells)
rising-filter test [] h = tt
rising-filter test (cell ∷ cells) h = rising-cond (test cell) cell (filter test cells) (all-filter _ test cells h.0) (rising-filter test cells h.1)

-- cells below a key, and then cells from it on
rising-append : (key : ColKey) (xs ys : List Cell) → IsRising xs → IsRising ys → AllByRecursion (λ x. x.key.0 < key.0) xs → AllByRecursion (λ y. key.0 ≤ y.key.0) ys → IsRising (xs ++ ys)
rising-append key [] ys h k low high = k
rising-append key (x ∷ xs) ys h k low high = (all-append _ xs ys h.0 (all-weaker _ _ (λ y le. omega (arith, le, low.0)) ys high), rising-append key xs ys h.1 k low.1 high)

-- the stored value, and then the cells above its key
rising-stored : (key : ColKey) (value : CellValue) (cells : List Cell) → IsRising cells → IsAbove key cells → IsRising (stored key value ++ cells)
rising-stored key Empty cells h k = h
rising-stored key (CellValue.Text _) cells h k = (k, h)
rising-stored key (CellValue.Number _) cells h k = (k, h)
rising-stored key (CellValue.Check _) cells h k = (k, h)
rising-stored key (CellValue.Moment _) cells h k = (k, h)
rising-stored key (CellValue.Choice _) cells h k = (k, h)
rising-stored key (CellValue.Choices _) cells h k = (k, h)
rising-stored key (CellValue.Names _) cells h k = (k, h)
rising-stored key (CellValue.Links _) cells h k = (k, h)

-- what holds of a stored value holds of each of the cells that store it
all-stored : (P : Cell → Type 0) (key : ColKey) (value : CellValue) → (IsFilled value → P (record { key = key; value = value })) → AllByRecursion P (stored key value)
all-stored P key Empty h = tt
all-stored P key (CellValue.Text _) h = (h tt, tt)
all-stored P key (CellValue.Number _) h = (h tt, tt)
all-stored P key (CellValue.Check _) h = (h tt, tt)
all-stored P key (CellValue.Moment _) h = (h tt, tt)
all-stored P key (CellValue.Choice _) h = (h tt, tt)
all-stored P key (CellValue.Choices _) h = (h tt, tt)
all-stored P key (CellValue.Names _) h = (h tt, tt)
all-stored P key (CellValue.Links _) h = (h tt, tt)

-- cells stay cells when a value is put under a key
pub cells-with_cell : (cells : List Cell) (key : ColKey) (value : CellValue) → IsCells cells → IsCells (with_cell cells key value)
cells-with_cell cells key value h =
    let kept_above : IsAbove key (above key cells) = all-passed _ _ (λ cell passed. ltb-true _ _ passed) cells in
    let from_key : AllByRecursion (λ cell. key.0 ≤ cell.key.0) (stored key value ++ above key cells) = all-append _ (stored key value) (above key cells) (all-stored _ key value (λ _. omega arith)) (all-weaker _ _ (λ cell lt. omega (arith, lt)) (above key cells) kept_above) in
    record {
      rising = rising-append key (below key cells) (stored key value ++ above key cells) (rising-filter _ cells h.rising) (rising-stored key value (above key cells) (rising-filter _ cells h.rising) kept_above) (all-passed _ _ (λ cell passed. ltb-true _ _ passed) cells) from_key;
      filled = all-append _ (below key cells) (stored key value ++ above key cells) (all-filter _ _ cells h.filled) (all-append _ (stored key value) (above key cells) (all-stored _ key value (λ filled. filled)) (all-filter _ _ cells h.filled));
    }

-- whether or not memory was there
pub cells-put : {T E : Type 0} (r : Result T E) (old new : List Cell) (key : ColKey) (value : CellValue) → OnOk r (new ≡ with_cell old key value) → OnErr r (new ≡ old) → IsCells old → IsCells new
cells-put (Ok _) old new key value ok err h = rw ok (cells-with_cell old key value h)
cells-put (Err _) old new key value ok err h = rw err h

-- a value that is not Empty is stored
pub stored-filled : (key : ColKey) (value : CellValue) → value ≢ Empty → stored key value ≡ record { key = key; value = value } ∷ []
stored-filled key Empty h = absurd (h refl)
stored-filled key (CellValue.Text _) h = refl
stored-filled key (CellValue.Number _) h = refl
stored-filled key (CellValue.Check _) h = refl
stored-filled key (CellValue.Moment _) h = refl
stored-filled key (CellValue.Choice _) h = refl
stored-filled key (CellValue.Choices _) h = refl
stored-filled key (CellValue.Names _) h = refl
stored-filled key (CellValue.Links _) h = refl

module _ (cells : List Cell) (rising : IsRising cells) (key : ColKey) (place : ℕ) (at : IsAt cells key place) where
  -- Empty in the place of a value removes its cell
  pub with_cell-removed : (value : CellValue) → value ≡ Empty → remove cells place ≡ with_cell cells key value
  with_cell-removed value empty = let split = split_at_key cells rising key place at in rw (empty, split.before, split.behind) refl

  -- another value takes its place
  pub with_cell-set : (value : CellValue) → value ≢ Empty → slice_set cells place (record { key = key; value = value }) ≡ with_cell cells key value
  with_cell-set value filled =
      let split = split_at_key cells rising key place at in
      set_split cells place (record { key = key; value = value }) at.within ∙ rw (stored-filled key value filled, split.before, split.behind) refl

module _ (cells : List Cell) (key : ColKey) (place : ℕ) (gap : IsGap cells key place) where
  -- Empty changes nothing where there is no cell
  pub with_cell-none : (value : CellValue) → value ≡ Empty → cells ≡ with_cell cells key value
  with_cell-none value empty = let split = split_at_gap cells key place gap in rw (empty, split.before, split.behind) (sym (take-append-drop place cells))

  -- another value goes into the gap
  pub with_cell-inserted : (value : CellValue) → value ≢ Empty → insert cells place (record { key = key; value = value }) ≡ with_cell cells key value
  with_cell-inserted value filled = let split = split_at_gap cells key place gap in rw (stored-filled key value filled, split.before, split.behind) refl
