-- What is found by name in a list.
use Rattle.std.specs.Prelude.{◌≡◌, ℕ, List, [], Option, Some, None, Bool, not, if◌then◌else◌}
use Rattle.std.specs.List.{find, position_from}
use Rattle.std.specs.Borrow.{Bor}
use Rattle.std.specs.Str.{bytes_eq}

-- the first thing of a name
abbrev pub item_named : {T : Type 0} → (T → List ℕ) → List T → List ℕ → Option T
item_named name_of items name = find (λ item. bytes_eq (name_of item) name) items

-- the things of a list that may not be there: none, where it isn't
abbrev pub listed : {T : Type 0} → Option (Bor (List T)) → List T
listed None = []
listed (Some items) = items.now

-- the place of the first thing of a name, where the list starts at a place
abbrev pub place_from : {T : Type 0} → (T → List ℕ) → ℕ → List T → List ℕ → Option ℕ
place_from name_of start items name = position_from (λ item. bytes_eq (name_of item) name) start items

-- places that tell of each name where the first thing of it is
abbrev pub IsPlaces : {T : Type 0} → (T → List ℕ) → (List ℕ → Option ℕ) → List T → Type 0
IsPlaces name_of places items = (name : List ℕ) → places name ≡ place_from name_of 0 items name

-- a thing of another name
abbrev pub has_another_name : {T : Type 0} → (T → List ℕ) → List ℕ → T → Bool
has_another_name name_of name item = not (bytes_eq (name_of item) name)

-- a thing of this name
abbrev pub is_named : {T : Type 0} → (T → List ℕ) → List ℕ → T → Bool
is_named name_of name item = bytes_eq (name_of item) name

-- a change of a thing, if it has this name
abbrev pub if_item_named : {T : Type 0} → (T → List ℕ) → List ℕ → (T → T) → T → T
if_item_named name_of name change item = if bytes_eq (name_of item) name then change item else item
