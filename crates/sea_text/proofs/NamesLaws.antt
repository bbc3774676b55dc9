-- What stands at the place of a name.
use Rattle.std.proofs.Common.{◌≡◌, ℕ, suc, ◌+◌, List, [], ◌∷◌, slice_get, Bool, true, false, cond, Option, Some, None, option_map, refl, sym, ap, ◌∙◌, arith}
use Rattle.std.specs.Str.{bytes_eq}
use Rattle.sea_text.specs.Named.{item_named, place_from, IsPlaces}

-- what stands at a place, where there is one
abbrev pub at_place : {T : Type 0} → List T → Option ℕ → Option T
at_place items None = None
at_place items (Some place) = slice_get items place

shift_by : (b : Bool) (start : ℕ) (rest : Option ℕ) → cond b (Some (suc start)) (option_map suc rest) ≡ option_map suc (cond b (Some start) rest)
shift_by true start rest = refl
shift_by false start rest = refl

-- from one place further each place is one further
place-suc : {T : Type 0} (name_of : T → List ℕ) (items : List T) (start : ℕ) (name : List ℕ) → place_from name_of (suc start) items name ≡ option_map suc (place_from name_of start items name)
place-suc name_of [] start name = refl
place-suc name_of (item ∷ items) start name =
    let further : suc start + 1 ≡ suc (start + 1) = omega arith in
    ap (λ (next : ℕ). cond (bytes_eq (name_of item) name) (Some (suc start)) (place_from name_of next items name)) further
    ∙ ap (λ (rest : Option ℕ). cond (bytes_eq (name_of item) name) (Some (suc start)) rest) (place-suc name_of items (start + 1) name)
    ∙ shift_by (bytes_eq (name_of item) name) start (place_from name_of (start + 1) items name)

behind : {T : Type 0} (item : T) (items : List T) (place : Option ℕ) → at_place items place ≡ at_place (item ∷ items) (option_map suc place)
behind item items None = refl
behind item items (Some place) = refl

first : {T : Type 0} (b : Bool) (item : T) (items : List T) (place : Option ℕ) → cond b (Some item) (at_place items place) ≡ at_place (item ∷ items) (cond b (Some 0) (option_map suc place))
first true item items place = refl
first false item items place = behind item items place

-- the first thing of a name stands at its place
named-place : {T : Type 0} (name_of : T → List ℕ) (items : List T) (name : List ℕ) → item_named name_of items name ≡ at_place items (place_from name_of 0 items name)
named-place name_of [] name = refl
named-place name_of (item ∷ items) name =
    ap (λ (rest : Option _). cond (bytes_eq (name_of item) name) (Some item) rest) (named-place name_of items name)
    ∙ first (bytes_eq (name_of item) name) item items (place_from name_of 0 items name)
    ∙ ap (λ (rest : Option ℕ). at_place (item ∷ items) (cond (bytes_eq (name_of item) name) (Some 0) rest)) (sym (place-suc name_of items 0 name))

pub named-at : {T : Type 0} (name_of : T → List ℕ) (places : List ℕ → Option ℕ) (items : List T) → IsPlaces name_of places items → (name : List ℕ) (place : Option ℕ) → place ≡ places name → at_place items place ≡ item_named name_of items name
named-at name_of places items are name place is = ap (at_place items) (is ∙ are name) ∙ sym (named-place name_of items name)
