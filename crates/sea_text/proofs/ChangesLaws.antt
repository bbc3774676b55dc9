-- Things that are changed in their places, from the last one to the first.
use Rattle.std.proofs.Common.{◌≡◌, ℕ, suc, ◌+◌, ◌-◌, ◌<◌, ◌≤◌, List, [], ◌∷◌, ◌++◌, length, get_or, slice_set, take, drop, map, filter, Bool, true, false, cond, ◌&&◌, Option, Some, refl, sym, ap, ◌∙◌, arith, append-nil, drop-cons}
use Rattle.std.specs.List.{list_all}
use Rattle.std.specs.Str.{bytes_eq}
use Rattle.std.proofs.Math.Seq.{take-suc, append_snoc, get_or-append_seam, set-append_seam}
use Rattle.std.proofs.lemmas.List.{length-take-le, map-append}
use Rattle.std.proofs.lemmas.List.Elements.{filter-append}
use Rattle.std.proofs.lemmas.Slice.Eq.{bytes_eq-Decides}
use Rattle.sea_text.specs.Named.{place_from, is_named, if_item_named, IsPlaces}

-- a change of a thing, if a test picks it
abbrev pub if_picked : {T : Type 0} → (T → Bool) → (T → T) → T → T
if_picked picks change item = cond (picks item) (change item) item

module _ {T : Type 0} (picks : T → Bool) (change : T → T) (all : List T) where
  -- what stands once those from a place on were gone through, and what is still to be put
  abbrev pub changed_from : ℕ → List T
  changed_from at = take at all ++ map (if_picked picks change) (drop at all)

  abbrev pub left_before : ℕ → List T
  left_before at = map change (filter picks (take at all))

  module _ (at : ℕ) (item : T) (within : at < length all) where
    before : length (take at all) ≡ at
    before = length-take-le at all (omega (arith, within))

    abbrev behind : List T
    behind = map (if_picked picks change) (drop (suc at) all)

    seam : changed_from (suc at) ≡ take at all ++ get_or all at item ∷ behind
    seam = ap (λ (first : List T). first ++ behind) (take-suc all at item within) ∙ append_snoc (take at all) (get_or all at item) behind

    pub at_seam : item ≡ get_or (changed_from (suc at)) at item → item ≡ get_or all at item
    at_seam read =
        read
        ∙ ap (λ (items : List T). get_or items at item) seam
        ∙ ap (λ (place : ℕ). get_or (take at all ++ get_or all at item ∷ behind) place item) (sym before)
        ∙ get_or-append_seam (take at all) (get_or all at item) behind item

    here : (b : Bool) → picks (get_or all at item) ≡ b → changed_from at ≡ take at all ++ cond b (change (get_or all at item)) (get_or all at item) ∷ behind
    here b is = ap (λ (items : List T). take at all ++ map (if_picked picks change) items) (drop-cons all at item within) ∙ ap (λ (b : Bool). take at all ++ cond b (change (get_or all at item)) (get_or all at item) ∷ behind) is

    left : (b : Bool) → picks (get_or all at item) ≡ b → left_before (suc at) ≡ left_before at ++ cond b (change (get_or all at item) ∷ []) []
    left b is =
        ap (λ (items : List T). map change (filter picks items)) (take-suc all at item within)
        ∙ ap (map change) (filter-append picks (take at all) (get_or all at item ∷ []))
        ∙ map-append change (filter picks (take at all)) (filter picks (get_or all at item ∷ []))
        ∙ ap (λ (b : Bool). left_before at ++ map change (cond b (get_or all at item ∷ []) [])) is
        ∙ by b
      where
        by : (b : Bool) → left_before at ++ map change (cond b (get_or all at item ∷ []) []) ≡ left_before at ++ cond b (change (get_or all at item) ∷ []) []
        by true = refl
        by false = refl

    pub turn-put : picks (get_or all at item) ≡ true → slice_set (changed_from (suc at)) at (change (get_or all at item)) ≡ changed_from at
    turn-put is =
        ap (λ (items : List T). slice_set items at (change (get_or all at item))) seam
        ∙ ap (λ (place : ℕ). slice_set (take at all ++ get_or all at item ∷ behind) place (change (get_or all at item))) (sym before)
        ∙ set-append_seam (take at all) (get_or all at item) behind (change (get_or all at item))
        ∙ sym (here true is)

    pub turn-left : picks (get_or all at item) ≡ false → changed_from (suc at) ≡ changed_from at
    turn-left is = seam ∙ sym (here false is)

  module _ (full : ℕ) (items : List T) (item : T) (within : full ≤ length all) (some : 0 < full) (are : items ≡ changed_from full) (read : item ≡ get_or items (full - 1) item) where
    again : full ≡ suc (full - 1)
    again = omega (arith, some)

    inside : full - 1 < length all
    inside = omega (arith, within, some)

    whole : items ≡ changed_from (suc (full - 1))
    whole = are ∙ ap changed_from again

    found : item ≡ get_or all (full - 1) item
    found = at_seam (full - 1) item inside (read ∙ ap (λ (list : List T). get_or list (full - 1) item) whole)

    picked : (b : Bool) → picks item ≡ b → picks (get_or all (full - 1) item) ≡ b
    picked b is = ap picks (sym found) ∙ is

    -- the turn at a thing that stays as it is
    pub next-stays : (news : List T) → picks item ≡ false → news ≡ left_before full → (items ≡ changed_from (full - 1)) × (news ≡ left_before (full - 1))
    next-stays news is rest = (whole ∙ turn-left (full - 1) item inside (picked false is), rest ∙ ap left_before again ∙ left (full - 1) item inside false (picked false is) ∙ append-nil (left_before (full - 1)))

    -- the turn at a thing in whose place the last one is put
    pub next-put : (news after rest : List T) → picks item ≡ true → news ≡ left_before full → ((others : List T) (last : T) → news ≡ others ++ last ∷ [] → (rest ≡ others) × (after ≡ slice_set items (full - 1) last)) → (after ≡ changed_from (full - 1)) × (rest ≡ left_before (full - 1))
    next-put news after rest is made put =
        let done = put (left_before (full - 1)) (change (get_or all (full - 1) item)) (made ∙ ap left_before again ∙ left (full - 1) item inside true (picked true is)) in
        (done.1 ∙ ap (λ (list : List T). slice_set list (full - 1) (change (get_or all (full - 1) item))) whole ∙ turn-put (full - 1) item inside (picked true is), done.0)

-- of things that keep their name each stays where it was found
both_first : (a b : Bool) → (a && b) ≡ true → a ≡ true
both_first true b h = refl
both_first false b h = h

both_second : (a b : Bool) → (a && b) ≡ true → b ≡ true
both_second true b h = h
both_second false b h = cc h

module _ {T : Type 0} (name_of : T → List ℕ) (name : List ℕ) (change : T → T) where
  -- what the change makes of the things of the name keeps it
  abbrev pub all_keep : List T → Type 0
  all_keep items = list_all (is_named name_of name) (map change (filter (is_named name_of name) items)) ≡ true

  one_keeps : (b : Bool) (item : T) (rest : List T) → is_named name_of name item ≡ b → list_all (is_named name_of name) (map change (cond b (item ∷ rest) rest)) ≡ true → name_of (cond b (change item) item) ≡ name_of item
  one_keeps true item rest is keep = (bytes_eq-Decides _ _).0 (both_first (is_named name_of name (change item)) (list_all (is_named name_of name) (map change rest)) keep) ∙ sym ((bytes_eq-Decides _ _).0 is)
  one_keeps false item rest is keep = refl

  rest_keep : (b : Bool) (item : T) (rest : List T) → list_all (is_named name_of name) (map change (cond b (item ∷ rest) rest)) ≡ true → list_all (is_named name_of name) (map change rest) ≡ true
  rest_keep true item rest keep = both_second (is_named name_of name (change item)) (list_all (is_named name_of name) (map change rest)) keep
  rest_keep false item rest keep = keep

  place-kept : (items : List T) (start : ℕ) (other : List ℕ) → all_keep items → place_from name_of start (map (if_item_named name_of name change) items) other ≡ place_from name_of start items other
  place-kept [] start other keep = refl
  place-kept (item ∷ items) start other keep =
      ap (λ (bytes : List ℕ). cond (bytes_eq bytes other) (Some start) (place_from name_of (start + 1) (map (if_item_named name_of name change) items) other)) (one_keeps (is_named name_of name item) item (filter (is_named name_of name) items) refl keep)
      ∙ ap (λ (rest : Option ℕ). cond (bytes_eq (name_of item) other) (Some start) rest) (place-kept items (start + 1) other (rest_keep (is_named name_of name item) item (filter (is_named name_of name) items) keep))

  pub places-kept : (places : List ℕ → Option ℕ) (items : List T) → IsPlaces name_of places items → all_keep items → IsPlaces name_of places (map (if_item_named name_of name change) items)
  places-kept places items are keep = λ other. are other ∙ sym (place-kept items 0 other keep)

  -- what a test of them shows of the whole
  pub places-tested : (places : List ℕ → Option ℕ) (items seen news given : List T) (tested : Bool) → IsPlaces name_of places items → seen ≡ items → news ≡ map change (filter (is_named name_of name) seen) → given ≡ news → tested ≡ list_all (is_named name_of name) given → tested ≡ true
      → (news ≡ map change (filter (is_named name_of name) items)) × IsPlaces name_of places (map (if_item_named name_of name change) items)
  places-tested places items seen news given tested are same made read is holds =
      let all : news ≡ map change (filter (is_named name_of name) items) = made ∙ ap (λ (list : List T). map change (filter (is_named name_of name) list)) same in
      (all, places-kept places items are (ap (list_all (is_named name_of name)) (sym (read ∙ all)) ∙ sym is ∙ holds))
