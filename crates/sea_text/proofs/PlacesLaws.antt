-- The places of things that come and go.
use Rattle.std.proofs.Common.{◌≡◌, ℕ, suc, ◌+◌, ◌-◌, ◌<◌, ◌≤◌, List, [], ◌∷◌, ◌++◌, length, get_or, take, drop, filter, Bool, true, false, cond, is_some, Option, Some, None, refl, sym, ap, ◌∙◌, arith, append-nil, drop-cons, length-append}
use Rattle.std.specs.Option.{option_or}
use Rattle.std.specs.List.{remove}
use Rattle.std.specs.Str.{bytes_eq}
use Rattle.std.proofs.Math.Seq.{take-suc, append_snoc, get_or-append_seam}
use Rattle.std.proofs.lemmas.List.{length-take-le}
use Rattle.std.proofs.lemmas.List.Edits.{remove-append_right}
use Rattle.std.proofs.lemmas.List.Elements.{filter_more}
use Rattle.std.proofs.lemmas.Slice.Eq.{bytes_eq-Decides}
use Rattle.sea_text.specs.Named.{place_from, IsPlaces}

or_choice : (b : Bool) (start : ℕ) (rest last : Option ℕ) → cond b (Some start) (option_or rest last) ≡ option_or (cond b (Some start) rest) last
or_choice true start rest last = refl
or_choice false start rest last = refl

or_none : (place : Option ℕ) → place ≡ option_or place None
or_none None = refl
or_none (Some place) = refl

none_of : (place : Option ℕ) → is_some place ≡ false → place ≡ None
none_of None h = refl
none_of (Some place) h = cc h

or_some : (place last : Option ℕ) → is_some place ≡ true → place ≡ option_or place last
or_some None last h = cc h
or_some (Some place) last h = refl

-- the place of a name, where one thing more stands at the end
place-last : {T : Type 0} (name_of : T → List ℕ) (start : ℕ) (items : List T) (item : T) (name : List ℕ) → place_from name_of start (items ++ item ∷ []) name ≡ option_or (place_from name_of start items name) (cond (bytes_eq (name_of item) name) (Some (start + length items)) None)
place-last name_of start [] item name =
    let here : start ≡ start + 0 = omega arith in
    ap (λ (at : ℕ). cond (bytes_eq (name_of item) name) (Some at) None) here
place-last name_of start (first ∷ items) item name =
    let further : start + 1 + length items ≡ start + length (first ∷ items) = omega arith in
    ap (λ (rest : Option ℕ). cond (bytes_eq (name_of first) name) (Some start) rest) (place-last name_of (start + 1) items item name)
    ∙ or_choice (bytes_eq (name_of first) name) start (place_from name_of (start + 1) items name) (cond (bytes_eq (name_of item) name) (Some (start + 1 + length items)) None)
    ∙ ap (λ (at : ℕ). option_or (place_from name_of start (first ∷ items) name) (cond (bytes_eq (name_of item) name) (Some at) None)) further

-- a name that has a place keeps it
pub place-old : (was : List ℕ → Option ℕ) (name : List ℕ) (at : ℕ) → is_some (was name) ≡ true → (other : List ℕ) → was other ≡ option_or (was other) (cond (bytes_eq name other) (Some at) None)
place-old was name at known other = by (bytes_eq name other) refl
  where
    by : (b : Bool) → bytes_eq name other ≡ b → was other ≡ option_or (was other) (cond b (Some at) None)
    by true same = or_some (was other) (Some at) (ap (λ (bytes : List ℕ). is_some (was bytes)) (sym ((bytes_eq-Decides name other).0 same)) ∙ known)
    by false differs = or_none (was other)

-- a name without a place gets one
pub place-new : (was : List ℕ → Option ℕ) (name : List ℕ) (at : ℕ) → is_some (was name) ≡ false → (other : List ℕ) → cond (bytes_eq name other) (Some at) (was other) ≡ option_or (was other) (cond (bytes_eq name other) (Some at) None)
place-new was name at unknown other = by (bytes_eq name other) refl
  where
    by : (b : Bool) → bytes_eq name other ≡ b → cond b (Some at) (was other) ≡ option_or (was other) (cond b (Some at) None)
    by true same = sym (ap (λ (place : Option ℕ). option_or place (Some at)) (ap was (sym ((bytes_eq-Decides name other).0 same)) ∙ none_of (was name) unknown))
    by false differs = or_none (was other)

-- the places, where one thing more stands at the end
pub places-push : {T : Type 0} (name_of : T → List ℕ) (places after : List ℕ → Option ℕ) (items : List T) (item : T) (name : List ℕ) (at : ℕ) → IsPlaces name_of places items → at ≡ length items → name ≡ name_of item
    → ((other : List ℕ) → after other ≡ option_or (places other) (cond (bytes_eq name other) (Some at) None)) → IsPlaces name_of after (items ++ item ∷ [])
places-push name_of places after items item name at are last named adds = λ other.
    let end : at ≡ 0 + length items = omega (arith, last) in
    adds other
    ∙ ap (λ (was : Option ℕ). option_or was (cond (bytes_eq name other) (Some at) None)) (are other)
    ∙ ap (λ (bytes : List ℕ). option_or (place_from name_of 0 items other) (cond (bytes_eq bytes other) (Some at) None)) named
    ∙ ap (λ (place : ℕ). option_or (place_from name_of 0 items other) (cond (bytes_eq (name_of item) other) (Some place) None)) end
    ∙ sym (place-last name_of 0 items item other)

module _ {T : Type 0} (keeps : T → Bool) (all : List T) where
  -- what stands once those behind a place were gone through, from the last one
  abbrev pub gone_from : ℕ → List T
  gone_from at = take at all ++ filter keeps (drop at all)

  module _ (at : ℕ) (item : T) (within : at < length all) where
    before : length (take at all) ≡ at
    before = length-take-le at all (omega (arith, within))

    seam : gone_from (suc at) ≡ take at all ++ get_or all at item ∷ filter keeps (drop (suc at) all)
    seam = ap (λ (first : List T). first ++ filter keeps (drop (suc at) all)) (take-suc all at item within) ∙ append_snoc (take at all) (get_or all at item) (filter keeps (drop (suc at) all))

    -- the thing at the place is that of the whole list
    pub at_seam : item ≡ get_or (gone_from (suc at)) at item → item ≡ get_or all at item
    at_seam read =
        read
        ∙ ap (λ (items : List T). get_or items at item) seam
        ∙ ap (λ (place : ℕ). get_or (take at all ++ get_or all at item ∷ filter keeps (drop (suc at) all)) place item) (sym before)
        ∙ get_or-append_seam (take at all) (get_or all at item) (filter keeps (drop (suc at) all)) item

    kept : filter keeps (drop at all) ≡ cond (keeps (get_or all at item)) (get_or all at item ∷ filter keeps (drop (suc at) all)) (filter keeps (drop (suc at) all))
    kept = ap (filter keeps) (drop-cons all at item within)

    pub turn-stays : keeps (get_or all at item) ≡ true → gone_from (suc at) ≡ gone_from at
    turn-stays keep = seam ∙ sym (ap (λ (items : List T). take at all ++ items) (kept ∙ ap (λ (b : Bool). cond b (get_or all at item ∷ filter keeps (drop (suc at) all)) (filter keeps (drop (suc at) all))) keep))

    pub turn-goes : keeps (get_or all at item) ≡ false → remove (gone_from (suc at)) at ≡ gone_from at
    turn-goes gone =
        let none : at - at ≡ 0 = omega arith in
        ap (λ (items : List T). remove items at) seam
        ∙ remove-append_right (take at all) (get_or all at item ∷ filter keeps (drop (suc at) all)) at at before (omega arith)
        ∙ ap (λ (place : ℕ). take at all ++ remove (get_or all at item ∷ filter keeps (drop (suc at) all)) place) none
        ∙ sym (ap (λ (items : List T). take at all ++ items) (kept ∙ ap (λ (b : Bool). cond b (get_or all at item ∷ filter keeps (drop (suc at) all)) (filter keeps (drop (suc at) all))) gone))

  module _ (full : ℕ) (items : List T) (item : T) (within : full ≤ length all) (some : 0 < full) (are : items ≡ gone_from full) (read : item ≡ get_or items (full - 1) item) where
    again : full ≡ suc (full - 1)
    again = omega (arith, some)

    inside : full - 1 < length all
    inside = omega (arith, within, some)

    whole : items ≡ gone_from (suc (full - 1))
    whole = are ∙ ap gone_from again

    found : item ≡ get_or all (full - 1) item
    found = at_seam (full - 1) item inside (read ∙ ap (λ (list : List T). get_or list (full - 1) item) whole)

    -- the turn at a thing that goes
    pub turn-out : keeps item ≡ false → remove items (full - 1) ≡ gone_from (full - 1)
    turn-out gone = ap (λ (list : List T). remove list (full - 1)) whole ∙ turn-goes (full - 1) item inside (ap keeps (sym found) ∙ gone)

    -- the turn at a thing that stays
    pub turn-by : keeps item ≡ true → items ≡ gone_from (full - 1)
    turn-by keep = whole ∙ turn-stays (full - 1) item inside (ap keeps (sym found) ∙ keep)

-- of the first things those that stay have their places, and the next place is known
pub record IsPlacedSoFar {T : Type 0} (name_of : T → List ℕ) (keeps : T → Bool) (places : List ℕ → Option ℕ) (at index : ℕ) (items : List T) : Type 0 where
  pub placed : IsPlaces name_of places (filter keeps (take index items))
  pub next : at ≡ length (filter keeps (take index items))
  pub low : at ≤ index

module _ {T : Type 0} (name_of : T → List ℕ) (keeps : T → Bool) (places : List ℕ → Option ℕ) (at index : ℕ) (items : List T) (item : T) (h : IsPlacedSoFar name_of keeps places at index items) (within : index < length items) (read : item ≡ get_or items index item) where
  grown : (b : Bool) → keeps item ≡ b → filter keeps (take (index + 1) items) ≡ filter keeps (take index items) ++ cond b (item ∷ []) []
  grown b is =
      filter_more keeps items index item within
      ∙ ap (λ (one : T). filter keeps (take index items) ++ cond (keeps one) (one ∷ []) []) (sym read)
      ∙ ap (λ (b : Bool). filter keeps (take index items) ++ cond b (item ∷ []) []) is

  -- the turn at a thing that stays
  pub placed-stays : (after : List ℕ → Option ℕ) (name : List ℕ) → keeps item ≡ true → name ≡ name_of item → ((other : List ℕ) → after other ≡ option_or (places other) (cond (bytes_eq name other) (Some at) None)) → IsPlacedSoFar name_of keeps after (at + 1) (index + 1) items
  placed-stays after name keep named adds = record {
    placed = rw (grown true keep) (places-push name_of places after (filter keeps (take index items)) item name at h.placed h.next named adds);
    next = sym (ap length (grown true keep) ∙ length-append (filter keeps (take index items)) (item ∷ []) ∙ ap (λ (count : ℕ). count + 1) (sym h.next));
    low = omega (arith, h.low);
  }

  -- the turn at a thing that goes
  pub placed-goes : keeps item ≡ false → IsPlacedSoFar name_of keeps places at (index + 1) items
  placed-goes gone =
      let same : filter keeps (take (index + 1) items) ≡ filter keeps (take index items) = grown false gone ∙ append-nil (filter keeps (take index items)) in
      record { placed = rw same h.placed; next = rw same h.next; low = omega (arith, h.low) }
