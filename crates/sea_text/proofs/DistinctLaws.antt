-- What is left of texts of which each counts once, while they are gone through.
use Rattle.std.proofs.Common.{◌≡◌, ℕ, suc, ◌+◌, ◌<◌, List, [], ◌∷◌, ◌++◌, length, get_or, drop, filter, Bool, true, false, cond, not, ◌&&◌, ◌||◌, refl, sym, ap, ◌∙◌, arith, append_assoc, append-nil, add-one, drop-cons, ◌≤◌, count_by}
use Rattle.std.specs.Str.{bytes_eq}
use Rattle.std.proofs.lemmas.Map.Views.{any-filter_same}
use Rattle.std.proofs.lemmas.List.Sums.{sum_by-cons}
use Rattle.std.proofs.lemmas.Slice.Eq.{bytes_eq-Decides}
use Rattle.sea_text.specs.Distinct.{is_among, differs_from, once}

-- the texts of a list that a test has not seen
abbrev pub unseen : (List ℕ → Bool) → List (List ℕ) → List (List ℕ)
unseen seen texts = filter (λ text. not (seen text)) texts

-- a filter of what is left or not
filter-cond : (p : List ℕ → Bool) (b : Bool) (text : List ℕ) (texts : List (List ℕ)) → filter p (cond b (text ∷ texts) texts) ≡ cond (b && p text) (text ∷ filter p texts) (filter p texts)
filter-cond p true text texts = refl
filter-cond p false text texts = refl

-- two filters are one that asks both
filter-filter : (p q r : List ℕ → Bool) → ((text : List ℕ) → (q text && p text) ≡ r text) → (texts : List (List ℕ)) → filter p (filter q texts) ≡ filter r texts
filter-filter p q r both [] = refl
filter-filter p q r both (text ∷ texts) =
    filter-cond p (q text) text (filter q texts)
    ∙ ap (λ (b : Bool). cond b (text ∷ filter p (filter q texts)) (filter p (filter q texts))) (both text)
    ∙ ap (λ (rest : List (List ℕ)). cond (r text) (text ∷ rest) rest) (filter-filter p q r both texts)

-- one text more
is_among-push : (kept : List (List ℕ)) (text other : List ℕ) → is_among (kept ++ text ∷ []) other ≡ (is_among kept other || bytes_eq text other)
is_among-push [] text other = or_false (bytes_eq text other)
  where
    or_false : (b : Bool) → (b || false) ≡ (false || b)
    or_false true = refl
    or_false false = refl
is_among-push (one ∷ kept) text other = ap (λ (b : Bool). bytes_eq one other || b) (is_among-push kept text other) ∙ or_assoc (bytes_eq one other) (is_among kept other) (bytes_eq text other)
  where
    or_assoc : (a b c : Bool) → (a || (b || c)) ≡ ((a || b) || c)
    or_assoc true b c = refl
    or_assoc false b c = refl

-- a text that was seen takes nothing from what is not yet seen
old-both : (same was : Bool) → (same ≡ true → was ≡ true) → (not same && not was) ≡ not was
old-both true true h = refl
old-both true false h = cc (h refl)
old-both false was h = refl

-- a new text is seen from now on
new-both : (same was : Bool) → (not same && not was) ≡ not (was || same)
new-both true true = refl
new-both true false = refl
new-both false true = refl
new-both false false = refl

-- at first nothing is seen
pub unseen-none : (texts : List (List ℕ)) → unseen (is_among []) texts ≡ texts
unseen-none [] = refl
unseen-none (text ∷ texts) = ap (λ (rest : List (List ℕ)). text ∷ rest) (unseen-none texts)

-- a repeat goes
unseen-old : (kept : List (List ℕ)) (text : List ℕ) (texts : List (List ℕ)) → is_among kept text ≡ true → unseen (is_among kept) (once (text ∷ texts)) ≡ unseen (is_among kept) (once texts)
unfolding once
unseen-old kept text texts seen =
    ap (λ (b : Bool). cond (not b) (text ∷ unseen (is_among kept) (filter (differs_from text) (once texts))) (unseen (is_among kept) (filter (differs_from text) (once texts)))) seen
    ∙ filter-filter (λ other. not (is_among kept other)) (differs_from text) (λ other. not (is_among kept other)) (λ other. old-both (bytes_eq text other) (is_among kept other) (λ same. ap (is_among kept) (sym ((bytes_eq-Decides text other).0 same)) ∙ seen)) (once texts)

-- a new text stays, and those like it behind it will go
unseen-new : (kept : List (List ℕ)) (text : List ℕ) (texts : List (List ℕ)) → is_among kept text ≡ false → unseen (is_among kept) (once (text ∷ texts)) ≡ text ∷ unseen (is_among (kept ++ text ∷ [])) (once texts)
unfolding once
unseen-new kept text texts unknown =
    ap (λ (b : Bool). cond (not b) (text ∷ unseen (is_among kept) (filter (differs_from text) (once texts))) (unseen (is_among kept) (filter (differs_from text) (once texts)))) unknown
    ∙ ap (λ (rest : List (List ℕ)). text ∷ rest) (filter-filter (λ other. not (is_among kept other)) (differs_from text) (λ other. not (is_among (kept ++ text ∷ []) other)) (λ other. new-both (bytes_eq text other) (is_among kept other) ∙ ap not (sym (is_among-push kept text other))) (once texts))

-- of some texts some are left: those that were kept and what is left of them stand for all, and a test knows the kept ones
pub record IsOnceSoFar (seen : List ℕ → Bool) (all kept left : List (List ℕ)) : Type 0 where
  pub known : (text : List ℕ) → seen text ≡ is_among kept text
  pub rest : kept ++ unseen (is_among kept) (once left) ≡ once all

-- at first nothing is kept
pub once-none : (seen : List ℕ → Bool) (texts kept : List (List ℕ)) → kept ≡ [] → ((text : List ℕ) → seen text ≡ false) → IsOnceSoFar seen texts kept texts
once-none seen texts kept empty none = rw empty (record { known = none; rest = unseen-none (once texts) })

-- in the end nothing is left
pub once-all : (seen : List ℕ → Bool) (all kept left : List (List ℕ)) → IsOnceSoFar seen all kept left → left ≡ [] → kept ≡ once all
unfolding once
once-all seen all kept left h end = sym (append-nil kept) ∙ ap (λ (texts : List (List ℕ)). kept ++ unseen (is_among kept) (once texts)) (sym end) ∙ h.rest

-- the text at a place, and then those behind it
pub at_place : (texts : List (List ℕ)) (at : ℕ) (text : List ℕ) → at < length texts → text ≡ get_or texts at text → drop at texts ≡ text ∷ drop (at + 1) texts
at_place texts at text within read =
    drop-cons texts at text within ∙ ap (λ (first : List ℕ). first ∷ drop (suc at) texts) (sym read) ∙ ap (λ (place : ℕ). text ∷ drop place texts) (sym (add-one at))

-- a text that was there adds nothing
or_old : (was same : Bool) → (same ≡ true → was ≡ true) → (was || same) ≡ was
or_old true same h = refl
or_old false true h = sym (h refl)
or_old false false h = refl

not_true : (b : Bool) → true ≡ not b → b ≡ false
not_true true h = h
not_true false h = refl

not_false : (b : Bool) → false ≡ not b → b ≡ true
not_false true h = refl
not_false false h = h

module _ (seen after : List ℕ → Bool) (all kept left : List (List ℕ)) (text : List ℕ) (more : List (List ℕ)) (h : IsOnceSoFar seen all kept left) (next : left ≡ text ∷ more) (adds : (other : List ℕ) → after other ≡ (seen other || bytes_eq text other)) where
  -- the turn at a repeat
  pub once-old : false ≡ not (seen text) → IsOnceSoFar after all kept more
  once-old old =
      let among : is_among kept text ≡ true = sym (h.known text) ∙ not_false (seen text) old in
      record {
        known = λ other. adds other ∙ or_old (seen other) (bytes_eq text other) (λ same. h.known other ∙ ap (is_among kept) (sym ((bytes_eq-Decides text other).0 same)) ∙ among) ∙ h.known other;
        rest = ap (λ (texts : List (List ℕ)). kept ++ texts) (sym (ap (λ (texts : List (List ℕ)). unseen (is_among kept) (once texts)) next ∙ unseen-old kept text more among)) ∙ h.rest;
      }

  -- the turn at a new text
  pub once-new : true ≡ not (seen text) → IsOnceSoFar after all (kept ++ text ∷ []) more
  once-new new =
      let unknown : is_among kept text ≡ false = sym (h.known text) ∙ not_true (seen text) new in
      record {
        known = λ other. adds other ∙ ap (λ (b : Bool). b || bytes_eq text other) (h.known other) ∙ sym (is_among-push kept text other);
        rest = append_assoc kept (text ∷ []) _ ∙ ap (λ (texts : List (List ℕ)). kept ++ texts) (sym (ap (λ (texts : List (List ℕ)). unseen (is_among kept) (once texts)) next ∙ unseen-new kept text more unknown)) ∙ h.rest;
      }

or_turn : (same was : Bool) → (same || (not same && was)) ≡ (same || was)
or_turn true was = refl
or_turn false was = refl

-- the texts that are left are the same
pub is_among-once : (texts : List (List ℕ)) (text : List ℕ) → is_among (once texts) text ≡ is_among texts text
unfolding once
is_among-once [] text = refl
is_among-once (one ∷ texts) text =
    ap (λ (b : Bool). bytes_eq one text || b) (any-filter_same (λ other. bytes_eq other text) (differs_from one) (not (bytes_eq one text)) (λ other same. ap (λ (bytes : List ℕ). not (bytes_eq one bytes)) ((bytes_eq-Decides other text).0 same)) (once texts))
    ∙ or_turn (bytes_eq one text) (is_among (once texts) text)
    ∙ ap (λ (b : Bool). bytes_eq one text || b) (is_among-once texts text)

-- the first text and those behind it
counted : (q : List ℕ → Bool) (text : List ℕ) (texts : List (List ℕ)) → count_by q (text ∷ texts) ≡ cond (q text) 1 0 + count_by q texts
counted q = sum_by-cons (λ text. cond (q text) 1 0)

-- a filter that leaves out a text leaves none like it
count-left_out : (b : Bool) (text other : List ℕ) (texts : List (List ℕ)) → bytes_eq text other ≡ b → count_by (bytes_eq text) texts ≡ 0 → count_by (bytes_eq text) (cond (not b) (other ∷ texts) texts) ≡ 0
count-left_out true text other texts h none = none
count-left_out false text other texts h none = counted (bytes_eq text) other texts ∙ ap (λ (b : Bool). cond b 1 0 + count_by (bytes_eq text) texts) h ∙ omega (arith, none)

count-differs : (text : List ℕ) (texts : List (List ℕ)) → count_by (bytes_eq text) (filter (differs_from text) texts) ≡ 0
count-differs text [] = refl
count-differs text (other ∷ texts) = count-left_out (bytes_eq text other) text other (filter (differs_from text) texts) refl (count-differs text texts)

-- a filter adds none
count-one_more : (q : List ℕ → Bool) (b : Bool) (other : List ℕ) (fewer texts : List (List ℕ)) → count_by q fewer ≤ count_by q texts → count_by q (cond b (other ∷ fewer) fewer) ≤ count_by q (other ∷ texts)
count-one_more q true other fewer texts h = omega (arith, h, counted q other fewer, counted q other texts)
count-one_more q false other fewer texts h = omega (arith, h, counted q other texts)

count-filter : (p q : List ℕ → Bool) (texts : List (List ℕ)) → count_by q (filter p texts) ≤ count_by q texts
count-filter p q [] = omega arith
count-filter p q (other ∷ texts) = count-one_more q (p other) other (filter p texts) texts (count-filter p q texts)

-- none is left twice
one_at_most : (b : Bool) (count all : ℕ) → all ≡ cond b 1 0 + count → (b ≡ true → count ≡ 0) → count ≤ 1 → all ≤ 1
one_at_most true count all sum none h = omega (arith, sum, none refl)
one_at_most false count all sum none h = omega (arith, sum, h)

pub count-once : (texts : List (List ℕ)) (text : List ℕ) → count_by (bytes_eq text) (once texts) ≤ 1
unfolding once
count-once [] text = omega arith
count-once (one ∷ texts) text =
    let left : List (List ℕ) = filter (differs_from one) (once texts) in
    let none : bytes_eq text one ≡ true → count_by (bytes_eq text) left ≡ 0 = λ same. ap (λ (bytes : List ℕ). count_by (bytes_eq bytes) left) ((bytes_eq-Decides text one).0 same) ∙ count-differs one (once texts) in
    one_at_most (bytes_eq text one) (count_by (bytes_eq text) left) _ (counted (bytes_eq text) one left) none (omega (arith, count-filter (differs_from one) (bytes_eq text) (once texts), count-once texts text))
