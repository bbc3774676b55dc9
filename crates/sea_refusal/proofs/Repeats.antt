-- Tests that agree on some texts find the same among them.
use Rattle.std.proofs.Common.{◌≡◌, ℕ, List, [], ◌∷◌, ◌++◌, Bool, true, false, cond, ◌||◌, ◌&&◌, map, Option, Some, None, refl, ap, ◌∙◌}
use Rattle.std.proofs.Math.Bool.{and-false}
use Rattle.std.proofs.lemmas.Slice.Eq.{bytes_eq-Decides}
use Rattle.std.specs.List.{list_any}
use Rattle.std.specs.Str.{bytes_eq}
use Rattle.sea_text.specs.Distinct.{is_among}
use Rattle.sea_cell.specs.declared.keys.RowId.{RowId}
use Rattle.sea_operation.proofs.There.{any_there}
use Rattle.sea_operation.specs.Names.{first_repeat}
use Rattle.sea_operation.specs.Refusal.{first_at, or_else}

-- the tests agree on each of the texts
pub record Agree (one other : List ℕ → Bool) (texts : List (List ℕ)) : Type 0 where
  pub agree : (text : List ℕ) → is_among texts text ≡ true → one text ≡ other text

or_right : (a b : Bool) → b ≡ true → (a || b) ≡ true
or_right true b h = refl
or_right false b h = h

-- the first text is among the texts
first_among : (text : List ℕ) (texts : List (List ℕ)) → is_among (text ∷ texts) text ≡ true
first_among text texts = ap (λ (same : Bool). same || is_among texts text) ((bytes_eq-Decides text text).1 refl)

first_agrees : (one other : List ℕ → Bool) (text : List ℕ) (texts : List (List ℕ)) → Agree one other (text ∷ texts) → one text ≡ other text
first_agrees one other text texts h = h.agree text (first_among text texts)

rest_agree : (one other : List ℕ → Bool) (text : List ℕ) (texts : List (List ℕ)) → Agree one other (text ∷ texts) → Agree one other texts
rest_agree one other text texts h = record { agree = λ it among. h.agree it (or_right (bytes_eq text it) (is_among texts it) among) }

-- the first repeat is the same
pub same_repeat : (one other : List ℕ → Bool) (before texts : List (List ℕ)) → Agree one other texts → first_repeat one before texts ≡ first_repeat other before texts
same_repeat one other before [] h = refl
same_repeat one other before (text ∷ texts) h =
    ap (λ (used : Bool). cond (used || is_among before text) (Some text) (first_repeat one (before ++ text ∷ []) texts)) (first_agrees one other text texts h)
    ∙ ap (λ (rest : Option (List ℕ)). cond (other text || is_among before text) (Some text) rest) (same_repeat one other (before ++ text ∷ []) texts (rest_agree one other text texts h))

-- so is the first text that doesn't pass, with whatever is made of it
pub same_first : {X : Type 0} → (make : List ℕ → Option X) (one other : List ℕ → Bool) (texts : List (List ℕ)) → Agree one other texts → first_at (λ text. cond (one text) None (make text)) texts ≡ first_at (λ text. cond (other text) None (make text)) texts
same_first make one other [] h = refl
same_first make one other (text ∷ texts) h =
    ap (λ (passes : Bool). or_else (cond passes None (make text)) (first_at (λ it. cond (one it) None (make it)) texts)) (first_agrees one other text texts h)
    ∙ ap (or_else (cond (other text) None (make text))) (same_first make one other texts (rest_agree one other text texts h))

-- what was found of some ids agrees on them with the test
pub agree_on_ids : (found test : List ℕ → Bool) (ids : List RowId) → ((id : List ℕ) → found id ≡ list_any (λ one. bytes_eq one.0 id && test one.0) ids) → Agree found test (map (λ one. one.0) ids)
agree_on_ids found test ids is = record { agree = λ id among. is id ∙ any_there test ids id ∙ ap (λ (here : Bool). here && test id) among }

-- where none passes, none is there
pub none_there : (test : List ℕ → Bool) (ids : List RowId) (id : List ℕ) → ((text : List ℕ) → test text ≡ false) → list_any (λ one. bytes_eq one.0 id && test one.0) ids ≡ false
none_there test ids id none = any_there test ids id ∙ ap (λ (here : Bool). is_among (map (λ one. one.0) ids) id && here) (none id) ∙ and-false (is_among (map (λ one. one.0) ids) id)
