-- An id that is among some and passes.
use Rattle.std.proofs.Common.{◌≡◌, List, [], ◌∷◌, ℕ, Bool, true, false, ◌||◌, ◌&&◌, map, refl, ap, ◌∙◌}
use Rattle.std.proofs.lemmas.Slice.Eq.{bytes_eq-Decides}
use Rattle.std.specs.List.{list_any}
use Rattle.std.specs.Str.{bytes_eq}
use Rattle.sea_text.specs.Distinct.{is_among}
use Rattle.sea_cell.specs.declared.keys.RowId.{RowId}

-- what is or and what is the same are the same
absorbed : (a b : Bool) → (b || (a && b)) ≡ b
absorbed true true = refl
absorbed true false = refl
absorbed false true = refl
absorbed false false = refl

-- one of the ids is this one and passes, where it is one of them and passes
pub any_there : (test : List ℕ → Bool) (ids : List RowId) (id : List ℕ) → list_any (λ one. bytes_eq one.0 id && test one.0) ids ≡ (is_among (map (λ one. one.0) ids) id && test id)
any_there test [] id = refl
any_there test (one ∷ ids) id = place (bytes_eq one.0 id) refl (any_there test ids id)
  where
    place : (same : Bool) → bytes_eq one.0 id ≡ same → list_any (λ it. bytes_eq it.0 id && test it.0) ids ≡ (is_among (map (λ it. it.0) ids) id && test id)
        → ((same && test one.0) || list_any (λ it. bytes_eq it.0 id && test it.0) ids) ≡ ((same || is_among (map (λ it. it.0) ids) id) && test id)
    place true is rest =
        ap (λ (more : Bool). test one.0 || more) rest
        ∙ ap (λ (text : List ℕ). test text || (is_among (map (λ it. it.0) ids) id && test id)) ((bytes_eq-Decides one.0 id).0 is)
        ∙ absorbed (is_among (map (λ it. it.0) ids) id) (test id)
    place false is rest = rest
