-- What a take placed is the front of what was left.
use Rattle.std.proofs.Common.{◌≡◌, ℕ, ◌+◌, ◌<◌, ◌≤◌, List, [], ◌∷◌, ◌++◌, min, length, take, drop, refl, sym, ◌∙◌, ap, arith}
use Rattle.std.proofs.lemmas.List.{take_at, drop-drop, take-append-drop, length-take-le}

-- the front that was placed, and what is left after it, are what was left before
pub placed_front : (given count piece room : ℕ) (bytes rest new : List ℕ) → count ≡ min piece (min room (length (drop given bytes)))
    → new ≡ take count (drop given bytes) ++ rest
    → drop given bytes ≡ take count new ++ drop (given + count) bytes
placed_front given count piece room bytes rest new size e =
    let left = drop given bytes in
    let fits : count ≤ length left = omega (arith, size) in
    let same : take count new ≡ take count left = ap (take count) e ∙ take_at (take count left) rest count (length-take-le count left fits) in
    sym (ap (λ xs. xs ++ drop (given + count) bytes) same ∙ ap (λ xs. take count left ++ xs) (sym (drop-drop count given bytes)) ∙ take-append-drop count left)

-- with room on both sides, none is placed only where none is left
pub none_placed : (count piece room : ℕ) (left : List ℕ) → 0 < piece → 0 < room → count ≡ min piece (min room (length left)) → count ≡ 0 → left ≡ []
none_placed count piece room [] p r e z = refl
none_placed count piece room (x ∷ xs) p r e z = let no : ⊥ = omega arith in absurd no
