-- The unread part of a buffer, after a front of it was read.
use Rattle.std.proofs.Common.{◌≡◌, ℕ, ◌+◌, ◌-◌, ◌≤◌, min, List, length, take, drop, length-take, length-drop, drop-drop, sym, ap, ◌∙◌, subst, arith}
use Rattle.std.proofs.lemmas.List.{drop-take, drop_min}
use Rattle.std.specs.List.{position_or_len, after_first}
use Rattle.sea_lines.proofs.LinesOf.{is_newline}

pub length_unread : (items : List ℕ) (from to : ℕ) → from ≤ to → to ≤ length items → length (take (to - from) (drop from items)) ≡ to - from
length_unread items from to h k = omega (arith, length-take (to - from) (drop from items), length-drop from items)

-- so many of the unread bytes were read, or all where there are fewer
pub unread_rest : (items : List ℕ) (from to more count : ℕ) → from ≤ to → to ≤ length items → count ≡ min more (length (take (to - from) (drop from items)))
    → take (to - (from + count)) (drop (from + count) items) ≡ drop more (take (to - from) (drop from items))
unread_rest items from to more count h k e =
    let bytes = take (to - from) (drop from items) in
    let whole : count + (to - (from + count)) ≡ to - from = omega (arith, length_unread items from to h k) in
    let cut : drop count bytes ≡ take (to - (from + count)) (drop count (drop from items)) =
    subst (λ n. drop count (take n (drop from items)) ≡ take (to - (from + count)) (drop count (drop from items))) whole (drop-take count (to - (from + count)) (drop from items)) in
    ap (take (to - (from + count))) (sym (drop-drop count from items)) ∙ sym cut ∙ ap (λ n. drop n bytes) e ∙ drop_min more bytes

-- the same as the code counts it: `seen` is the buffer as it was lent, and `place` where the line ends
pub piece_rest : (seen items : List ℕ) (from to place count : ℕ) → seen ≡ items → from ≤ to → to ≤ length items
    → place ≡ position_or_len is_newline (take (to - from) (drop from seen)) → count ≡ min (length (take (to - from) (drop from seen))) (place + 1)
    → take (to - (from + count)) (drop (from + count) items) ≡ after_first is_newline (take (to - from) (drop from items))
piece_rest seen items from to place count e h k p q =
    let start = unread_rest seen from to (position_or_len is_newline (take (to - from) (drop from seen)) + 1) count h (omega (arith, ap length e)) (omega arith) in
    subst (λ xs. take (to - (from + count)) (drop (from + count) xs) ≡ after_first is_newline (take (to - from) (drop from xs))) e start
