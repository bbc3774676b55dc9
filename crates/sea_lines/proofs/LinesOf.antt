-- Where the first line of some bytes ends, and the lines of joined bytes.
use Rattle.std.proofs.Common.{◌≡◌, ℕ, ◌+◌, ◌<◌, ◌≤◌, ◌==◌, Bool, true, false, not, cond, List, [], ◌∷◌, ◌++◌, length, length-take, take, get_or, Some, None, refl, sym, ap, ◌∙◌, subst, arith, zero-add, one-add, eqb-true, take_all}
use Rattle.std.specs.List.{AllByRecursion, position_or_len, before_first, after_first}
use Rattle.std.proofs.lemmas.Bool.{cond_both, not-true, false_from_ne_true}
use Rattle.std.proofs.lemmas.List.{drop_all}
use Rattle.std.proofs.lemmas.List.Sums.{prefix_len-le-length, position_or_len_is, split_at_first, passes_at_first}
use Rattle.memchr.specs.Find.{IsFirstByte, is_byte}
use Rattle.sea_lines.specs.Lines.{lines_of, onto_first}

-- the test for the byte that ends a line
abbrev pub is_newline : ℕ → Bool
is_newline = λ byte. byte == 10

-- no newline is among the bytes
abbrev pub IsPlain : List ℕ → Type 0
IsPlain bytes = AllByRecursion (λ byte. (byte == 10) ≡ false) bytes

-- a search that found the newline tells where the line ends
pub place_found : (bytes : List ℕ) (place : ℕ) → IsFirstByte (is_byte 10) bytes (Some place) → place ≡ position_or_len is_newline bytes
place_found bytes place h =
    sym (position_or_len_is is_newline bytes place 0 (omega (arith, h.0.high)) (λ k below. false_from_ne_true _ (h.0.before k (omega arith) below)) (λ _. h.1))

-- and one that found none
pub place_none : (bytes : List ℕ) → IsFirstByte (is_byte 10) bytes None → length bytes ≡ position_or_len is_newline bytes
place_none bytes h =
    sym (position_or_len_is is_newline bytes (length bytes) 0 (omega arith) (λ k below. false_from_ne_true _ (h k (omega arith) below)) (λ past. absurd (omega (arith, past))))

pub position-le-length : (bytes : List ℕ) → position_or_len is_newline bytes ≤ length bytes
position-le-length bytes = prefix_len-le-length (λ byte. not (is_newline byte)) bytes

pub length-before_first : (bytes : List ℕ) → length (before_first is_newline bytes) ≡ position_or_len is_newline bytes
length-before_first bytes = omega (arith, length-take (position_or_len is_newline bytes) bytes, position-le-length bytes)

-- no newline stands before the first
pub IsPlain-before_first : (bytes : List ℕ) → IsPlain (before_first is_newline bytes)
IsPlain-before_first [] = tt
IsPlain-before_first (x ∷ bytes) =
    let Plain = λ (n : ℕ). IsPlain (take n (x ∷ bytes)) in
    cond_both (not (x == 10)) (1 + position_or_len is_newline bytes) 0 Plain
    (λ h. subst Plain (sym (one-add (position_or_len is_newline bytes))) (not-true (x == 10) h, IsPlain-before_first bytes)) (λ _. tt)

pub IsPlain-append : (front back : List ℕ) → IsPlain front → IsPlain back → IsPlain (front ++ back)
IsPlain-append [] back p q = q
IsPlain-append (x ∷ front) back p q = (p.0, IsPlain-append front back p.1 q)

-- a line and its newline are the front of the bytes that hold a newline
pub split_ended : (bytes : List ℕ) → position_or_len is_newline bytes < length bytes → bytes ≡ before_first is_newline bytes ++ (10 ∷ after_first is_newline bytes)
split_ended bytes h =
    let here = eqb-true (get_or bytes (position_or_len is_newline bytes) 0) 10 (passes_at_first is_newline bytes 0 h) in
    subst (λ x. bytes ≡ before_first is_newline bytes ++ (x ∷ after_first is_newline bytes)) here (split_at_first is_newline bytes 0 h)

pub before_none : (bytes : List ℕ) → length bytes ≤ position_or_len is_newline bytes → before_first is_newline bytes ≡ bytes
before_none bytes h = take_all (position_or_len is_newline bytes) bytes h

pub after_none : (bytes : List ℕ) → length bytes ≤ position_or_len is_newline bytes → after_first is_newline bytes ≡ []
after_none bytes h = drop_all (position_or_len is_newline bytes + 1) bytes (omega arith)

-- bytes with no newline only put the first newline off
pub position-plain : (front back : List ℕ) → IsPlain front → position_or_len is_newline (front ++ back) ≡ length front + position_or_len is_newline back
position-plain [] back p = sym (zero-add _)
position-plain (x ∷ front) back p =
    let later = position-plain front back p.1 in
    ap (λ t. cond (not t) (1 + position_or_len is_newline (front ++ back)) 0) p.0 ∙ omega (arith, later)

pub lines_of-ended : (line rest : List ℕ) → IsPlain line → lines_of (line ++ 10 ∷ rest) ≡ line ∷ lines_of rest
lines_of-ended [] rest p = refl
lines_of-ended (x ∷ line) rest p =
    ap (λ t. cond t ([] ∷ lines_of (line ++ 10 ∷ rest)) (onto_first x (lines_of (line ++ 10 ∷ rest)))) p.0 ∙ ap (onto_first x) (lines_of-ended line rest p.1)

pub lines_of-last : (x : ℕ) (line : List ℕ) → IsPlain (x ∷ line) → lines_of (x ∷ line) ≡ (x ∷ line) ∷ []
lines_of-last x [] p = ap (λ t. cond t ([] ∷ []) ((x ∷ []) ∷ [])) p.0
lines_of-last x (y ∷ line) p =
    ap (λ t. cond t ([] ∷ lines_of (y ∷ line)) (onto_first x (lines_of (y ∷ line)))) p.0 ∙ ap (onto_first x) (lines_of-last y line p.1)

cond-le : (t : Bool) (a b : ℕ) → a ≤ b → cond t (1 + a) 0 ≤ cond t (1 + b) 0
cond-le true a b h = omega arith
cond-le false a b h = omega arith

-- more bytes behind don't bring the first newline nearer
pub position-front : (front back : List ℕ) → position_or_len is_newline front ≤ position_or_len is_newline (front ++ back)
position-front [] back = omega arith
position-front (x ∷ front) back = cond-le (not (x == 10)) _ _ (position-front front back)
