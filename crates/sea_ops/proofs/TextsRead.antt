-- The strings and keys of a text in UTF-8 are UTF-8.
use Rattle.std.proofs.Common.{◌≡◌, ℕ, zero, suc, ◌<◌, ◌≤◌, List, [], ◌∷◌, ◌++◌, length, get_or, Bool, true, false, cond, ◌&&◌, ◌==◌, nat_lt, Option, Some, None, option_and_then, IsUtf8, inl, inr, refl, sym, ap, ◌∙◌, subst, arith, append-nil, length-append}
use Rattle.std.proofs.lemmas.Bool.{and_parts, cases_lt, ne_eqb, le-ltb}
use Rattle.std.proofs.lemmas.Bool.Decides.{nat_tests}
use Rattle.std.proofs.lemmas.Str.{IsUtf8-append, IsUtf8-nil, IsUtf8-encode, IsUtf8-past_char, encode_ascii, inside_one, length-encode, len_utf8_bounds}
use Rattle.std.specs.Char.{digit_value, is_digit, encode_utf8}
use lib.Utf8.{scalar, scalars, encode, encodes, low_scalar}
use Rattle.json.specs.Text.{code_unit, short_escape, is_high_surrogate, is_low_surrogate, surrogate_pair, Within, plain, after_backslash, after_u, after_high, prepend, content}

-- a string that is UTF-8, where there is one
abbrev pub IfText : Option (List ℕ) → Type 0
IfText None = Unit {0}
IfText (Some text) = IsUtf8 text

-- what follows an ASCII byte
ascii_tail : (x : ℕ) (xs : List ℕ) → x < 128 → IsUtf8 (x ∷ xs) → IsUtf8 xs
ascii_tail x xs small u = IsUtf8-past_char (x ∷ xs) xs x u (rw (encode_ascii x small) refl)

-- one ASCII byte
ascii_one : (x : ℕ) → x < 128 → IsUtf8 (x ∷ [])
ascii_one x small = subst IsUtf8 (encode_ascii x small) (IsUtf8-encode x (low_scalar x (omega arith)))

-- bytes before a string
text-prepend : (bytes : List ℕ) (rest : Option (List ℕ)) → IsUtf8 bytes → IfText rest → IfText (prepend bytes rest)
text-prepend bytes None u h = tt
text-prepend bytes (Some text) u h = IsUtf8-append bytes text u h

-- either of two
text-cond : (b : Bool) (x y : Option (List ℕ)) → (b ≡ true → IfText x) → (b ≡ false → IfText y) → IfText (cond b x y)
text-cond true x y h k = h refl
text-cond false x y h k = k refl

-- what a short escape stands for is ASCII, and so is its letter
record IsShort (x : ℕ) (c : ℕ) : Type 0 where
  letter : x < 128
  meant : c < 128

abbrev IfShort : ℕ → Option ℕ → Type 0
IfShort x None = Unit {0}
IfShort x (Some c) = IsShort x c

short-cond : (x : ℕ) (b : Bool) (y z : Option ℕ) → (b ≡ true → IfShort x y) → IfShort x z → IfShort x (cond b y z)
short-cond x true y z h k = h refl
short-cond x false y z h k = k

short : (x : ℕ) → IfShort x (short_escape x)
unfolding short_escape
short x =
    short-cond x _ (Some x) _ (λ e. record { letter = grind (arith, nat_tests); meant = grind (arith, nat_tests) })
    (short-cond x (x == 98) (Some 8) _ (λ e. record { letter = grind (arith, nat_tests); meant = omega arith })
    (short-cond x (x == 102) (Some 12) _ (λ e. record { letter = grind (arith, nat_tests); meant = omega arith })
    (short-cond x (x == 110) (Some 10) _ (λ e. record { letter = grind (arith, nat_tests); meant = omega arith })
    (short-cond x (x == 114) (Some 13) _ (λ e. record { letter = grind (arith, nat_tests); meant = omega arith })
    (short-cond x (x == 116) (Some 9) None (λ e. record { letter = grind (arith, nat_tests); meant = omega arith }) tt)))))

-- four hex digits are ASCII
record IsUnit (a b c d : ℕ) (u : ℕ) : Type 0 where
  first : a < 128
  second : b < 128
  third : c < 128
  fourth : d < 128
  small : u < 65536

abbrev IfUnit : ℕ → ℕ → ℕ → ℕ → Option ℕ → Type 0
IfUnit a b c d None = Unit {0}
IfUnit a b c d (Some u) = IsUnit a b c d u

-- a hex digit is ASCII, and its value is below 16
record IsHex (a : ℕ) : Type 0 where
  letter : a < 128
  value : digit_value a < 16

hex : (a : ℕ) → is_digit a 16 ≡ true → IsHex a
hex a e = record { letter = grind (arith, nat_tests); value = grind (arith, nat_tests) }

unit-cond : (a b c d : ℕ) (t : Bool) (y : Option ℕ) → (t ≡ true → IfUnit a b c d y) → IfUnit a b c d (cond t y None)
unit-cond a b c d true y h = h refl
unit-cond a b c d false y h = tt

unit : (a b c d : ℕ) → IfUnit a b c d (code_unit a b c d)
unfolding code_unit
unit a b c d = unit-cond a b c d _ (Some _) (λ e.
    let fourth = and_parts (is_digit a 16 && is_digit b 16 && is_digit c 16) _ e in
    let third = and_parts (is_digit a 16 && is_digit b 16) _ fourth.0 in
    let second = and_parts (is_digit a 16) _ third.0 in
    let p = hex a second.0 in
    let q = hex b second.1 in
    let r = hex c third.1 in
    let s = hex d fourth.1 in
    record { first = p.letter; second = q.letter; third = r.letter; fourth = s.letter; small = omega (arith, p.value, q.value, r.value, s.value) })

-- a code unit that is no surrogate is a character
whole_unit : (u : ℕ) → u < 65536 → is_high_surrogate u ≡ false → is_low_surrogate u ≡ false → scalar u ≡ true
whole_unit u small high low = grind (arith, nat_tests)

-- and so is a pair of surrogates
pair_unit : (h l : ℕ) → is_high_surrogate h ≡ true → is_low_surrogate l ≡ true → scalar (surrogate_pair h l) ≡ true
pair_unit h l high low = grind (arith, nat_tests)

-- a high surrogate was read before
abbrev IsFine : Within → Type 0
IsFine plain = Unit {0}
IsFine after_backslash = Unit {0}
IsFine after_u = Unit {0}
IsFine (after_high h) = is_high_surrogate h ≡ true

-- what holds of texts of at most n bytes
abbrev Below : ℕ → Type 0
Below n = (w : Within) (xs : List ℕ) → length xs ≤ n → IsUtf8 xs → IsFine w → IfText (content w xs)

-- nothing before a string, and bytes before others
prepend-nil : (rest : Option (List ℕ)) → rest ≡ prepend [] rest
prepend-nil None = refl
prepend-nil (Some text) = refl

prepend-prepend : (x : ℕ) (bytes : List ℕ) (rest : Option (List ℕ)) → prepend (x ∷ []) (prepend bytes rest) ≡ prepend (x ∷ bytes) rest
prepend-prepend x bytes None = refl
prepend-prepend x bytes (Some text) = refl

-- bytes above ASCII stand for themselves
high_bytes : (bytes rest : List ℕ) → ((k : ℕ) → k < length bytes → 128 ≤ get_or bytes k 0) → content plain (bytes ++ rest) ≡ prepend bytes (content plain rest)
unfolding content
high_bytes [] rest high = prepend-nil (content plain rest)
high_bytes (x ∷ bytes) rest high =
    let first : 128 ≤ x = high 0 (omega arith) in
    rw (ne_eqb x 34 (λ e. omega arith), ne_eqb x 92 (λ e. omega arith), le-ltb x 32 (omega arith))
    (ap (prepend (x ∷ [])) (high_bytes bytes rest (λ k below. high (suc k) (omega arith))) ∙ prepend-prepend x bytes (content plain rest))

module _ (n : ℕ) (below : Below n) where
  -- a character above ASCII
  char_turn : (cs : List ℕ) (x : ℕ) (xs : List ℕ) → scalars cs ≡ true → encodes cs ≡ x ∷ xs → length (x ∷ xs) ≤ suc n → 128 ≤ x → IfText (content plain (x ∷ xs))
  char_turn [] x xs ok e small high = cc
  char_turn (c ∷ cs) x xs ok e small high =
      let parts = and_parts (scalar c) _ ok in
      let first : get_or (encode c ++ encodes cs) 0 0 ≡ x = ap (λ (l : List ℕ). get_or l 0 0) e in
      let bytes : (k : ℕ) → k < length (encode c) → 128 ≤ get_or (encode c) k 0 = λ k within. elim (cases_lt (get_or (encode c) k 0) 128) [
        | inl low ↦
            let ascii : c ≡ get_or (encode c) k 0 = inside_one c [] (encode c) k (sym (append-nil _)) within low in
            let one : get_or (encode c ++ encodes cs) 0 0 ≡ c = rw (encode_ascii c (omega arith)) refl in
            absurd (omega arith)
        | inr above ↦ above
      ] in
      let shorter : length (encodes cs) ≤ n = omega (arith, ap length e, length-append (encode c) (encodes cs), length-encode c, (len_utf8_bounds c).0) in
      subst (λ l. IfText (content plain l)) e (subst IfText (sym (high_bytes (encode c) (encodes cs) bytes))
      (text-prepend (encode c) _ (IsUtf8-encode c parts.0) (below plain (encodes cs) shorter (cs, (parts.1, refl)) tt)))

  -- an ASCII byte that may be the last, or begin an escape
  ascii_turn : (x : ℕ) (xs : List ℕ) → length (x ∷ xs) ≤ suc n → x < 128 → IsUtf8 xs → IfText (content plain (x ∷ xs))
  unfolding content
  ascii_turn x xs small low u =
      text-cond (x == 34) (Some []) _ (λ _. IsUtf8-nil) (λ _. text-cond (x == 92) _ _ (λ _. below after_backslash xs (omega arith) u tt)
      (λ _. text-cond (nat_lt x 32) None _ (λ _. tt) (λ _. text-prepend (x ∷ []) _ (ascii_one x low) (below plain xs (omega arith) u tt))))

  -- a short escape
  short_turn : (x : ℕ) (xs : List ℕ) → length xs ≤ n → IsUtf8 (x ∷ xs) → (o : Option ℕ) → IfShort x o → IfText (option_and_then (λ c. prepend (c ∷ []) (content plain xs)) o)
  short_turn x xs small u None h = tt
  short_turn x xs small u (Some c) h = text-prepend (c ∷ []) _ (ascii_one c h.meant) (below plain xs small (ascii_tail x xs h.letter u) tt)

  -- what a backslash begins
  escape_turn : (x : ℕ) (xs : List ℕ) → length xs ≤ n → IsUtf8 (x ∷ xs) → IfText (content after_backslash (x ∷ xs))
  unfolding content
  escape_turn x xs small u =
      text-cond (x == 117) _ _ (λ e. below after_u xs small (ascii_tail x xs (grind (arith, nat_tests)) u) tt)
      (λ _. short_turn x xs small u (short_escape x) (short x))

  -- what follows four hex digits
  past_unit : (a b c d v : ℕ) (xs : List ℕ) → IsUnit a b c d v → IsUtf8 (a ∷ b ∷ c ∷ d ∷ xs) → IsUtf8 xs
  past_unit a b c d v xs h u = ascii_tail d _ h.fourth (ascii_tail c _ h.third (ascii_tail b _ h.second (ascii_tail a _ h.first u)))

  -- a code unit: a character, or the first half of a pair
  unit_turn : (a b c d : ℕ) (xs : List ℕ) → length xs ≤ n → IsUtf8 (a ∷ b ∷ c ∷ d ∷ xs) → (o : Option ℕ) → IfUnit a b c d o
      → IfText (option_and_then (λ v. cond (is_high_surrogate v) (content (after_high v) xs) (cond (is_low_surrogate v) None (prepend (encode_utf8 v) (content plain xs)))) o)
  unit_turn a b c d xs small u None h = tt
  unit_turn a b c d xs small u (Some v) h =
      let rest = past_unit a b c d v xs h u in
      text-cond (is_high_surrogate v) _ _ (λ e. below (after_high v) xs small rest e)
      (λ e. text-cond (is_low_surrogate v) None _ (λ _. tt) (λ f. text-prepend (encode_utf8 v) _ (IsUtf8-encode v (whole_unit v h.small e f)) (below plain xs small rest tt)))

  -- the second half of a pair
  pair_turn : (high a b c d : ℕ) (xs : List ℕ) → is_high_surrogate high ≡ true → length xs ≤ n → IsUtf8 (a ∷ b ∷ c ∷ d ∷ xs) → (o : Option ℕ) → IfUnit a b c d o
      → IfText (option_and_then (λ l. cond (is_low_surrogate l) (prepend (encode_utf8 (surrogate_pair high l)) (content plain xs)) None) o)
  pair_turn high a b c d xs fine small u None h = tt
  pair_turn high a b c d xs fine small u (Some l) h =
      text-cond (is_low_surrogate l) _ None
      (λ e. text-prepend (encode_utf8 (surrogate_pair high l)) _ (IsUtf8-encode _ (pair_unit high l fine e)) (below plain xs small (past_unit a b c d l xs h u) tt)) (λ _. tt)

  -- what begins the second half of a pair
  begun_turn : (high s t a b c d : ℕ) (xs : List ℕ) → is_high_surrogate high ≡ true → length xs ≤ n → IsUtf8 (s ∷ t ∷ a ∷ b ∷ c ∷ d ∷ xs) → IfText (content (after_high high) (s ∷ t ∷ a ∷ b ∷ c ∷ d ∷ xs))
  unfolding content
  begun_turn high s t a b c d xs fine small u =
      text-cond ((s == 92) && (t == 117)) _ None (λ e.
      let both = and_parts (s == 92) _ e in
      let rest : IsUtf8 (a ∷ b ∷ c ∷ d ∷ xs) = ascii_tail t _ (grind (arith, nat_tests, both.1)) (ascii_tail s _ (grind (arith, nat_tests, both.0)) u) in
      pair_turn high a b c d xs fine small rest (code_unit a b c d) (unit a b c d)) (λ _. tt)

-- the content of a string in a text in UTF-8 is UTF-8
content_utf8 : (n : ℕ) → Below n
unfolding content
content_utf8 n plain [] small u fine = tt
content_utf8 n after_backslash [] small u fine = tt
content_utf8 n after_u [] small u fine = tt
content_utf8 n (after_high h) [] small u fine = tt
content_utf8 zero w (x ∷ xs) small u fine = absurd (omega arith)
content_utf8 (suc n) plain (x ∷ xs) small u fine = elim (cases_lt x 128) [
  | inl low ↦ ascii_turn n (content_utf8 n) x xs small low (ascii_tail x xs low u)
  | inr high ↦ char_turn n (content_utf8 n) u.0 x xs u.1.0 u.1.1 small high
]
content_utf8 (suc n) after_backslash (x ∷ xs) small u fine = escape_turn n (content_utf8 n) x xs (omega arith) u
content_utf8 (suc n) after_u (a ∷ []) small u fine = tt
content_utf8 (suc n) after_u (a ∷ b ∷ []) small u fine = tt
content_utf8 (suc n) after_u (a ∷ b ∷ c ∷ []) small u fine = tt
content_utf8 (suc n) after_u (a ∷ b ∷ c ∷ d ∷ xs) small u fine = unit_turn n (content_utf8 n) a b c d xs (omega arith) u (code_unit a b c d) (unit a b c d)
content_utf8 (suc n) (after_high h) (s ∷ []) small u fine = tt
content_utf8 (suc n) (after_high h) (s ∷ t ∷ []) small u fine = tt
content_utf8 (suc n) (after_high h) (s ∷ t ∷ a ∷ []) small u fine = tt
content_utf8 (suc n) (after_high h) (s ∷ t ∷ a ∷ b ∷ []) small u fine = tt
content_utf8 (suc n) (after_high h) (s ∷ t ∷ a ∷ b ∷ c ∷ []) small u fine = tt
content_utf8 (suc n) (after_high h) (s ∷ t ∷ a ∷ b ∷ c ∷ d ∷ xs) small u fine = begun_turn n (content_utf8 n) h s t a b c d xs fine (omega arith) u

-- what a string holds that begins behind a quote
pub text-content : (xs : List ℕ) → IsUtf8 xs → IfText (content plain xs)
text-content xs u = content_utf8 (length xs) plain xs (omega arith) u tt
