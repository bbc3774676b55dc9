-- The fields of a record are found again at their places.
use Rattle.std.proofs.Common.{◌≡◌, ℕ, ◌+◌, ◌-◌, ◌^◌, ◌<◌, ◌≤◌, List, [], ◌∷◌, ◌++◌, length, take, drop, nat_lt, false, Ok, ℤ, pos, negsuc, refl, sym, ap, ◌∙◌, subst, arith, append_assoc, append-nil, length-append, le-ltb}
use Rattle.std.proofs.Math.Seq.{drop-append_seam, take-append_seam, drop-append-add}
use Rattle.std.proofs.lemmas.Int.{ints}
use Rattle.std.proofs.lemmas.Nat.{from_be_bytes-to_be_bytes_4, from_be_bytes-to_be_bytes_8}
use Rattle.std.specs.Int.{Width, w8, w32, w64, byte_len, to_be_bytes, from_be_bytes}
use Rattle.sea_fields.specs.Fields.{led, number_at, span_at, behind, row_at}
use Rattle.sea_moment.specs.Moment.{IsMoment}
use Rattle.sea_record.specs.Record.{entry_kind, minutes_of, record_bytes, HasPlaces}

-- ---- one field

-- the bytes of a number are found as that number
number-again : (w : Width) (front bytes rest : List ℕ) (n : ℕ) → length bytes ≡ byte_len w → from_be_bytes w bytes ≡ n
    → number_at w (front ++ (bytes ++ rest)) (length front) ≡ Ok (n, length front + byte_len w)
number-again w front bytes rest n long is =
    let all = front ++ (bytes ++ rest) in
    let fits : nat_lt (length all) (length front + byte_len w) ≡ false = le-ltb _ _ (omega (arith, length-append front (bytes ++ rest), length-append bytes rest)) in
    let part : take (byte_len w) (drop (length front) all) ≡ bytes = ap (take (byte_len w)) (drop-append_seam front (bytes ++ rest)) ∙ ap (λ k. take k (bytes ++ rest)) (sym long) ∙ take-append_seam bytes rest in
    rw fits (ap (λ (found : List ℕ). Ok (from_be_bytes w found, length front + byte_len w)) part ∙ ap (λ (k : ℕ). Ok (k, length front + byte_len w)) is)

-- a byte row is found as the span of its bytes
row-again : (front value rest : List ℕ) (most : ℕ) → length value < 2 ^ 32 → length value ≤ most
    → row_at (front ++ (led value ++ rest)) (length front) most ≡ Ok (record { from = length front + 4; to = length front + 4 + length value }, length front + 4 + length value)
row-again front value rest most small within =
    let count = to_be_bytes w32 (length value) in
    let all = front ++ (led value ++ rest) in
    let found : number_at w32 all (length front) ≡ Ok (length value, length front + 4) = number-again w32 front count (value ++ rest) (length value) refl (from_be_bytes-to_be_bytes_4 (length value) small) in
    let fits : nat_lt (length all) (length front + 4 + length value) ≡ false = le-ltb _ _ (omega (arith, length-append front (led value ++ rest), length-append value rest)) in
    let short : nat_lt most (length value) ≡ false = le-ltb _ _ within in
    ap (behind (λ from count. span_at all from count most)) found ∙ rw (fits, short) refl

-- and the span has its bytes
bytes-again : (front value rest : List ℕ) → take (length value) (drop (length front + 4) (front ++ (led value ++ rest))) ≡ value
bytes-again front value rest = ap (take (length value)) (drop-append-add front (led value ++ rest) 4) ∙ take-append_seam value rest

-- the same at numbers that are known to be the places
record IsFound (payload value : List ℕ) (at from : ℕ) : Type 0 where
  row : row_at payload at (2 ^ 32 - 1) ≡ Ok (record { from = from; to = from + length value }, from + length value)
  bytes : take (length value) (drop from payload) ≡ value

last-again : (payload front value : List ℕ) (at from : ℕ) → front ++ (led value ++ []) ≡ payload → length front ≡ at → at + 4 ≡ from → length value < 2 ^ 32 → IsFound payload value at from
last-again payload front value at from e place next small =
    let there : IsFound (front ++ (led value ++ [])) value (length front) (length front + 4) = record { row = row-again front value [] (2 ^ 32 - 1) small (omega arith); bytes = bytes-again front value [] } in
    subst (λ p. IsFound p value at from) e (subst (λ (k : ℕ). IsFound (front ++ (led value ++ [])) value at k) next (subst (λ (k : ℕ). IsFound (front ++ (led value ++ [])) value k (k + 4)) place there))

-- ---- all fields

-- what the calls find, one after another
pub record ReadsAgain (payload : List ℕ) (lsn minutes : ℕ) (user text : List ℕ) : Type 0 where
  pub lsn_at : number_at w64 payload 0 ≡ Ok (lsn, 8)
  pub kind_at : number_at w8 payload 8 ≡ Ok (entry_kind, 9)
  pub minutes_at : number_at w64 payload 9 ≡ Ok (minutes, 17)
  pub user_at : row_at payload 17 (2 ^ 32 - 1) ≡ Ok (record { from = 21; to = 21 + length user }, 21 + length user)
  pub text_at : row_at payload (21 + length user) (2 ^ 32 - 1) ≡ Ok (record { from = 25 + length user; to = 25 + length user + length text }, 25 + length user + length text)
  pub user_is : take (length user) (drop 21 payload) ≡ user
  pub text_is : take (length text) (drop (25 + length user) payload) ≡ text

-- the eight bytes of the number, the kind, and the eight of the minutes
abbrev head : ℕ → ℕ → List ℕ
head lsn minutes = to_be_bytes w64 lsn ++ (entry_kind ∷ to_be_bytes w64 minutes)

reads_record : (lsn minutes : ℕ) (user text : List ℕ) → HasPlaces lsn minutes user text → ReadsAgain (record_bytes lsn minutes user text) lsn minutes user text
unfolding record_bytes
reads_record lsn minutes user text h =
    let payload = record_bytes lsn minutes user text in
    let number = to_be_bytes w64 lsn in
    let time = to_be_bytes w64 minutes in
    let front = head lsn minutes in
    let split : (front ++ led user) ++ (led text ++ []) ≡ payload = append_assoc front (led user) (led text ++ []) ∙ ap (λ l. front ++ (led user ++ l)) (append-nil (led text)) in
    let long : length (front ++ led user) ≡ 21 + length user = length-append front (led user) ∙ omega arith in
    let last = last-again payload (front ++ led user) text (21 + length user) (25 + length user) split long (omega arith) h.text_fits in
    record {
      lsn_at = number-again w64 [] number (entry_kind ∷ (time ++ (led user ++ led text))) lsn refl (from_be_bytes-to_be_bytes_8 lsn h.number);
      kind_at = number-again w8 number (entry_kind ∷ []) (time ++ (led user ++ led text)) entry_kind refl refl;
      minutes_at = number-again w64 (number ++ (entry_kind ∷ [])) time (led user ++ led text) minutes refl (from_be_bytes-to_be_bytes_8 minutes h.time);
      user_at = row-again front user (led text) (2 ^ 32 - 1) h.user_fits (omega (arith, h.user_fits));
      text_at = last.row;
      user_is = bytes-again front user (led text);
      text_is = last.bytes;
    }

-- so the fields of a record are found again
pub reads_again : (payload : List ℕ) (lsn minutes : ℕ) (user text : List ℕ) → HasPlaces lsn minutes user text → payload ≡ record_bytes lsn minutes user text → ReadsAgain payload lsn minutes user text
reads_again payload lsn minutes user text h e = subst (λ l. ReadsAgain l lsn minutes user text) (sym e) (reads_record lsn minutes user text h)

-- ---- moments

-- no two moments lie as many minutes after the first one
pub same_moment : (moment other : ℤ) → IsMoment moment → IsMoment other → minutes_of moment ≡ minutes_of other → moment ≡ other
same_moment (pos m) (pos n) h k e = ap pos (omega arith)
same_moment (pos m) (negsuc n) h k e = absurd (omega arith)
same_moment (negsuc m) (pos n) h k e = absurd (omega arith)
same_moment (negsuc m) (negsuc n) h k e = ap negsuc (omega (arith, ints, h.0, k.0))

-- the minutes of a moment
pub minutes_fit : (moment : ℤ) → IsMoment moment → minutes_of moment ≤ 5258964959
minutes_fit (pos m) h = omega (arith, ints, h.1)
minutes_fit (negsuc m) h = omega arith

-- ---- fields that are put one behind another

-- each field is put behind those before it
pub puts_record : (lsn minutes : ℕ) (user text : List ℕ) (none one two three four five : List ℕ) → none ≡ [] → one ≡ none ++ to_be_bytes w64 lsn → two ≡ one ++ entry_kind ∷ [] → three ≡ two ++ to_be_bytes w64 minutes → four ≡ three ++ led user → five ≡ four ++ led text
    → five ≡ record_bytes lsn minutes user text
unfolding record_bytes
puts_record lsn minutes user text none one two three four five a b c d e f =
    let first : one ≡ to_be_bytes w64 lsn = b ∙ ap (λ l. l ++ to_be_bytes w64 lsn) a in
    let second : two ≡ to_be_bytes w64 lsn ++ entry_kind ∷ [] = c ∙ ap (λ l. l ++ entry_kind ∷ []) first in
    let third : three ≡ head lsn minutes = d ∙ ap (λ l. l ++ to_be_bytes w64 minutes) second in
    let fourth : four ≡ head lsn minutes ++ led user = e ∙ ap (λ l. l ++ led user) third in
    f ∙ ap (λ l. l ++ led text) fourth ∙ append_assoc (head lsn minutes) (led user) (led text)
