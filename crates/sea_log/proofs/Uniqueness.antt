-- A file holds at most one list.
use Rattle.std.proofs.Common.{◌≡◌, ◌≢◌, ℕ, ◌^◌, ◌<◌, List, [], ◌∷◌, ◌++◌, length, take, drop, refl, sym, ap, ◌∙◌, subst, inl, inr}
use Rattle.std.proofs.lemmas.List.{append_assoc, take_at, drop_at}
use Rattle.std.proofs.lemmas.Nat.{from_be_bytes-to_be_bytes_4}
use Rattle.std.specs.Int.{w32, to_be_bytes, from_be_bytes}
use Rattle.sea_fields.specs.Fields.{led}
use Rattle.sea_log.specs.Records.{records, HaveLengths, IsClosedAt, IsLog}
use Rattle.sea_log.proofs.RecordsLaws.{no_record_is_short}

-- four bytes tell a length
length_is_told : (m n : ℕ) → m < 2 ^ 32 → n < 2 ^ 32 → to_be_bytes w32 m ≡ to_be_bytes w32 n → m ≡ n
length_is_told m n fits fits_too same = sym (from_be_bytes-to_be_bytes_4 m fits) ∙ ap (λ bytes. from_be_bytes w32 bytes) same ∙ from_be_bytes-to_be_bytes_4 n fits_too

-- fronts of one length in equal lists are equal, and so is what follows them
fronts_same : (p q r s : List ℕ) → length p ≡ length q → p ++ r ≡ q ++ s → (p ≡ q) × (r ≡ s)
fronts_same p q r s long same = (
  sym (take_at p r (length p) refl) ∙ ap (λ bytes. take (length p) bytes) same ∙ take_at q s (length p) (sym long),
  sym (drop_at p r (length p) refl) ∙ ap (λ bytes. drop (length p) bytes) same ∙ drop_at q s (length p) (sym long),
)

-- a payload is told by its length and what begins with it
pub led_same : (p q r s : List ℕ) → length p < 2 ^ 32 → length q < 2 ^ 32 → led p ++ r ≡ led q ++ s → (p ≡ q) × (r ≡ s)
led_same p q r s fits fits_too same =
    let regrouped : to_be_bytes w32 (length p) ++ (p ++ r) ≡ to_be_bytes w32 (length q) ++ (q ++ s) = sym (append_assoc (to_be_bytes w32 (length p)) p r) ∙ same ∙ append_assoc (to_be_bytes w32 (length q)) q s in
    let parts : (to_be_bytes w32 (length p) ≡ to_be_bytes w32 (length q)) × (p ++ r ≡ q ++ s) = fronts_same (to_be_bytes w32 (length p)) (to_be_bytes w32 (length q)) (p ++ r) (q ++ s) refl regrouped in
    fronts_same p q r s (length_is_told (length p) (length q) fits fits_too parts.0) parts.1

-- records that a closed gate ends tell their payloads
closed_same : (one other : List (List ℕ)) (gate place : ℕ) (rest tail : List ℕ) → HaveLengths one → HaveLengths other → gate ≢ 1 → place ≢ 1 → records one ++ gate ∷ rest ≡ records other ++ place ∷ tail → one ≡ other
closed_same [] [] gate place rest tail _ _ _ _ _ = refl
closed_same [] (q ∷ qs) gate place rest tail _ _ closed _ same = let opened : gate ≡ 1 = cc in absurd (closed opened)
closed_same (p ∷ ps) [] gate place rest tail _ _ _ closed same = let opened : place ≡ 1 = cc in absurd (closed opened)
closed_same (p ∷ ps) (q ∷ qs) gate place rest tail lengths lengths_too closed closed_too same =
    let behind : (led p ++ records ps) ++ gate ∷ rest ≡ (led q ++ records qs) ++ place ∷ tail = cc in
    let regrouped : led p ++ (records ps ++ gate ∷ rest) ≡ led q ++ (records qs ++ place ∷ tail) = sym (append_assoc (led p) (records ps) (gate ∷ rest)) ∙ behind ∙ append_assoc (led q) (records qs) (place ∷ tail) in
    let parts : (p ≡ q) × (records ps ++ gate ∷ rest ≡ records qs ++ place ∷ tail) = led_same p q (records ps ++ gate ∷ rest) (records qs ++ place ∷ tail) lengths.0 lengths_too.0 regrouped in
    let others : ps ≡ qs = closed_same ps qs gate place rest tail lengths.1 lengths_too.1 closed closed_too parts.1 in
    let first : p ≡ q = parts.0 in
    cc

-- what ends at a closed gate and is short has no payload
closed_short : (bytes : List ℕ) (one : List (List ℕ)) (end : ℕ) → IsClosedAt bytes one end → length bytes < 6 → (one ≡ []) × (end ≡ 0)
closed_short bytes one end closed short =
    let none : one ≡ [] = no_record_is_short one closed.gate closed.rest (subst (λ all. length all < 6) closed.split short) in
    (none, closed.place ∙ ap (λ payloads. length (records payloads)) none)

-- a file holds at most one list of payloads, and one gate ends it
pub same_log : (bytes : List ℕ) (one other : List (List ℕ)) (end place : ℕ) → IsLog bytes one end → IsLog bytes other place → (one ≡ other) × (end ≡ place)
same_log bytes one other end place (inl first) (inl second) =
    let same : one ≡ other = closed_same one other first.gate second.gate first.rest second.rest first.lengths second.lengths first.closed second.closed (sym first.split ∙ second.split) in
    (same, first.place ∙ ap (λ payloads. length (records payloads)) same ∙ sym second.place)
same_log bytes one other end place (inl first) (inr second) =
    let none : (one ≡ []) × (end ≡ 0) = closed_short bytes one end first second.short in
    (none.0 ∙ sym second.none, none.1 ∙ sym second.place)
same_log bytes one other end place (inr first) (inl second) =
    let none : (other ≡ []) × (place ≡ 0) = closed_short bytes other place second first.short in
    (first.none ∙ sym none.0, first.place ∙ sym none.1)
same_log bytes one other end place (inr first) (inr second) = (first.none ∙ sym second.none, first.place ∙ sym second.place)
