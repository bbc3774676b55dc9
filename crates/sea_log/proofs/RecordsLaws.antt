-- Records and the gates behind them, as lists of bytes.
use Rattle.std.proofs.Common.{◌≡◌, ℕ, ◌+◌, ◌^◌, ◌<◌, List, [], ◌∷◌, ◌++◌, length, refl, sym, ap, ◌∙◌, arith}
use Rattle.std.proofs.lemmas.List.{append-nil, append_assoc, length-append}
use Rattle.std.specs.Int.{w32, to_be_bytes}
use Rattle.sea_fields.specs.Fields.{led}
use Rattle.sea_log.specs.Records.{records, HaveLengths}

-- a payload with its length has four bytes more
pub length-led : (payload : List ℕ) → length (led payload) ≡ length payload + 4
length-led payload = omega (arith, length-append (to_be_bytes w32 (length payload)) payload)

-- the records of a longer list
pub records-push : (payloads : List (List ℕ)) (payload : List ℕ) → records (payloads ++ payload ∷ []) ≡ records payloads ++ 1 ∷ led payload
records-push [] payload = append-nil (1 ∷ led payload)
records-push (first ∷ payloads) payload = ap (λ rest. (1 ∷ led first) ++ rest) (records-push payloads payload) ∙ sym (append_assoc (1 ∷ led first) (records payloads) (1 ∷ led payload))

-- how many bytes they have
pub length-records-push : (payloads : List (List ℕ)) (payload : List ℕ) → length (records (payloads ++ payload ∷ [])) ≡ length (records payloads) + 5 + length payload
length-records-push payloads payload = rw records-push (omega (arith, length-append (records payloads) (1 ∷ led payload), length-led payload))

-- a longer list has lengths
pub HaveLengths-push : (payloads : List (List ℕ)) (payload : List ℕ) → HaveLengths payloads → length payload < 2 ^ 32 → HaveLengths (payloads ++ payload ∷ [])
HaveLengths-push [] payload _ fits = (fits, tt)
HaveLengths-push (first ∷ payloads) payload lengths fits = (lengths.0, HaveLengths-push payloads payload lengths.1 fits)

-- a record behind records, and what follows it
pub records-opened : (payloads : List (List ℕ)) (payload rest : List ℕ) → records payloads ++ (1 ∷ (led payload ++ rest)) ≡ records (payloads ++ payload ∷ []) ++ rest
records-opened payloads payload rest = rw records-push (sym (append_assoc (records payloads) (1 ∷ led payload) rest))

-- a file that isn't short and whose list is empty or short: fewer than 6 bytes hold no record
pub no_record_is_short : (payloads : List (List ℕ)) (gate : ℕ) (rest : List ℕ) → length (records payloads ++ gate ∷ rest) < 6 → payloads ≡ []
no_record_is_short [] _ _ _ = refl
no_record_is_short (first ∷ payloads) gate rest short =
    absurd (omega (arith, length-append (records (first ∷ payloads)) (gate ∷ rest), length-append (1 ∷ led first) (records payloads), length-led first))
