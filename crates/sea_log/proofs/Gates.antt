-- What writes leave of a log file, also those that are cut short.
use Rattle.std.proofs.Common.{◌≡◌, ◌≢◌, ℕ, ◌+◌, ◌-◌, ◌^◌, ◌<◌, ◌≤◌, List, [], ◌∷◌, ◌++◌, length, take, drop, get_or, max, refl, sym, ap, ◌∙◌, subst, inl, inr, arith}
use Rattle.std.proofs.lemmas.Bool.{cases_eq, cases_lt}
use Rattle.std.proofs.lemmas.List.{append-nil, append_assoc, length-append, drop_more, take-append-drop, take_at, drop_at}
use Rattle.sea_fields.specs.Fields.{led}
use Rattle.sea_disk.specs.Calls.{overlaid, Torn, Cut}
use Rattle.sea_disk.specs.Composition.{length-overlaid}
use Rattle.sea_log.specs.Records.{records, HaveLengths, IsClosedAt, HoldsList, HoldsWithOrWithout, HoldsListOrNone}
use Rattle.sea_log.proofs.RecordsLaws.{length-led, length-records-push, HaveLengths-push, records-opened, no_record_is_short}

-- ---- writes within a file

-- a write leaves what stands before it
torn_front : {at n : ℕ} {old new : List ℕ} (m : ℕ) → Torn at n old new → m ≤ at → m ≤ length old → new ≡ take m old ++ drop m new
torn_front {new = new} m torn before within = sym (take-append-drop m new) ∙ ap (λ front. front ++ drop m new) (torn.before m before within)

-- a write of one byte leaves all but that byte
torn_byte : {at : ℕ} {old new : List ℕ} → Torn at 1 old new → at < length old → new ≡ take at old ++ get_or new at 0 ∷ drop (at + 1) old
torn_byte {at = at} {old = old} {new = new} torn within =
    let there : at < length new = omega (arith, torn.no_shorter) in
    torn_front at torn (omega arith) (omega arith) ∙ ap (λ tail. take at old ++ tail) (drop_more new at 0 there ∙ ap (λ tail. get_or new at 0 ∷ tail) torn.after)

-- what a write within a file leaves that came through
overlaid_within : (old : List ℕ) (at : ℕ) (bytes : List ℕ) → at ≤ length old → overlaid old at bytes ≡ take at old ++ (bytes ++ drop (at + length bytes) old)
overlaid_within old at bytes within =
    let no_gap : at - length old ≡ 0 = omega arith in
    rw (no_gap, append-nil, append_assoc) refl

-- ---- a closed gate

-- the gate is there
closed_within : {bytes : List ℕ} {payloads : List (List ℕ)} {end : ℕ} → IsClosedAt bytes payloads end → end < length bytes
closed_within {payloads = payloads} closed = rw (closed.split, closed.place) (omega (arith, length-append (records payloads) (closed.gate ∷ closed.rest)))

-- the records with the gate
closed_with_gate : {bytes : List ℕ} {payloads : List (List ℕ)} {end : ℕ} → (closed : IsClosedAt bytes payloads end) → take (end + 1) bytes ≡ records payloads ++ closed.gate ∷ []
closed_with_gate {payloads = payloads} {end = end} closed =
    let long : length (records payloads ++ closed.gate ∷ []) ≡ end + 1 = omega (arith, length-append (records payloads) (closed.gate ∷ []), closed.place) in
    ap (λ all. take (end + 1) all) (closed.split ∙ sym (append_assoc (records payloads) (closed.gate ∷ []) closed.rest)) ∙ take_at (records payloads ++ closed.gate ∷ []) closed.rest (end + 1) long

-- whatever is written behind a closed gate, the gate ends the list
closed_before : {bytes now : List ℕ} {payloads : List (List ℕ)} {end : ℕ} (tail : List ℕ) → IsClosedAt bytes payloads end → now ≡ take (end + 1) bytes ++ tail → IsClosedAt now payloads end
closed_before {payloads = payloads} tail closed same = record {
  gate = closed.gate;
  rest = tail;
  split = same ∙ ap (λ front. front ++ tail) (closed_with_gate closed) ∙ append_assoc (records payloads) (closed.gate ∷ []) tail;
  closed = closed.closed;
  place = closed.place;
  lengths = closed.lengths;
}

-- a write behind a closed gate that is cut short leaves the list
pub torn_behind_gate : {bytes now : List ℕ} {payloads : List (List ℕ)} {end n : ℕ} → IsClosedAt bytes payloads end → Torn (end + 1) n bytes now → IsClosedAt now payloads end
torn_behind_gate {bytes = bytes} {now = now} {end = end} closed torn =
    let within : end + 1 ≤ length bytes = omega (arith, closed_within closed) in
    closed_before (drop (end + 1) now) closed (torn_front (end + 1) torn (omega arith) within)

-- ---- a record behind a closed gate

-- A record stands behind the closed gate that ends a list, and a closed gate behind it.
pub record IsWritten (bytes : List ℕ) (payloads : List (List ℕ)) (payload : List ℕ) (end : ℕ) : Type 0 where
  pub gate : ℕ
  pub rest : List ℕ
  pub split : bytes ≡ records payloads ++ gate ∷ (led payload ++ 0 ∷ rest)
  pub closed : gate ≢ 1
  pub place : end ≡ length (records payloads)
  pub lengths : HaveLengths payloads
  pub fits : length payload < 2 ^ 32

-- so it does once it was written
pub written_behind_gate : {bytes : List ℕ} {payloads : List (List ℕ)} {payload : List ℕ} {end : ℕ} → IsClosedAt bytes payloads end → length payload < 2 ^ 32 → IsWritten (overlaid bytes (end + 1) (led payload ++ 0 ∷ [])) payloads payload end
written_behind_gate {bytes = bytes} {payloads = payloads} {payload = payload} {end = end} closed fits =
    let within : end + 1 ≤ length bytes = omega (arith, closed_within closed) in
    let row : List ℕ = led payload ++ 0 ∷ [] in
    let tail : List ℕ = drop (end + 1 + length row) bytes in
    record {
      gate = closed.gate;
      rest = tail;
      split = overlaid_within bytes (end + 1) row within
          ∙ ap (λ front. front ++ (row ++ tail)) (closed_with_gate closed)
          ∙ append_assoc (records payloads) (closed.gate ∷ []) (row ++ tail)
          ∙ ap (λ more. records payloads ++ closed.gate ∷ more) (append_assoc (led payload) (0 ∷ []) tail);
      closed = closed.closed;
      place = closed.place;
      lengths = closed.lengths;
      fits = fits;
    }

-- with the gate closed the file holds the list
still_closed : {payloads : List (List ℕ)} {end gate : ℕ} (rest : List ℕ) → gate ≢ 1 → end ≡ length (records payloads) → HaveLengths payloads → IsClosedAt (records payloads ++ gate ∷ rest) payloads end
still_closed {gate = gate} rest closed place lengths = record { gate = gate; rest = rest; split = refl; closed = closed; place = place; lengths = lengths }

-- with the gate open it holds the list with the payload
opened_closed : {bytes : List ℕ} {payloads : List (List ℕ)} {payload : List ℕ} {end : ℕ} (written : IsWritten bytes payloads payload end) → IsClosedAt (records payloads ++ 1 ∷ (led payload ++ 0 ∷ written.rest)) (payloads ++ payload ∷ []) (end + 5 + length payload)
opened_closed {payloads = payloads} {payload = payload} {end = end} written = record {
  gate = 0;
  rest = written.rest;
  split = records-opened payloads payload (0 ∷ written.rest);
  closed = λ same. cc;
  place = omega (arith, written.place, length-records-push payloads payload);
  lengths = HaveLengths-push payloads payload written.lengths written.fits;
}

-- what stands before the gate and behind it
written_parts : {bytes : List ℕ} {payloads : List (List ℕ)} {payload : List ℕ} {end : ℕ} (written : IsWritten bytes payloads payload end) → (end < length bytes) × (take end bytes ≡ records payloads) × (drop (end + 1) bytes ≡ led payload ++ 0 ∷ written.rest)
written_parts {bytes = bytes} {payloads = payloads} {payload = payload} {end = end} written =
    let behind : List ℕ = led payload ++ 0 ∷ written.rest in
    let long : length (records payloads ++ written.gate ∷ []) ≡ end + 1 = omega (arith, length-append (records payloads) (written.gate ∷ []), written.place) in (
      rw (written.split, written.place) (omega (arith, length-append (records payloads) (written.gate ∷ behind))),
      ap (λ all. take end all) written.split ∙ take_at (records payloads) (written.gate ∷ behind) end (sym written.place),
      ap (λ all. drop (end + 1) all) (written.split ∙ sym (append_assoc (records payloads) (written.gate ∷ []) behind)) ∙ drop_at (records payloads ++ written.gate ∷ []) behind (end + 1) long,
    )

-- any byte as the gate: the file holds the list with the payload or without it
any_gate : {bytes : List ℕ} {payloads : List (List ℕ)} {payload : List ℕ} {end : ℕ} (gate : ℕ) (written : IsWritten bytes payloads payload end) → HoldsWithOrWithout payloads payload (records payloads ++ gate ∷ (led payload ++ 0 ∷ written.rest))
any_gate {payloads = payloads} {payload = payload} {end = end} gate written = elim (cases_eq gate 1) [
  | inl opened ↦ inr (end + 5 + length payload, inl (subst (λ byte. IsClosedAt (records payloads ++ byte ∷ (led payload ++ 0 ∷ written.rest)) (payloads ++ payload ∷ []) (end + 5 + length payload)) (sym opened) (opened_closed written)))
  | inr closed ↦ inl (end, inl (still_closed (led payload ++ 0 ∷ written.rest) closed written.place written.lengths))
]

-- a write of the gate that is cut short leaves the list with the payload or without it
pub torn_gate : {bytes now : List ℕ} {payloads : List (List ℕ)} {payload : List ℕ} {end : ℕ} → IsWritten bytes payloads payload end → Torn end 1 bytes now → HoldsWithOrWithout payloads payload now
torn_gate {bytes = bytes} {now = now} {payloads = payloads} {payload = payload} {end = end} written torn =
    let parts = written_parts written in
    let same : now ≡ records payloads ++ get_or now end 0 ∷ (led payload ++ 0 ∷ written.rest) =
    torn_byte torn parts.0 ∙ ap (λ front. front ++ get_or now end 0 ∷ drop (end + 1) bytes) parts.1 ∙ ap (λ tail. records payloads ++ get_or now end 0 ∷ tail) parts.2 in
    subst (λ all. HoldsWithOrWithout payloads payload all) (sym same) (any_gate (get_or now end 0) written)

-- once the gate was opened the file holds the list with the payload
pub opened_gate : {bytes : List ℕ} {payloads : List (List ℕ)} {payload : List ℕ} {end : ℕ} → IsWritten bytes payloads payload end → IsClosedAt (overlaid bytes end (1 ∷ [])) (payloads ++ payload ∷ []) (end + 5 + length payload)
opened_gate {bytes = bytes} {payloads = payloads} {payload = payload} {end = end} written =
    let parts = written_parts written in
    let within : end ≤ length bytes = omega (arith, parts.0) in
    let same : overlaid bytes end (1 ∷ []) ≡ records payloads ++ 1 ∷ (led payload ++ 0 ∷ written.rest) =
    overlaid_within bytes end (1 ∷ []) within ∙ ap (λ front. front ++ 1 ∷ drop (end + 1) bytes) parts.1 ∙ ap (λ tail. records payloads ++ 1 ∷ tail) parts.2 in
    subst (λ all. IsClosedAt all (payloads ++ payload ∷ []) (end + 5 + length payload)) (sym same) (opened_closed written)

-- ---- the first gate

-- a first byte that isn't 1 ends the empty list
pub first_closed : (gate : ℕ) (rest : List ℕ) → gate ≢ 1 → IsClosedAt (gate ∷ rest) [] 0
first_closed gate rest closed = record { gate = gate; rest = rest; split = refl; closed = closed; place = refl; lengths = tt }

-- a file of one byte or more whose first byte isn't 1 holds the empty list
closed_first : (bytes : List ℕ) → 0 < length bytes → get_or bytes 0 0 ≢ 1 → IsClosedAt bytes [] 0
closed_first [] some _ = absurd (omega arith)
closed_first (gate ∷ rest) _ closed = first_closed gate rest closed

-- a file with a list that isn't empty has its first gate open, and six bytes and more
begun_with_records : {bytes : List ℕ} (payloads : List (List ℕ)) → payloads ≢ [] → HoldsList payloads bytes → (get_or bytes 0 0 ≡ 1) × (6 ≤ length bytes)
begun_with_records [] some _ = absurd (some refl)
begun_with_records (first ∷ payloads) some (end, inr short) = absurd (some short.none)
begun_with_records {bytes = bytes} (first ∷ payloads) some (end, inl closed) = (ap (λ all. get_or all 0 0) closed.split, long)
  where
    long : 6 ≤ length bytes
    long = elim (cases_lt (length bytes) 6) [
      | inl short ↦ absurd (some (no_record_is_short (first ∷ payloads) closed.gate closed.rest (subst (λ all. length all < 6) closed.split short)))
      | inr enough ↦ enough
    ]

-- a write of the first gate that leaves it open leaves all
same_with_first : {bytes now : List ℕ} → 0 < length bytes → Torn 0 1 bytes now → get_or bytes 0 0 ≡ get_or now 0 0 → bytes ≡ now
same_with_first {bytes = bytes} some torn same = drop_more bytes 0 0 some ∙ ap (λ gate. gate ∷ drop 1 bytes) same ∙ sym (torn_byte torn some)

-- a write of the first gate that is cut short leaves the list or none
pub torn_first_gate : {bytes now : List ℕ} (payloads : List (List ℕ)) → payloads ≢ [] → HoldsList payloads bytes → Torn 0 1 bytes now → HoldsListOrNone payloads now
torn_first_gate {bytes = bytes} {now = now} payloads some holds torn =
    let begun = begun_with_records payloads some holds in
    let within : 0 < length bytes = omega (arith, begun.1) in
    let there : 0 < length now = omega (arith, torn.no_shorter) in
    elim (cases_eq (get_or now 0 0) 1) [
      | inl opened ↦ inl (subst (λ all. HoldsList payloads all) (same_with_first within torn (begun.0 ∙ sym opened)) holds)
      | inr closed ↦ inr (0, inl (closed_first now there closed))
    ]

-- once it was closed the file holds no record
pub closed_first_gate : (bytes : List ℕ) → IsClosedAt (overlaid bytes 0 (0 ∷ [])) [] 0
closed_first_gate bytes = subst (λ all. IsClosedAt all [] 0) (sym (overlaid_within bytes 0 (0 ∷ []) (omega arith))) (first_closed 0 (drop 1 bytes) (λ same. cc))

-- a cut behind the closed first gate, also one that is cut short, leaves it
pub cut_behind_gate : {bytes now : List ℕ} → IsClosedAt bytes [] 0 → Cut 1 bytes now → IsClosedAt now [] 0
cut_behind_gate {bytes = bytes} {now = now} closed cut =
    let some : 0 < length now = omega (arith, cut.no_shorter, closed_within closed) in
    closed_before (drop 1 now) closed (sym (take-append-drop 1 now) ∙ ap (λ front. front ++ drop 1 now) (cut.before 1 (omega arith) (omega arith)))

-- a write of the first gate of a short file that is cut short leaves a short file
pub torn_short : {bytes now : List ℕ} → length bytes < 6 → Torn 0 1 bytes now → HoldsList [] now
torn_short short torn = (0, inr (record { short = omega (arith, short, torn.no_longer); none = refl; place = refl }))

-- ---- sizes

-- a log with a record more
pub appended_size : (old mid new payload row : List ℕ) (end : ℕ) → row ≡ led payload ++ 0 ∷ [] → mid ≡ overlaid old (end + 1) row → new ≡ overlaid mid end (1 ∷ []) → length new ≡ max (length old) (end + 6 + length payload)
appended_size old mid new payload row end is first second =
    let last : length new ≡ max (length mid) (end + 1) = ap length second ∙ length-overlaid mid end (1 ∷ []) in
    let middle : length mid ≡ max (length old) (end + 1 + length row) = ap length first ∙ length-overlaid old (end + 1) row in
    let record_size : length row ≡ length payload + 5 = ap length is ∙ omega (arith, length-append (led payload) (0 ∷ []), length-led payload) in
    omega (arith, last, middle, record_size)

-- a first gate alone
pub closed_alone : (old mid new : List ℕ) → mid ≡ overlaid old 0 (0 ∷ []) → new ≡ take 1 mid → new ≡ 0 ∷ []
closed_alone old mid new first second = second ∙ ap (λ bytes. take 1 bytes) (first ∙ overlaid_within old 0 (0 ∷ []) (omega arith))
