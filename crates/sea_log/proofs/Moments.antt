-- What a stop may leave of a log at the moments of the calls that write.
use Rattle.std.specs.Prelude.{◌≡◌, ◌≢◌, ℕ, ◌+◌, ◌^◌, ◌<◌, List, [], ◌∷◌, ◌++◌, length}
use Rattle.std.proofs.Common.{inl, inr, refl, sym, ap, ◌∙◌, subst, arith}
use Rattle.sea_fields.specs.Fields.{led}
use Rattle.sea_disk.specs.declared.file.File.{File}
use Rattle.sea_disk.specs.Shown.{Shown, IsDisk, IsSettled}
use Rattle.sea_disk.specs.Calls.{overlaid, Torn, Cut, After}
use Rattle.sea_disk.specs.Runs.{Works}
use Rattle.sea_disk.specs.Composition.{works_weaker, works_then}
use Rattle.sea_log.specs.Records.{IsClosedAt, HoldsList, HoldsWithOrWithout, HoldsListOrNone}
use Rattle.sea_log.specs.Images.{IsClosedInImages, HoldsInImages}
use Rattle.sea_log.proofs.Gates.{IsWritten, torn_behind_gate, written_behind_gate, torn_gate, opened_gate, torn_first_gate, closed_first_gate, cut_behind_gate, torn_short}

-- what holds of each image of a file holds at any moment of doing nothing
works_untouched : {file : File} {P : List ℕ → Type 0} {disk : Shown} → IsDisk disk → ((bytes : List ℕ) → disk.image file bytes → P bytes) → Works file P disk disk
works_untouched {file = file} sound holds = record {
  leaves = record {
    later = omega arith;
    each = λ files now. record { here = holds (files file) (sound.only_now files now file); others = λ other _. sound.only_now files now other };
    before = λ moment files early was. inl was;
  };
  now = holds;
  others = record { seen = λ other _. refl; image = λ other bytes _ image. image; kept = λ other bytes _ image. image };
}

-- what a settled file holds
settled_holds : (file : File) (P : List ℕ → Type 0) (disk : Shown) (content : List ℕ) → IsSettled disk file → disk.seen file ≡ content → P content → (bytes : List ℕ) → disk.image file bytes → P bytes
settled_holds file P disk content settled same holds bytes image = subst P (sym (settled bytes image ∙ same)) holds

-- ---- append

-- nothing is done
pub append_untouched : {file : File} {payloads : List (List ℕ)} (payload : List ℕ) {end : ℕ} {disk : Shown} → IsDisk disk → IsClosedInImages disk file payloads end → Works file (HoldsWithOrWithout payloads payload) disk disk
append_untouched payload {end = end} sound closed = works_untouched sound (λ bytes image. inl (end, inl (closed bytes image)))

-- the record is written behind the gate
pub append_record : {file : File} {payloads : List (List ℕ)} (payload : List ℕ) {end n : ℕ} {old mid : Shown} → IsClosedInImages old file payloads end → Works file (After file (Torn (end + 1) n) old) old mid → Works file (HoldsWithOrWithout payloads payload) old mid
append_record payload {end = end} closed works = works_weaker works (λ bytes after. inl (end, inl (torn_behind_gate (closed after.0 after.1) after.2)))

-- it is safe there
pub record_is_safe : {file : File} {payloads : List (List ℕ)} {payload row : List ℕ} {end : ℕ} (old mid : Shown) → IsDisk old → IsClosedInImages old file payloads end → length payload < 2 ^ 32 → row ≡ led payload ++ 0 ∷ [] → mid.seen file ≡ overlaid (old.seen file) (end + 1) row → IsSettled mid file → (bytes : List ℕ) → mid.image file bytes → IsWritten bytes payloads payload end
record_is_safe {file = file} {payloads = payloads} {payload = payload} {end = end} old mid sound closed fits row written settled =
    settled_holds file (λ bytes. IsWritten bytes payloads payload end) mid (overlaid (old.seen file) (end + 1) (led payload ++ 0 ∷ [])) settled (written ∙ ap (λ bytes. overlaid (old.seen file) (end + 1) bytes) row) (written_behind_gate (closed (old.seen file) (sound.seen_may_stay file)) fits)

-- the gate is opened
pub append_gate : {file : File} {payloads : List (List ℕ)} {payload : List ℕ} {end : ℕ} {old mid new : Shown} → Works file (HoldsWithOrWithout payloads payload) old mid → ((bytes : List ℕ) → mid.image file bytes → IsWritten bytes payloads payload end) → Works file (After file (Torn end 1) mid) mid new → Works file (HoldsWithOrWithout payloads payload) old new
append_gate first safe second = works_then first (works_weaker second (λ bytes after. torn_gate (safe after.0 after.1) after.2))

-- and that is safe
pub gate_is_safe : {file : File} {payloads : List (List ℕ)} {payload : List ℕ} {end place : ℕ} (mid new : Shown) → IsDisk mid → ((bytes : List ℕ) → mid.image file bytes → IsWritten bytes payloads payload end) → new.seen file ≡ overlaid (mid.seen file) end (1 ∷ []) → IsSettled new file → place ≡ end + 5 + length payload → IsClosedInImages new file (payloads ++ payload ∷ []) place
gate_is_safe {file = file} {payloads = payloads} {payload = payload} {end = end} {place = place} mid new sound safe written settled at =
    settled_holds file (λ bytes. IsClosedAt bytes (payloads ++ payload ∷ []) place) new (overlaid (mid.seen file) end (1 ∷ [])) settled written
    (subst (λ there. IsClosedAt (overlaid (mid.seen file) end (1 ∷ [])) (payloads ++ payload ∷ []) there) (sym at) (opened_gate (safe (mid.seen file) (sound.seen_may_stay file))))

-- ---- clear

-- the first gate is closed
pub clear_gate : {file : File} (payloads : List (List ℕ)) {old mid : Shown} → payloads ≢ [] → HoldsInImages old file payloads → Works file (After file (Torn 0 1) old) old mid → Works file (HoldsListOrNone payloads) old mid
clear_gate payloads some holds works = works_weaker works (λ bytes after. torn_first_gate payloads some (holds after.0 after.1) after.2)

-- that is safe, and no record is left
pub closed_is_safe : (file : File) (old mid : Shown) → mid.seen file ≡ overlaid (old.seen file) 0 (0 ∷ []) → IsSettled mid file → IsClosedInImages mid file [] 0
closed_is_safe file old mid written settled =
    settled_holds file (λ bytes. IsClosedAt bytes [] 0) mid (overlaid (old.seen file) 0 (0 ∷ [])) settled written (closed_first_gate (old.seen file))

-- what stands behind the gate is cut off
pub clear_rest : {file : File} {payloads : List (List ℕ)} {old mid new : Shown} → Works file (HoldsListOrNone payloads) old mid → IsClosedInImages mid file [] 0 → Works file (After file (Cut 1) mid) mid new → Works file (HoldsListOrNone payloads) old new
clear_rest first safe second = works_then first (works_weaker second (λ bytes after. inr (0, inl (cut_behind_gate (safe after.0 after.1) after.2))))

-- ---- begin

-- the first gate of a short file is laid
pub begin_gate : {file : File} {old new : Shown} → ((bytes : List ℕ) → old.image file bytes → length bytes < 6) → Works file (After file (Torn 0 1) old) old new → Works file (HoldsList []) old new
begin_gate short works = works_weaker works (λ bytes after. torn_short (short after.0 after.1) after.2)
