-- What is found in the files of a disk.
use Rattle.std.proofs.Common.{◌≡◌, ◌≢◌, ℕ, ◌<◌, ◌≤◌, List, [], ◌∷◌, length, take, drop, get_or, slice_index, refl, sym, ap, ◌∙◌, subst, inl, inr, arith}
use Rattle.sea_disk.specs.declared.file.File.TheVariants.{Base0, Base1, Log0, Log1}
use Rattle.sea_disk.specs.Shown.{Files, Shown}
use Rattle.sea_disk.specs.Calls.{Rests}
use Rattle.sea_log.specs.declared.fault.LogFault.{LogFault}
use Rattle.sea_log.specs.declared.fault.LogFault.TheVariants as log
use Rattle.sea_log.specs.Records.{IsLog, IsClosedAt, HoldsList}
use Rattle.sea_operation.specs.declared.base.Plain.{Plain}
use Rattle.sea_core.specs.declared.fault.StartFault.TheVariants.{NotABase}
use Rattle.sea_core.specs.Sound.{IsReady}
use Rattle.sea_core.specs.Stands.{IsClosedBase, Makes, StandsFor}
use Rattle.sea_core.specs.Gates.{HasGate}
use Rattle.sea_core.specs.Steps.{AreClosed, IsAllSettled, start_fault_of}
use Rattle.sea_core.proofs.Standing.{HoldsOneList}

-- ---- base files

-- the gate that was read is the first byte
gate_is_first : (bytes gate : List ℕ) → 17 ≤ length bytes → gate ≡ take 1 (drop 0 bytes) → get_or gate 0 0 ≡ slice_index bytes 0
gate_is_first [] gate long same = absurd (omega arith)
gate_is_first (first ∷ bytes) gate long same = ap (λ it. get_or it 0 0) same

-- a base file whose first byte isn't 1 is closed
pub gate_is_closed : (bytes gate : List ℕ) → 17 ≤ length bytes → gate ≡ take 1 (drop 0 bytes) → get_or gate 0 0 ≢ 1 → IsClosedBase bytes
gate_is_closed bytes gate long same other = inr (λ opened. other (gate_is_first bytes gate long same ∙ opened))

-- one whose first byte is 1 isn't
pub gate_is_open : (bytes gate : List ℕ) → 17 ≤ length bytes → gate ≡ take 1 (drop 0 bytes) → get_or gate 0 0 ≡ 1 → ¬ IsClosedBase bytes
gate_is_open bytes gate long same opened (inl short) = absurd (omega arith)
gate_is_open bytes gate long same opened (inr closed) = closed (sym (gate_is_first bytes gate long same) ∙ opened)

-- ---- logs

-- a log that holds a record isn't empty
pub some_record : HoldsOneList → (bytes : List ℕ) (payloads : List (List ℕ)) (end : ℕ) → IsLog bytes payloads end → 0 < length payloads → ¬ HoldsList [] bytes
some_record unique bytes payloads end holds some empty = let none = (unique bytes payloads [] end empty.0 holds empty.1).0 in absurd (omega (arith, some, ap length none))

-- one that holds none is
pub no_record : (bytes : List ℕ) (payloads : List (List ℕ)) (end : ℕ) → IsLog bytes payloads end → length payloads ≤ 0 → HoldsList [] bytes
no_record bytes [] end holds none = (end, holds)
no_record bytes (payload ∷ payloads) end holds none = absurd (omega arith)

-- a log that a record can be appended to ends at a closed gate
closed_at : (bytes : List ℕ) (payloads : List (List ℕ)) (end : ℕ) → HasGate bytes → IsLog bytes payloads end → IsClosedAt bytes payloads end
closed_at bytes payloads end gate (inl closed) = closed
closed_at bytes payloads end (inl long) (inr short) = absurd (omega (arith, short.short))
closed_at bytes payloads end (inr closed) (inr short) = subst (λ it. IsClosedAt bytes it end) (sym short.none) (subst (λ it. IsClosedAt bytes [] it) (sym short.place) closed)

-- its closed gate is the first one where it holds no record
closed_first : (bytes : List ℕ) (end : ℕ) → IsClosedAt bytes [] end → IsClosedAt bytes [] 0
closed_first bytes end closed = subst (IsClosedAt bytes []) closed.place closed

-- ---- the base

-- the files stand for the base that their log makes
pub stands_for : (files : Files) (payloads : List (List ℕ)) (end : ℕ) (base : Plain) → AreClosed files → HoldsList [] (files Log1) → IsLog (files Log0) payloads end → Makes payloads base → StandsFor base files
stands_for files payloads end base closed empty holds makes = record { base0 = closed.0; base1 = closed.1; second = empty; payloads = payloads; log = (end, holds); makes = makes }

-- they stand for none where it makes none
pub stands_for_none : HoldsOneList → (files : Files) (payloads : List (List ℕ)) (end : ℕ) → IsLog (files Log0) payloads end → ((base : Plain) → ¬ Makes payloads base) → (base : Plain) → ¬ StandsFor base files
stands_for_none unique files payloads end holds none base stands =
    none base (subst (λ it. Makes it base) (unique (files Log0) stands.payloads payloads stands.log.0 end stands.log.1 holds).0 stands.makes)

-- a settled disk whose files stand for a base, and whose log ends at a closed gate, is ready for the next record
pub is_ready : (old new : Shown) (payloads : List (List ℕ)) (end : ℕ) (base : Plain) → IsAllSettled old → Rests old new → AreClosed old.seen → HoldsList [] (old.seen Log1) → HasGate (old.seen Log0) → HasGate (old.seen Log1) → IsLog (old.seen Log0) payloads end → Makes payloads base → IsReady new base end
is_ready old new payloads end base settled rests closed empty gate second holds makes = record {
  base0 = λ bytes image. subst IsClosedBase (sym (settled Base0 bytes (rests.image Base0 bytes image))) closed.0;
  base1 = λ bytes image. subst IsClosedBase (sym (settled Base1 bytes (rests.image Base1 bytes image))) closed.1;
  second = λ bytes image. subst (λ it. IsClosedAt it [] 0) (sym (settled Log1 bytes (rests.image Log1 bytes image))) (closed_first (old.seen Log1) empty.0 (closed_at (old.seen Log1) [] empty.0 second empty.1));
  payloads = payloads;
  log = λ bytes image. subst (λ it. IsClosedAt it payloads end) (sym (settled Log0 bytes (rests.image Log0 bytes image))) (closed_at (old.seen Log0) payloads end gate holds);
  makes = makes;
}

-- ---- faults

-- a log is refused as no base where it is bad
pub only_bad : (fault : LogFault) → start_fault_of fault ≡ NotABase → ((size : ℕ) → fault ≢ log.LogFull size) → fault ≡ log.BadLog
only_bad log.Memory same _ = absurd (cc)
only_bad log.DiskFault same _ = absurd (cc)
only_bad log.BadLog _ _ = refl
only_bad (log.LogFull size) _ other = absurd (other size refl)
