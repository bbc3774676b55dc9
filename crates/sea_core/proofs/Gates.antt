-- Laying the gates that are missing.
use Rattle.std.proofs.Common.{◌≡◌, ◌≢◌, ℕ, ◌-◌, ◌<◌, ◌≤◌, nat_lt, List, [], ◌∷◌, length, drop, true, false, if◌then◌else◌, refl, sym, ◌∙◌, ap, subst, inl, inr, arith}
use Rattle.std.proofs.lemmas.Bool.Decides.{nat_tests}
use Rattle.std.proofs.lemmas.Bool.{cases_lt}
use Rattle.sea_disk.specs.declared.file.File.{File}
use Rattle.sea_disk.specs.declared.file.File.TheVariants.{Base0, Base1, Log0, Log1, Arch}
use Rattle.sea_disk.specs.Shown.{Shown, IsDisk, IsSettled}
use Rattle.sea_disk.specs.Calls.{overlaid, Torn, After}
use Rattle.sea_disk.specs.Runs.{Works}
use Rattle.sea_log.specs.Records.{HoldsList, IsClosedAt}
use Rattle.sea_core.specs.Gates.{HasGate, with_first_byte}
use Rattle.sea_core.specs.Stands.{IsClosedBase}
use Rattle.sea_core.specs.Steps.{Keeps, IsAllSettled, IsBaseFile, IsLogFile}
use Rattle.sea_core.proofs.Standing.{HoldsOneList}
use Rattle.sea_core.proofs.Alike.{MeansAsWell, keeps_works}

-- the five files are all
pub all_settled : (disk : Shown) → IsSettled disk Base0 → IsSettled disk Base1 → IsSettled disk Log0 → IsSettled disk Log1 → IsSettled disk Arch → IsAllSettled disk
all_settled disk base0 base1 log0 log1 arch Base0 = base0
all_settled disk base0 base1 log0 log1 arch Base1 = base1
all_settled disk base0 base1 log0 log1 arch Log0 = log0
all_settled disk base0 base1 log0 log1 arch Log1 = log1
all_settled disk base0 base1 log0 log1 arch Arch = arch

-- ---- base files

-- closed bytes of a base file mean the same
closed_means : (file : File) (one other : List ℕ) → IsBaseFile file → IsClosedBase other → MeansAsWell file one other
closed_means file one other (inl same) closed = subst (λ it. MeansAsWell it one other) (sym same) (λ _. closed)
closed_means file one other (inr same) closed = subst (λ it. MeansAsWell it one other) (sym same) (λ _. closed)

-- a short base file stays short where one byte is written at its front
torn_is_short : (file : File) (disk : Shown) → IsSettled disk file → length (disk.seen file) < 17 → (bytes : List ℕ) → After file (Torn 0 1) disk bytes → length bytes < 17
torn_is_short file disk settled short bytes (before, image, torn) = omega (arith, short, torn.no_longer, ap length (settled before image))

base_is_not_arch : {file : File} → IsBaseFile file → Arch ≢ file
base_is_not_arch (inl base) is = cc (base, is)
base_is_not_arch (inr base) is = cc (base, is)

pub base_gate_keeps : {file : File} {old new : Shown} → IsBaseFile file → IsDisk old → IsDisk new → IsAllSettled old → length (old.seen file) < 17 → Works file (After file (Torn 0 1) old) old new → Keeps old new
base_gate_keeps {file = file} {old = old} is disk after settled short works =
    keeps_works disk after settled (base_is_not_arch is) works
    (λ bytes torn. closed_means file (old.seen file) bytes is (inl (torn_is_short file old (settled file) short bytes torn)))
    (λ bytes torn. closed_means file bytes (old.seen file) is (inl short))

-- one byte at the front of a file
laid_front : (old : List ℕ) → overlaid old 0 (0 ∷ []) ≡ 0 ∷ drop 1 old
laid_front old =
    let no_gap : 0 - length old ≡ 0 = omega arith in
    rw (no_gap) refl

-- ---- what is laid

-- a file that is long enough stays
pub long_stays : (shortest : ℕ) (old now : List ℕ) → shortest ≤ length old → now ≡ old → now ≡ with_first_byte shortest old
long_stays shortest old now long same =
    let test : nat_lt (length old) shortest ≡ false = grind (arith, nat_tests, long) in
    same ∙ ap (λ it. if it then overlaid old 0 (0 ∷ []) else old) (sym test)

-- a short one has its front laid
pub short_is_laid : (shortest : ℕ) (old mid now : List ℕ) → length old < shortest → mid ≡ old → now ≡ overlaid mid 0 (0 ∷ []) → now ≡ with_first_byte shortest old
short_is_laid shortest old mid now short same laid =
    let test : nat_lt (length old) shortest ≡ true = grind (arith, nat_tests, short) in
    laid ∙ ap (λ it. overlaid it 0 (0 ∷ [])) same ∙ ap (λ it. if it then overlaid old 0 (0 ∷ []) else old) (sym test)

-- a log whose front was laid, if it was short, has its gate
pub has_gate : (old now : List ℕ) → now ≡ with_first_byte 6 old → HasGate now
has_gate old now laid = subst HasGate (sym laid) (elim (cases_lt (length old) 6) [ inl short ↦ of_short short | inr long ↦ of_long long ])
  where
    of_short : length old < 6 → HasGate (with_first_byte 6 old)
    of_short short =
        let test : nat_lt (length old) 6 ≡ true = grind (arith, nat_tests, short) in
        subst HasGate (ap (λ it. if it then overlaid old 0 (0 ∷ []) else old) (sym test)) (inr (subst (λ it. IsClosedAt it [] 0) (sym (laid_front old)) (record { gate = 0; rest = drop 1 old; split = refl; closed = λ e. cc; place = refl; lengths = tt })))

    of_long : 6 ≤ length old → HasGate (with_first_byte 6 old)
    of_long long =
        let test : nat_lt (length old) 6 ≡ false = grind (arith, nat_tests, long) in
        subst HasGate (ap (λ it. if it then overlaid old 0 (0 ∷ []) else old) (sym test)) (inl long)

-- a file is a base file, a log or `arch`
pub of_each : (P : File → Type 0) → ((file : File) → IsBaseFile file → P file) → ((file : File) → IsLogFile file → P file) → P Arch → (file : File) → P file
of_each P bases logs arch Base0 = bases Base0 (inl refl)
of_each P bases logs arch Base1 = bases Base1 (inr refl)
of_each P bases logs arch Log0 = logs Log0 (inl refl)
of_each P bases logs arch Log1 = logs Log1 (inr refl)
of_each P bases logs arch Arch = arch

pub log_is_no_base : (file : File) → IsLogFile file → ¬ IsBaseFile file
log_is_no_base file (inl log) (inl base) = cc (log, base)
log_is_no_base file (inl log) (inr base) = cc (log, base)
log_is_no_base file (inr log) (inl base) = cc (log, base)
log_is_no_base file (inr log) (inr base) = cc (log, base)

pub base_is_no_log : (file : File) → IsBaseFile file → ¬ IsLogFile file
base_is_no_log file base log = log_is_no_base file log base

pub arch_is_no_base : ¬ IsBaseFile Arch
arch_is_no_base (inl is) = cc
arch_is_no_base (inr is) = cc

pub arch_is_no_log : ¬ IsLogFile Arch
arch_is_no_log (inl is) = cc
arch_is_no_log (inr is) = cc

-- what holds of two files holds of each of their kind
pub each_base : (P : File → Type 0) → P Base0 → P Base1 → (file : File) → IsBaseFile file → P file
each_base P one other file (inl is) = subst P (sym is) one
each_base P one other file (inr is) = subst P (sym is) other

pub each_log : (P : File → Type 0) → P Log0 → P Log1 → (file : File) → IsLogFile file → P file
each_log P one other file (inl is) = subst P (sym is) one
each_log P one other file (inr is) = subst P (sym is) other

-- ---- logs

log_is_not_arch : {file : File} → IsLogFile file → Arch ≢ file
log_is_not_arch (inl log) is = cc (log, is)
log_is_not_arch (inr log) is = cc (log, is)

-- logs without records mean the same
empty_means : HoldsOneList → (file : File) (one other : List ℕ) → IsLogFile file → HoldsList [] one → HoldsList [] other → MeansAsWell file one other
empty_means unique file one other is none empty = elim is [ inl same ↦ subst (λ it. MeansAsWell it one other) (sym same) holds | inr same ↦ subst (λ it. MeansAsWell it one other) (sym same) holds ]
  where
    holds : (payloads : List (List ℕ)) → HoldsList payloads one → HoldsList payloads other
    holds payloads some = subst (λ it. HoldsList it other) (unique one [] payloads none.0 some.0 none.1 some.1).0 empty

-- a short log holds no record
short_is_empty : (bytes : List ℕ) → length bytes < 6 → HoldsList [] bytes
short_is_empty bytes short = (0, inr (record { short = short; none = refl; place = refl }))

-- what a stop leaves of a settled log that is short is short
pub images_are_short : (file : File) (disk : Shown) → IsSettled disk file → length (disk.seen file) < 6 → (bytes : List ℕ) → disk.image file bytes → length bytes < 6
images_are_short file disk settled short bytes image = subst (λ it. length it < 6) (sym (settled bytes image)) short

pub log_gate_keeps : HoldsOneList → {file : File} {old new : Shown} → IsLogFile file → IsDisk old → IsDisk new → IsAllSettled old → length (old.seen file) < 6 → Works file (HoldsList []) old new → Keeps old new
log_gate_keeps unique {file = file} {old = old} is disk after settled short works =
    keeps_works disk after settled (log_is_not_arch is) works
    (λ bytes empty. empty_means unique file (old.seen file) bytes is (short_is_empty (old.seen file) short) empty)
    (λ bytes empty. empty_means unique file bytes (old.seen file) is empty (short_is_empty (old.seen file) short))
