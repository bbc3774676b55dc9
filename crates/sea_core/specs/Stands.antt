-- What the five files of a disk stand for.
use Rattle.std.specs.Prelude.{◌≡◌, ◌≢◌, ◌⊎◌, ℕ, ◌+◌, ◌<◌, List, [], ◌∷◌, length, slice_index, Ok}
use Rattle.sea_disk.specs.declared.file.File.TheVariants.{Base0, Base1, Log0, Log1}
use Rattle.sea_disk.specs.Shown.{Files, Shown, IsImage}
use Rattle.sea_log.specs.Records.{HoldsList}
use Rattle.sea_operation.specs.declared.base.Plain.{Plain}
use Rattle.sea_operation.specs.declared.operation.Entry.{Entry}
use Rattle.sea_operation.specs.Base.{empty_base}
use Rattle.sea_operation.specs.Apply.{after}
use Rattle.sea_record.specs.Record.{IsRecord}

-- a base file is open where it has at least 17 bytes and the first is 1
abbrev pub IsClosedBase : List ℕ → Type 0
IsClosedBase bytes = (length bytes < 17) ⊎ (slice_index bytes 0 ≢ 1)

-- the payloads are the records of these entries, numbered from here on
abbrev pub AreRecords : ℕ → List (List ℕ) → List Entry → Type 0
AreRecords lsn [] [] = Unit {0}
AreRecords lsn (payload ∷ payloads) (entry ∷ entries) = IsRecord payload lsn entry × AreRecords (lsn + 1) payloads entries
AreRecords lsn [] (_ ∷ _) = ⊥
AreRecords lsn (_ ∷ _) [] = ⊥

-- Payloads make a base: they are the records of entries, numbered from 1, which the empty base takes one after another.
pub record Makes (payloads : List (List ℕ)) (base : Plain) : Type 0 where
  pub entries : List Entry
  pub records : AreRecords 1 payloads entries
  pub taken : after empty_base entries ≡ Ok base

-- The five files stand for a base: both base files are closed, the second log holds no record, and the first one's
-- payloads make the base.
pub record StandsFor (base : Plain) (files : Files) : Type 0 where
  pub base0 : IsClosedBase (files Base0)
  pub base1 : IsClosedBase (files Base1)
  pub second : HoldsList [] (files Log1)
  pub payloads : List (List ℕ)
  pub log : HoldsList payloads (files Log0)
  pub makes : Makes payloads base

-- two times five files stand for the same
pub record StandAlike (one other : Files) : Type 0 where
  pub there : (base : Plain) → StandsFor base one → StandsFor base other
  pub back : (base : Plain) → StandsFor base other → StandsFor base one

-- files that stand for the same as some that a stop might have left
abbrev pub KeepsStanding : Shown → Files → Type 0
KeepsStanding old files = (before : Files) × IsImage old before × StandAlike before files
