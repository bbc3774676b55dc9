-- What holds of a core over a told disk between any two of its calls, and what a stop leaves of an edit.
use Rattle.std.specs.Prelude.{◌≡◌, ◌⊎◌, ℕ, List, [], ◌∷◌, ◌++◌, Option, Some, None, Result, Ok, OnOk}
use Rattle.sea_disk.specs.declared.file.File.TheVariants.{Base0, Base1, Log0, Log1}
use Rattle.sea_disk.specs.Shown.{Files, Shown, IsImage}
use Rattle.sea_disk.specs.Calls.{OthersStay}
use Rattle.sea_disk.specs.Runs.{Leaves}
use Rattle.sea_log.specs.Images.{IsClosedInImages, with_record}
use Rattle.sea_operation.specs.declared.base.Plain.{Plain}
use Rattle.sea_operation.specs.declared.operation.Entry.{Entry}
use Rattle.sea_operation.specs.Apply.{apply}
use Rattle.sea_core.specs.declared.fault.CoreFault.{CoreFault}
use Rattle.sea_core.specs.State.{CoreState, next_record}
use Rattle.sea_core.specs.Stands.{IsClosedBase, Makes, StandsFor}

-- Whatever a stop leaves, the base files are closed, the second log holds no record behind its closed gate, and the first
-- one holds the list that makes the base, with the closed gate at `end` behind it.
pub record IsReady (disk : Shown) (base : Plain) (end : ℕ) : Type 0 where
  pub base0 : (bytes : List ℕ) → disk.image Base0 bytes → IsClosedBase bytes
  pub base1 : (bytes : List ℕ) → disk.image Base1 bytes → IsClosedBase bytes
  pub second : IsClosedInImages disk Log1 [] 0
  pub payloads : List (List ℕ)
  pub log : IsClosedInImages disk Log0 payloads end
  pub makes : Makes payloads base

-- the files stand for the base that takes this entry
abbrev pub StandsWith : Plain → Entry → Files → Type 0
StandsWith base entry files = (next : Plain) × (apply base entry ≡ Ok next) × StandsFor next files

-- the files stand for the base, or for the one with the entry in doubt
abbrev pub StandsForOneOf : Plain → Option Entry → Files → Type 0
StandsForOneOf base None files = StandsFor base files
StandsForOneOf base (Some entry) files = StandsFor base files ⊎ StandsWith base entry files

abbrev pub StandsForCore : {D : Type 0} → CoreState D → Files → Type 0
StandsForCore core files = StandsForOneOf core.content core.doubt files

-- Until a writing call fails, no entry is in doubt and the disk is ready for the next record. From then on whatever a stop
-- leaves stands for the base, or for the one with the entry in doubt.
abbrev pub IsSoundAs : Shown → Plain → Option Entry → Option ℕ → ℕ → Type 0
IsSoundAs disk base doubt None end = (doubt ≡ None) × IsReady disk base end
IsSoundAs disk base doubt (Some _) end = (files : Files) → IsImage disk files → StandsForOneOf base doubt files

abbrev pub IsSound : {D : Type 0} → (D → Shown) → CoreState D → Type 0
IsSound shows core = IsSoundAs (shows core.disk) core.content core.doubt core.failed core.log_end

-- the files stand for what the core stood for, or for its base with this entry
abbrev pub StandsWithOrWithout : {D : Type 0} → CoreState D → Entry → Files → Type 0
StandsWithOrWithout core entry files = StandsForCore core files ⊎ StandsWith core.content entry files

-- What an edit makes of what its disk shows. At each moment of it a stop leaves files that stand for what the core stood for,
-- or for its base with the entry. An accepted entry's record is the next one of the log: its bytes stand behind the gate that
-- ended the log, and whatever a stop leaves of the log holds the list that it held, and then that record. All files but
-- the log are as they were.
pub record LeavesEdit {D : Type 0} (shows : D → Shown) (old new : CoreState D) (entry : Entry) (answer : Result ℕ CoreFault) : Type 0 where
  pub any_moment : Leaves (shows old.disk) (shows new.disk) (StandsWithOrWithout old entry)
  pub sound : IsSound shows new
  pub written : OnOk answer ((payloads : List (List ℕ)) → IsClosedInImages (shows old.disk) Log0 payloads old.log_end
      → IsClosedInImages (shows new.disk) Log0 (payloads ++ next_record old entry ∷ []) new.log_end)
  pub bytes : OnOk answer ((shows new.disk).seen Log0 ≡ with_record ((shows old.disk).seen Log0) old.log_end (next_record old entry))
  pub others : OthersStay Log0 (shows old.disk) (shows new.disk)
