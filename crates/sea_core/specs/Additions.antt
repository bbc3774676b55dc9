-- What a record more in the log answers and leaves, for private clauses.
use Rattle.std.specs.Prelude.{◌≡◌, ◌⊎◌, ℕ, ◌+◌, ◌<◌, ◌≤◌, List, [], ◌∷◌, ◌++◌, length, Result, Ok, Err, IfOk, OnOk}
use Rattle.sea_disk.specs.declared.file.File.TheVariants.{Log0}
use Rattle.sea_disk.specs.Shown.{Files, Shown, IsImage}
use Rattle.sea_disk.specs.Calls.{OthersStay}
use Rattle.sea_disk.specs.Runs.{Leaves}
use Rattle.sea_log.specs.Images.{IsClosedInImages, with_record}
use Rattle.sea_log.specs.Records.{size_with}
use Rattle.sea_operation.specs.declared.base.Plain.{Plain}
use Rattle.sea_log.specs.declared.fault.LogFault.{LogFault}
use Rattle.sea_log.specs.declared.fault.LogFault.TheVariants.{Memory, LogFull, DiskFault, BadLog}
use Rattle.sea_core.specs.Sound.{IsReady}
use Rattle.sea_core.specs.Stands.{StandsFor}

-- each answer with its cause, and what it leaves of the disk
abbrev pub Added : {D : Type 0} → D → D → ℕ → List ℕ → ℕ → Result ℕ LogFault → Type 0
Added old new end payload most (Ok place) = (size_with end payload ≤ most) × (place ≡ end + 5 + length payload)
Added old new end payload most (Err (LogFull size)) = (size ≡ size_with end payload) × (most < size) × (new ≡ old)
Added old new end payload most (Err DiskFault) = size_with end payload ≤ most
Added old new end payload most (Err Memory) = new ≡ old
Added old new end payload most (Err BadLog) = ⊥

-- the files stand for one of two bases
abbrev pub StandsForEither : Plain → Plain → Files → Type 0
StandsForEither base next files = StandsFor base files ⊎ StandsFor next files

-- At each moment the files stand for the base or for the next one, and after Ok the disk is ready for the record behind it.
pub record LeavesRecord (old new : Shown) (base next : Plain) (end : ℕ) (payload : List ℕ) (answer : Result ℕ LogFault) : Type 0 where
  pub any_moment : Leaves old new (StandsForEither base next)
  pub images : (files : Files) → IsImage new files → StandsForEither base next files
  pub ready : IfOk answer (IsReady new next)
  pub written : IfOk answer (λ place. (payloads : List (List ℕ)) → IsClosedInImages old Log0 payloads end → IsClosedInImages new Log0 (payloads ++ payload ∷ []) place)
  pub bytes : OnOk answer (new.seen Log0 ≡ with_record (old.seen Log0) end payload)
  pub others : OthersStay Log0 old new
