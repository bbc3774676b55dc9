-- What the steps of a start leave, for private clauses.
use Rattle.std.specs.Prelude.{◌≡◌, ◌⊎◌, ℕ, List}
use Rattle.sea_disk.specs.declared.file.File.{File}
use Rattle.sea_disk.specs.declared.file.File.TheVariants.{Base0, Base1, Log0, Log1, Arch}
use Rattle.sea_disk.specs.Shown.{Files, Shown, IsImage, IsSettled}
use Rattle.sea_disk.specs.Runs.{Leaves}
use Rattle.sea_log.specs.declared.fault.LogFault.{LogFault}
use Rattle.sea_log.specs.declared.fault.LogFault.TheVariants as log
use Rattle.sea_core.specs.declared.fault.StartFault.{StartFault}
use Rattle.sea_core.specs.declared.fault.StartFault.TheVariants as start
use Rattle.sea_core.specs.Stands.{IsClosedBase, StandAlike, KeepsStanding}

-- the file `arch` is left alone
pub record ArchStays (old new : Shown) : Type 0 where
  pub seen : new.seen Arch ≡ old.seen Arch
  pub image : (bytes : List ℕ) → new.image Arch bytes → old.image Arch bytes

-- A run of calls that changes at no moment what the files stand for, and leaves `arch` alone.
pub record Keeps (old new : Shown) : Type 0 where
  pub leaves : Leaves old new (KeepsStanding old)
  pub image : (files : Files) → IsImage new files → KeepsStanding old files
  pub alike : StandAlike old.seen new.seen
  pub arch : ArchStays old new

-- a stop leaves each file as reads give it
abbrev pub IsAllSettled : Shown → Type 0
IsAllSettled disk = (file : File) → IsSettled disk file

-- the file holds a checkpoint
abbrev pub IsBaseFile : File → Type 0
IsBaseFile file = (file ≡ Base0) ⊎ (file ≡ Base1)

-- both base files are closed
abbrev pub AreClosed : Files → Type 0
AreClosed files = IsClosedBase (files Base0) × IsClosedBase (files Base1)

-- the file is a log
abbrev pub IsLogFile : File → Type 0
IsLogFile file = (file ≡ Log0) ⊎ (file ≡ Log1)

-- the fault of a start whose log is refused; a log that isn't written to is never full
abbrev pub start_fault_of : LogFault → StartFault
start_fault_of log.Memory = start.Memory
start_fault_of log.DiskFault = start.DiskFault
start_fault_of log.BadLog = start.NotABase
start_fault_of (log.LogFull _) = start.NotABase
