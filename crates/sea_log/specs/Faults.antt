-- What the disk's counts of faults say of a log call's answer.
use Rattle.std.specs.Prelude.{◌≡◌, ℕ, Result, Ok, Err}
use Rattle.sea_faults.specs.Counts.{Rose}
use Rattle.sea_log.specs.declared.fault.LogFault.{LogFault}
use Rattle.sea_log.specs.declared.fault.LogFault.TheVariants.{Memory, DiskFault, BadLog, LogFull}

-- a count rose where the answer is a fault of the disk, and stands as it was with every other answer
abbrev pub LogCause : {T : Type 0} → Result T LogFault → ℕ → ℕ → Type 0
LogCause (Err DiskFault) before now = Rose before now
LogCause (Err Memory) before now = now ≡ before
LogCause (Err BadLog) before now = now ≡ before
LogCause (Err (LogFull _)) before now = now ≡ before
LogCause (Ok _) before now = now ≡ before
