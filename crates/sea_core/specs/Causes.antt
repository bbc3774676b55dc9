-- What the disk's counts of faults say of an answer.
use Rattle.std.specs.Prelude.{◌≡◌, ℕ, Result, Err}
use Rattle.sea_faults.specs.Counts.{Rose}
use Rattle.sea_core.specs.declared.fault.CoreFault.{CoreFault}
use Rattle.sea_core.specs.declared.fault.CoreFault.TheVariants as core
use Rattle.sea_core.specs.declared.fault.StartFault.{StartFault}
use Rattle.sea_core.specs.declared.fault.StartFault.TheVariants as start

-- the count rose where an edit answers a fault of the disk, and stands as it was with every other answer
abbrev pub EditCause : {T : Type 0} → Result T CoreFault → ℕ → ℕ → Type 0
EditCause (Err core.DiskFault) before now = Rose before now
EditCause _ before now = now ≡ before

-- the same of a refused start
abbrev pub StartCause : StartFault → ℕ → ℕ → Type 0
StartCause start.DiskFault before now = Rose before now
StartCause _ before now = now ≡ before
