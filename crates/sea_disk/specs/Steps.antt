-- How the disks for tests go on from call to call.
use Rattle.std.specs.Prelude.{◌≡◌, ◌≢◌, ◌⊎◌, ◌-◌, List, [], ◌∷◌, ◌++◌, Bool, true, false}
use Rattle.sea_faults.specs.Counts.{counted_on}
use Rattle.sea_faults.specs.Plans.{after_call}
use Rattle.sea_disk.specs.declared.calls.Act.{Act}
use Rattle.sea_disk.specs.declared.calls.Act.TheVariants.{Write, FailedWrite, Cut, FailedCut, Sync}
use Rattle.sea_disk.specs.declared.calls.Call.{Call}
use Rattle.sea_disk.specs.declared.fuse.Fuse.{Fuse}
use Rattle.sea_disk.specs.declared.memory.MemDisk.{MemDisk}

-- the call failed
abbrev pub has_failed : Act → Bool
has_failed (Write _ _) = false
has_failed (FailedWrite _ _) = true
has_failed (Cut _) = false
has_failed (FailedCut _) = true
has_failed Sync = false

-- Of a call at most that one is recorded, as one that failed where it failed. What can't be recorded for want of memory
-- isn't.
abbrev pub Records : Bool → List Call → List Call → Type 0
Records failed old new = (new ≡ old) ⊎ ((call : Call) × (new ≡ old ++ call ∷ []) × (has_failed call.act ≡ failed))

-- one call of a disk in memory: it is counted, and so is its fault
pub record MemSteps (old new : MemDisk) (failed : Bool) : Type 0 where
  pub made : new.plan ≡ after_call old.plan
  pub faults : new.faults.all ≡ counted_on failed old.faults.all
  pub calls : Records failed old.history.calls new.history.calls

-- One call of a fuse: it reaches the disk where one is still passed on, and else leaves it alone.
pub record FuseSteps {D : Type 0} (steps : D → D → Bool → Type 0) (old new : Fuse D) (failed : Bool) : Type 0 where
  pub calls : new.calls ≡ old.calls - 1
  pub passes : old.calls ≢ 0 → steps old.disk new.disk failed
  pub stays : old.calls ≡ 0 → new.disk ≡ old.disk
