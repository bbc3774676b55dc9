-- What each event makes of a core, and what a start makes of a disk.
use Rattle.std.specs.Prelude.{◌≡◌, ℕ, ◌≤◌, List, Some, Result, Err, IsUtf8}
use Rattle.sea_disk.specs.declared.file.File.{File}
use Rattle.sea_disk.specs.Runs.{Leaves}
use Rattle.sea_moment.specs.Moment.{IsMoment}
use Rattle.sea_ops.specs.Operations.{op_of}
use Rattle.sea_operation.specs.declared.base.Plain.{Plain}
use Rattle.sea_operation.specs.declared.operation.Entry.{Entry}
use Rattle.sea_core.specs.declared.event.Event.{Event}
use Rattle.sea_core.specs.declared.event.Event.TheVariants as event
use Rattle.sea_core.specs.declared.event.Outcome.{Outcome}
use Rattle.sea_core.specs.declared.event.Outcome.TheVariants as outcome
use Rattle.sea_core.specs.declared.fault.CoreFault.{CoreFault}
use Rattle.sea_core.specs.declared.fault.CoreFault.TheVariants as fault
use Rattle.sea_core.specs.declared.fault.StartFault.{StartFault}
use Rattle.sea_core.specs.declared.fault.StartFault.TheVariants as start
use Rattle.sea_core.specs.declared.limits.Limits.{Limits}
use Rattle.sea_core.specs.Causes.{EditCause, StartCause}
use Rattle.sea_core.specs.Edits.{Edited}
use Rattle.sea_core.specs.Feeds.{Fed}
use Rattle.sea_core.specs.Gates.{with_gate}
use Rattle.sea_core.specs.Sound.{IsSound, LeavesEdit}
use Rattle.sea_core.specs.Stands.{StandsFor, KeepsStanding}
use Rattle.sea_core.specs.State.{CoreState, Known, opened}
use Rattle.sea_core.specs.Steps.{ArchStays, IsAllSettled}

-- an event whose call may be made: the moment of an entry is one, its user a text, and its operation what some JSON text is
abbrev pub IsTaken : Event → Type 0
IsTaken (event.Edit entry) = IsMoment entry.moment.0 × IsUtf8 entry.user × ((text : List ℕ) × (op_of text ≡ Some entry.op))
IsTaken (event.Feed _ _) = Unit {0}

-- An entry is edited. Where a writing call of the disk failed, the count is that of all its failed calls.
pub record EditStep {D : Type 0} (disk : Known D) (old : CoreState D) (entry : Entry) (answer : Result ℕ CoreFault) (new : CoreState D) : Type 0 where
  pub edited : Edited old new entry answer
  pub counted : answer ≡ Err fault.DiskFault → new.failed ≡ Some (disk.faults new.disk)
  pub leaves : disk.told → IsSound disk.shows old → LeavesEdit disk.shows old new entry answer
  pub faults : EditCause answer (disk.faults old.disk) (disk.faults new.disk)
  pub failed : EditCause answer (disk.failed old.disk) (disk.failed new.disk)

-- what an event makes of a core, and what comes of it
abbrev pub Step : {D : Type 0} → Known D → CoreState D → Event → Outcome → CoreState D → Type 0
Step disk old (event.Edit entry) (outcome.Edit answer) new = EditStep disk old entry answer new
Step disk old (event.Feed from most) (outcome.Feed answer) new = Fed old from most answer × (new ≡ old)
Step disk old _ _ new = ⊥

-- ---- starts

-- A core was started from a disk. It is that of what the files stand for, with no history, and no entry is in doubt. At each
-- moment of it the files stood for what they had stood for. It made all five files safe and laid the first gate where a file
-- was too short for one to count, and nothing else.
pub record Starts {D : Type 0} (known : Known D) (disk : D) (limits : Limits) (core : CoreState D) : Type 0 where
  pub fresh : core ≡ opened core.disk core.content limits core.log_end
  pub found : known.told → StandsFor core.content (known.shows disk).seen
  pub sound : known.told → IsSound known.shows core
  pub settled : known.told → IsAllSettled (known.shows core.disk)
  pub laid : known.told → (file : File) → (known.shows core.disk).seen file ≡ with_gate file ((known.shows disk).seen file)
  pub any_moment : known.told → Leaves (known.shows disk) (known.shows core.disk) (KeepsStanding (known.shows disk))
  pub faults : known.faults core.disk ≡ known.faults disk
  pub failed : known.failed core.disk ≡ known.failed disk

-- A start was refused, and the disk came back.
pub record Refuses {D : Type 0} (known : Known D) (disk : D) (fault : StartFault) (back : D) : Type 0 where
  pub no_base : known.told → fault ≡ start.NotABase → (base : Plain) → ¬ StandsFor base (known.shows disk).seen
  pub any_moment : known.told → Leaves (known.shows disk) (known.shows back) (KeepsStanding (known.shows disk))
  pub arch : known.told → ArchStays (known.shows disk) (known.shows back)
  pub faults : StartCause fault (known.faults disk) (known.faults back)
  pub failed : known.failed disk ≤ known.failed back
