-- What the parts of a replay, of an edit and of a start say, for private clauses.
use Rattle.std.specs.Prelude.{◌≡◌, ℕ, ◌+◌, ◌^◌, ◌<◌, ◌≤◌, List, length, Some, None, Result, Ok, Err}
use Rattle.sea_log.specs.Records.{size_with}
use Rattle.sea_record.specs.Record.{record_of, IsRecord}
use Rattle.sea_ops.specs.Texts.{text_of}
use Rattle.sea_operation.specs.declared.base.Plain.{Plain}
use Rattle.sea_operation.specs.declared.operation.Entry.{Entry}
use Rattle.sea_operation.specs.Apply.{apply}
use Rattle.sea_core.specs.declared.fault.CoreFault.{CoreFault}
use Rattle.sea_core.specs.declared.fault.CoreFault.TheVariants as core
use Rattle.sea_core.specs.declared.fault.StartFault.{StartFault}
use Rattle.sea_core.specs.Causes.{StartCause}
use Rattle.sea_core.specs.Edits.{first_cause}
use Rattle.sea_core.specs.State.{CoreState}

-- the payload is the next record of a base, which takes its entry
pub record TakesRecord (base : Plain) (payload : List ℕ) (next : Plain) : Type 0 where
  pub entry : Entry
  pub is_record : IsRecord payload (base.version + 1) entry
  pub applied : apply base entry ≡ Ok next

-- the base refuses the entry, unless memory ran out
abbrev pub IsRefusedBy : Plain → Entry → CoreFault → Type 0
IsRefusedBy base entry core.Memory = Unit {0}
IsRefusedBy base entry (core.Op refusal) = apply base entry ≡ Err refusal
IsRefusedBy base entry _ = ⊥

-- the bytes are the record of an entry, whose fields have places in it
pub record IsRecordOf (lsn : ℕ) (entry : Entry) (payload : List ℕ) : Type 0 where
  pub bytes : payload ≡ record_of lsn entry
  pub number : lsn < 2 ^ 64
  pub user_fits : length entry.user < 2 ^ 32
  pub text_fits : length (text_of entry.op) < 2 ^ 32

-- no log is as large as one with the record would be, unless memory ran out
abbrev pub IsTooLarge : ℕ → ℕ → Entry → CoreFault → Type 0
IsTooLarge end lsn entry core.Memory = Unit {0}
IsTooLarge end lsn entry (core.LogFull size) = (size ≡ size_with end (record_of lsn entry)) × (268435456 < size)
IsTooLarge end lsn entry _ = ⊥

-- no cause before the log's refuses the entry, which makes this base, and this is its record
pub record IsPrepared {D : Type 0} (core : CoreState D) (entry : Entry) (next : Plain) (payload : List ℕ) : Type 0 where
  pub whole : core.failed ≡ None
  pub made : apply core.content entry ≡ Ok next
  pub record_is : IsRecordOf next.version entry payload

-- this is the first cause to refuse the entry, unless memory ran out
abbrev pub IsFirstCause : {D : Type 0} → CoreState D → Entry → CoreFault → Type 0
IsFirstCause state entry core.Memory = Unit {0}
IsFirstCause state entry fault = first_cause state entry ≡ Some fault

-- the count of all faults rose where the answer is a fault of the disk, and stands as it was with every other answer
abbrev pub CountsStart : {T : Type 0} → Result T StartFault → ℕ → ℕ → Type 0
CountsStart (Ok _) before now = now ≡ before
CountsStart (Err fault) before now = StartCause fault before now

-- the count of failed writing calls stands as it was after Ok
abbrev pub CountsFailedStart : {T : Type 0} → Result T StartFault → ℕ → ℕ → Type 0
CountsFailedStart (Ok _) before now = now ≡ before
CountsFailedStart (Err _) before now = before ≤ now
