-- What an edit answers, and what it makes of a core.
use Rattle.std.specs.Prelude.{◌≡◌, ℕ, ◌+◌, [], ◌∷◌, ◌++◌, length, nat_lt, if◌then◌else◌, Option, Some, None, Result, Ok, Err}
use Rattle.sea_log.specs.Records.{size_with}
use Rattle.sea_operation.specs.declared.base.Plain.{Plain}
use Rattle.sea_operation.specs.declared.operation.Entry.{Entry}
use Rattle.sea_operation.specs.declared.refusal.OpRefusal.{OpRefusal}
use Rattle.sea_operation.specs.Apply.{apply}
use Rattle.sea_core.specs.declared.fault.CoreFault.{CoreFault}
use Rattle.sea_core.specs.declared.fault.CoreFault.TheVariants.{Memory, Op, BaseFailed, LogFull, DiskFault}
use Rattle.sea_core.specs.State.{CoreState, next_record}

-- how many bytes the log would have with the record of an entry
abbrev pub size_after : {D : Type 0} → CoreState D → Entry → ℕ
size_after core entry = size_with core.log_end (next_record core entry)

-- The first cause to refuse an entry: a base that failed, the first refusal of the operation, a log that would have more
-- bytes than it may.
abbrev pub first_of_causes : Option ℕ → Result Plain OpRefusal → ℕ → ℕ → Option CoreFault
first_of_causes (Some count) made most size = Some (BaseFailed count)
first_of_causes None (Err refusal) most size = Some (Op refusal)
first_of_causes None (Ok _) most size = if nat_lt most size then Some (LogFull size) else None

-- the same of a core
abbrev pub first_cause : {D : Type 0} → CoreState D → Entry → Option CoreFault
first_cause core entry = first_of_causes core.failed (apply core.content entry) core.limits.log_bytes (size_after core entry)

-- the state with an entry that was acknowledged, on this disk, where the base becomes this one
abbrev pub with_entry : {D : Type 0} → CoreState D → Entry → D → Plain → CoreState D
with_entry core entry disk next = record core {
  disk = disk;
  content = next;
  history = core.history ++ entry ∷ [];
  log_end = core.log_end + 5 + length (next_record core entry);
}

-- the state with an entry in doubt, on this disk, of which so many calls have failed
abbrev pub with_doubt : {D : Type 0} → CoreState D → Entry → D → Option ℕ → CoreState D
with_doubt core entry disk failed = record core { disk = disk; doubt = Some entry; failed = failed }

-- Each answer has its cause. An accepted entry ends the history. What is refused changes nothing; after a fault of the
-- disk, which comes where no cause refuses the entry, the entry is in doubt and the base has failed. Want of memory may
-- come in place of any answer, and then nothing was touched.
abbrev pub Edited : {D : Type 0} → CoreState D → CoreState D → Entry → Result ℕ CoreFault → Type 0
Edited old new entry (Ok version) =
    (first_cause old entry ≡ None) × (apply old.content entry ≡ Ok new.content) × (version ≡ new.content.version)
    × (new ≡ with_entry old entry new.disk new.content)
Edited old new entry (Err DiskFault) =
    (first_cause old entry ≡ None) × (new ≡ with_doubt old entry new.disk new.failed)
Edited old new entry (Err Memory) = new ≡ old
Edited old new entry (Err fault) = (first_cause old entry ≡ Some fault) × (new ≡ old)
