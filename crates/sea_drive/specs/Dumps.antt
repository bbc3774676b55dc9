-- How a dump ends: what its status says of the lines of the base, and of the disk.
use Rattle.std.specs.Prelude.{◌≡◌, ◌⊎◌, ℕ, List, take, Option, Result, Ok, Err}
use Rattle.std.specs.Io.KnownBytes.{Appends}
use Rattle.sea_dump.specs.Dump.{dump_lines}
use Rattle.sea_dump.specs.declared.output.DumpFault.{DumpFault}
use Rattle.sea_dump.specs.declared.output.DumpFault.TheVariants as fault
use Rattle.sea_core.specs.declared.limits.Limits.{Limits}
use Rattle.sea_core.specs.Events.{Starts}
use Rattle.sea_core.specs.State.{CoreState, Known}
use Rattle.sea_drive.specs.Play.{IsNotStarted}
use Rattle.sea_drive.specs.declared.status.Status.{Status}
use Rattle.sea_drive.specs.declared.status.Status.TheVariants.{Done, SinkFault, Memory}

-- what a status says of the lines: all were given; or, where the sink failed or no memory was left, a prefix of them
abbrev pub SaysOfLines : Status → List ℕ → Option (List ℕ) → Option (List ℕ) → Type 0
SaysOfLines Done lines taken given = Appends taken given lines
SaysOfLines SinkFault lines taken given = (count : ℕ) × Appends taken given (take count lines)
SaysOfLines Memory lines taken given = (count : ℕ) × Appends taken given (take count lines)
SaysOfLines _ lines taken given = ⊥

-- A core was started from the disk, which comes back as the start left it, and its base was dumped. At each moment the
-- files stood for what they had stood for.
pub record IsDumped {D : Type 0} (status : Status) (known : Known D) (limits : Limits) (disk back : D) (taken given : Option (List ℕ)) : Type 0 where
  pub core : CoreState D
  pub start : Starts known disk limits core
  pub back_is : back ≡ core.disk
  pub says : SaysOfLines status (dump_lines core.content) taken given

-- the base of the disk was dumped; or it wasn't, since the start was refused
abbrev pub Dumps : {D : Type 0} → Status → Known D → Limits → D → D → Option (List ℕ) → Option (List ℕ) → Type 0
Dumps status known limits disk back taken given =
    IsDumped status known limits disk back taken given ⊎ IsNotStarted known disk back taken given status

-- the status of a dump
abbrev pub dump_status : {T : Type 0} → Result T DumpFault → Status
dump_status (Ok _) = Done
dump_status (Err fault.Memory) = Memory
dump_status (Err fault.Sink) = SinkFault
