-- What a round of a played script makes of it: the next line, or its end.
use Rattle.std.specs.Prelude.{◌≡◌, ◌⊎◌, ℕ, ◌+◌, ◌-◌, ◌≤◌, ◌<◌, List, Bool, true, false, ◌||◌, is_none, Option, Some, None}
use Rattle.std.specs.Io.KnownBytes.{Appends}
use Rattle.sea_faults.specs.Counts.{IsCaused}
use Rattle.sea_core.specs.declared.limits.Limits.{Limits}
use Rattle.sea_core.specs.declared.fault.StartFault.{StartFault}
use Rattle.sea_core.specs.State.{CoreState}
use Rattle.sea_lines.specs.Lines.{Place, input_limit}
use Rattle.sea_drive.specs.Outcome.{start_outcome, is_disk_fault}
use Rattle.sea_drive.specs.Play.{Ends, Goes, Writes, start_status, is_source_fault, is_sink_fault, CountsDisk}
use Rattle.sea_drive.specs.Reply.{reply_line}
use Rattle.sea_drive.specs.Setting.{Setting, Tape, tape}
use Rattle.sea_drive.specs.Steps.{LineStep}
use Rattle.sea_drive.specs.declared.line.Played.TheVariants.{On as GoesOn, Refused}
use Rattle.sea_drive.specs.declared.outcome.LineOutcome.{LineOutcome}
use Rattle.sea_drive.specs.declared.status.Status.{Status}
use Rattle.sea_drive.specs.declared.round.Player.{Player}
use Rattle.sea_drive.specs.declared.round.Round.{Round}
use Rattle.sea_drive.specs.declared.round.Round.TheVariants.{On, End}

-- what was written where a reopening was refused: its line, or, where that failed, some prefix of it
abbrev pub WritesRefusal : StartFault → Status → Option (List ℕ) → Option (List ℕ) → Type 0
WritesRefusal fault status given now = ((status ≡ start_status fault) × Appends given now (reply_line (start_outcome fault))) ⊎ Writes (Some status) (start_outcome fault) given now

-- a line was played, and its reply written as far as that went
abbrev pub PlaysOn : {D : Type 0} → Setting D → Player D → List ℕ → Round D → Option (List ℕ) → Option (List ℕ) → Type 0
PlaysOn set player line (On next) given now =
    (result : Option LineOutcome) × LineStep set player.core line (GoesOn result next.core)
    × (next.ran_out_of_memory ≡ (player.ran_out_of_memory || is_none result)) × (next.disk_failed ≡ (player.disk_failed || is_disk_fault result)) × Writes None result given now
PlaysOn {D = D} set player line (End status back) given now =
    ((result : Option LineOutcome) × (core : CoreState D) × LineStep set player.core line (GoesOn result core) × (back ≡ core.disk) × Writes (Some status) result given now)
    ⊎ ((fault : StartFault) × LineStep set player.core line (Refused fault back) × WritesRefusal fault status given now)

-- the script goes on, or it has ended
abbrev pub Rounds : {D : Type 0} → Setting D → Limits → D → Tape → Place → Round D → Type 0
Rounds set limits disk tape place (On next) = Goes set limits disk tape place next
Rounds set limits disk tape place (End status back) = Ends status set limits disk back tape

-- a round tells of a fault of the source, or of the sink, where it ends with a status that does
abbrev pub has_source_fault : {D : Type 0} → Round D → Bool
has_source_fault (On _) = false
has_source_fault (End status _) = is_source_fault status

abbrev pub has_sink_fault : {D : Type 0} → Round D → Bool
has_sink_fault (On _) = false
has_sink_fault (End status _) = is_sink_fault status

-- the same of the answer of a write, which is None where the script goes on
abbrev pub ends_by : (Status → Bool) → Option Status → Bool
ends_by tells None = false
ends_by tells (Some status) = tells status

-- The disk's count of faults since it was `first`: it rose exactly where some line met a fault of the disk.
abbrev pub CountsRound : {D : Type 0} → (D → ℕ) → ℕ → Round D → Type 0
CountsRound faults first (On next) = IsCaused next.disk_failed first (faults next.core.disk)
CountsRound faults first (End status back) = CountsDisk status first (faults back)

-- the next round begins behind the line that this one has read
abbrev pub ReadsOn : {D : Type 0} → ℕ → ℕ → Round D → Type 0
ReadsOn before now (On _) = before < now
ReadsOn before now (End _ _) = Unit {0}

-- how many rounds may follow at most
abbrev pub rounds_left : {D : Type 0} → ℕ → Round D → ℕ
rounds_left read (On _) = input_limit - read + 1
rounds_left read (End _ _) = 0
