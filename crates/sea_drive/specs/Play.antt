-- What a played script writes, what becomes of its disk, and where it ends.
use Rattle.std.specs.Prelude.{◌≡◌, ◌⊎◌, ℕ, ◌≤◌, List, [], ◌∷◌, ◌++◌, length, take, flat_map, All, Bool, true, false, if◌then◌else◌, is_none, Option, Some, None, IfSome}
use Rattle.std.specs.List.{list_any}
use Rattle.std.specs.Io.KnownBytes.{Appends, IsAtEnd}
use Rattle.sea_faults.specs.Counts.{Rose}
use Rattle.sea_disk.specs.Shown.{Files, Shown}
use Rattle.sea_disk.specs.Runs.{Leaves}
use Rattle.sea_core.specs.declared.limits.Limits.{Limits}
use Rattle.sea_core.specs.declared.fault.StartFault.{StartFault}
use Rattle.sea_core.specs.declared.fault.StartFault.TheVariants as start
use Rattle.sea_core.specs.Events.{Starts, Refuses}
use Rattle.sea_core.specs.Sound.{IsSound, StandsForCore}
use Rattle.sea_core.specs.State.{CoreState, Known}
use Rattle.sea_core.specs.Stands.{KeepsStanding}
use Rattle.sea_lines.specs.Lines.{Place, lines_of, line_limit, IsWithinLimits, PassesLimit, HasRead, HasReadTo, BreaksOff}
use Rattle.sea_drive.specs.Outcome.{start_outcome, is_disk_fault}
use Rattle.sea_drive.specs.Reply.{reply_line}
use Rattle.sea_drive.specs.Setting.{Setting, Tape}
use Rattle.sea_drive.specs.Steps.{LineStep}
use Rattle.sea_drive.specs.declared.line.Played.TheVariants.{On, Refused}
use Rattle.sea_drive.specs.declared.outcome.LineOutcome.{LineOutcome}
use Rattle.sea_lines.specs.declared.reader.ReadFault.{ReadFault}
use Rattle.sea_lines.specs.declared.reader.ReadFault.TheVariants as fault
use Rattle.sea_drive.specs.declared.round.Player.{Player}
use Rattle.sea_drive.specs.declared.status.Status.{Status}
use Rattle.sea_drive.specs.declared.status.Status.TheVariants.{Done, Usage, SourceFault, SinkFault, DiskFault, Memory, NotABase, TooLong}

-- the reply lines of some results, one after another
abbrev pub replies : List (Option LineOutcome) → List ℕ
replies results = flat_map reply_line results

-- some line ran out of memory
abbrev pub ran_out_of_memory : List (Option LineOutcome) → Bool
ran_out_of_memory results = list_any is_none results

-- in some line the disk failed
abbrev pub disk_failed : List (Option LineOutcome) → Bool
disk_failed results = list_any is_disk_fault results

-- ---- lines that are played one after another

-- the last of some cores, or the first where there are no more
abbrev pub last_core : {D : Type 0} → CoreState D → List (CoreState D) → CoreState D
last_core first [] = first
last_core first (core ∷ cores) = last_core core cores

-- each line is played on the core that the one before it left
abbrev pub Run : {D : Type 0} → Setting D → CoreState D → List (List ℕ) → List (Option LineOutcome) → List (CoreState D) → Type 0
Run set core [] [] [] = Unit {0}
Run set core (line ∷ lines) (result ∷ results) (next ∷ cores) = LineStep set core line (On result next) × Run set next lines results cores
Run set core _ _ _ = ⊥

-- A script as far as it was played: its lines, those behind them, what came of each, the core before the first line and
-- the one after each, and the fault of the reopening that ended it, where one did.
pub record Script (D : Type 0) : Type 0 where
  pub lines : List (List ℕ)
  pub more : List (List ℕ)
  pub results : List (Option LineOutcome)
  pub first : CoreState D
  pub cores : List (CoreState D)
  pub refusal : Option StartFault

-- The disk that a script leaves: that of the last core; or, where a reopening was refused in its last line, what that
-- start left of it.
abbrev pub RunsTo : {D : Type 0} → Setting D → Script D → D → Option StartFault → Type 0
RunsTo set script back None =
    Run set script.first script.lines script.results script.cores × (back ≡ (last_core script.first script.cores).disk)
RunsTo set script back (Some fault) =
    (lines : List (List ℕ)) × (line : List ℕ) × (results : List (Option LineOutcome)) × (script.lines ≡ lines ++ line ∷ []) × (script.results ≡ results ++ start_outcome fault ∷ [])
    × Run set script.first lines results script.cores
    × LineStep set (last_core script.first script.cores) line (Refused fault back)

-- files that stand for what one of some cores stands for
abbrev pub StandsForSome : {D : Type 0} → CoreState D → List (CoreState D) → Files → Type 0
StandsForSome first [] files = StandsForCore first files
StandsForSome first (core ∷ cores) files = StandsForCore first files ⊎ StandsForSome core cores files

-- files that stand for what the disk's files stood for, or for what one of the script's cores stands for
abbrev pub StandsInScript : {D : Type 0} → Shown → CoreState D → List (CoreState D) → Files → Type 0
StandsInScript disk first cores files = KeepsStanding disk files ⊎ StandsForSome first cores files

-- The lines are the first of the input, where it is told, none of them passes its limit, and the script begins with the core that was started from the
-- disk and leaves the disk that comes back. At each moment from before the start on, a stop leaves files that stand for
-- what the disk's files stood for, or for what one of the script's cores stands for; and the last core is sound.
pub record IsPlayed {D : Type 0} (set : Setting D) (limits : Limits) (disk back : D) (input : Option (List ℕ)) (script : Script D) : Type 0 where
  pub split : IfSome input (λ bytes. lines_of bytes ≡ script.lines ++ script.more)
  pub short : All (λ line. length line ≤ line_limit) script.lines
  pub start : Starts set.disk disk limits script.first
  pub run : RunsTo set script back script.refusal
  pub any_moment : set.disk.told → Leaves (set.disk.shows disk) (set.disk.shows back) (StandsInScript (set.disk.shows disk) script.first script.cores)
  pub sound : set.disk.told → IsSound set.disk.shows (last_core script.first script.cores)

-- each reply was given, and nothing else
abbrev pub IsWritten : {D : Type 0} → Tape → Script D → Type 0
IsWritten tape script = Appends tape.taken tape.given (replies script.results)

-- a prefix of the replies was given that lacks at most the line of the last result, or its end
pub record IsCut {D : Type 0} (tape : Tape) (script : Script D) : Type 0 where
  pub earlier : List (Option LineOutcome)
  pub final : List (Option LineOutcome)
  pub one : length final ≤ 1
  pub all : script.results ≡ earlier ++ final
  pub count : ℕ
  pub written : Appends tape.taken tape.given (replies earlier ++ take count (replies final))

-- The input was played to its end, no reopening was refused, and the input passes neither limit.
pub record IsFinished {D : Type 0} (tape : Tape) (script : Script D) : Type 0 where
  pub ended : IfSome tape.input (λ _. IsAtEnd tape.left)
  pub whole : IfSome tape.input (λ _. script.more ≡ [])
  pub within : IfSome tape.input IsWithinLimits
  pub reopened : script.refusal ≡ None
  pub written : IsWritten tape script

-- a reopening was refused so, which ended the script, and its line was written
abbrev pub IsRefused : {D : Type 0} → StartFault → Tape → Script D → Type 0
IsRefused fault tape script = (script.refusal ≡ Some fault) × IsWritten tape script

-- the next line passes its limit, or in it the input passes its own
abbrev pub IsTooLong : {D : Type 0} → Option (List ℕ) → Script D → Type 0
IsTooLong input script = IfSome input (λ bytes. (read : ℕ) × (rest : List ℕ) × HasRead bytes script.lines read rest × PassesLimit read rest)

-- each line of which the newline was taken was played, and of the next one a part may have been taken
abbrev pub IsBrokenOff : {D : Type 0} → Option (List ℕ) → Option (List ℕ) → Script D → Type 0
IsBrokenOff input left script = IfSome input (λ bytes. (read : ℕ) × (rest : List ℕ) × HasRead bytes script.lines read rest × BreaksOff (Some rest) left)

-- what a status says of the script
abbrev pub SaysOf : {D : Type 0} → Status → Tape → Script D → Type 0
SaysOf Done tape script = IsFinished tape script × (disk_failed script.results ≡ false) × (ran_out_of_memory script.results ≡ false)
SaysOf DiskFault tape script = (IsFinished tape script × (disk_failed script.results ≡ true)) ⊎ IsRefused start.DiskFault tape script
SaysOf NotABase tape script = IsRefused start.NotABase tape script
SaysOf Memory tape script =
    (IsFinished tape script × (disk_failed script.results ≡ false) × (ran_out_of_memory script.results ≡ true))
    ⊎ (IsRefused start.Memory tape script ⊎ IsCut tape script)
SaysOf SourceFault tape script = IsWritten tape script × (script.refusal ≡ None) × IsBrokenOff tape.input tape.left script
SaysOf SinkFault tape script = IsCut tape script
SaysOf TooLong tape script = IsWritten tape script × (script.refusal ≡ None) × IsTooLong tape.input script
SaysOf Usage tape script = ⊥

-- the status of a refused start
abbrev pub start_status : StartFault → Status
start_status start.Memory = Memory
start_status start.DiskFault = DiskFault
start_status start.NotABase = NotABase

-- Where the first start is refused, nothing was written, and the status says why.
pub record IsNotStarted {D : Type 0} (known : Known D) (disk back : D) (taken given : Option (List ℕ)) (status : Status) : Type 0 where
  pub fault : StartFault
  pub says : status ≡ start_status fault
  pub start : Refuses known disk fault back
  pub nothing : Appends taken given []

-- A script was played: the first lines of the input were, the replies were given, and the status says how it ended. Or it
-- wasn't, since the first start was refused.
abbrev pub Ends : {D : Type 0} → Status → Setting D → Limits → D → D → Tape → Type 0
Ends {D = D} status set limits disk back tape =
    ((script : Script D) × IsPlayed set limits disk back tape.input script × SaysOf status tape script)
    ⊎ IsNotStarted set.disk disk back tape.taken tape.given status

-- a status that tells of a fault of the source, and one that tells of a fault of the sink
abbrev pub is_source_fault : Status → Bool
is_source_fault SourceFault = true
is_source_fault _ = false

abbrev pub is_sink_fault : Status → Bool
is_sink_fault SinkFault = true
is_sink_fault _ = false

-- The disk's count of faults never falls. It rose where a status tells of a fault of the disk, and stands as it was where
-- one tells that all was done.
pub record CountsDisk (status : Status) (before now : ℕ) : Type 0 where
  pub later : before ≤ now
  pub cause : status ≡ DiskFault → Rose before now
  pub still : status ≡ Done → now ≡ before

-- ---- while a script is played

-- The script so far: its lines were read up to a place, each within its limit, all their replies were given, and the
-- core is the one after the last of them.
pub record Goes {D : Type 0} (set : Setting D) (limits : Limits) (disk : D) (tape : Tape) (place : Place) (player : Player D) : Type 0 where
  pub lines : List (List ℕ)
  pub results : List (Option LineOutcome)
  pub first : CoreState D
  pub cores : List (CoreState D)
  pub read : HasReadTo tape.input lines place
  pub short : All (λ line. length line ≤ line_limit) lines
  pub start : Starts set.disk disk limits first
  pub run : Run set first lines results cores
  pub last : player.core ≡ last_core first cores
  pub any_moment : set.disk.told → Leaves (set.disk.shows disk) (set.disk.shows player.core.disk) (StandsInScript (set.disk.shows disk) first cores)
  pub sound : set.disk.told → IsSound set.disk.shows player.core
  pub written : Appends tape.taken tape.given (replies results)
  pub memory : player.ran_out_of_memory ≡ ran_out_of_memory results
  pub faults : player.disk_failed ≡ disk_failed results

-- what was given of a piece: all of it, or, where the script ends there, some prefix of it or nothing
abbrev pub WritesPiece : Option Status → List ℕ → Option (List ℕ) → Option (List ℕ) → Type 0
WritesPiece None piece old new = Appends old new piece
WritesPiece (Some Memory) piece old new = Appends old new []
WritesPiece (Some SinkFault) piece old new = (count : ℕ) × Appends old new (take count piece)
WritesPiece (Some _) piece old new = ⊥

-- what was given of a reply line
abbrev pub Writes : Option Status → Option LineOutcome → Option (List ℕ) → Option (List ℕ) → Type 0
Writes status result old new = WritesPiece status (reply_line result) old new

-- the status of a script whose lines were all played
abbrev pub end_status : Bool → Bool → Status
end_status out_of_memory disk_fault = if disk_fault then DiskFault else (if out_of_memory then Memory else Done)

-- the status of a script whose next line can't be read
abbrev pub fault_status : ReadFault → Status
fault_status fault.Memory = Memory
fault_status fault.Source = SourceFault
fault_status fault.TooLong = TooLong
