-- The words of a command line.
use Rattle.std.specs.Prelude.{◌≡◌, ℕ, List, [], ◌∷◌, take, Bool, true, false, if◌then◌else◌, is_some, Option, Some, None, codes}
use Rattle.std.specs.Io.KnownBytes.{Appends}
use Rattle.std.specs.Str.{bytes_eq}
use Rattle.sea_core.specs.declared.limits.Limits.{Limits}
use Rattle.sea_core.specs.Limits.{IsStandard}
use Rattle.sea_drive.specs.Dumps.{Dumps}
use Rattle.sea_drive.specs.Play.{Ends}
use Rattle.sea_drive.specs.Setting.{Setting, Tape}
use Rattle.sea_drive.specs.declared.command.Command.{Command}
use Rattle.sea_drive.specs.declared.command.Command.TheVariants.{Play, Dump}
use Rattle.sea_drive.specs.declared.status.Status.{Status}
use Rattle.sea_drive.specs.declared.status.Status.TheVariants.{Usage, SinkFault}

-- the command of this name
abbrev pub command_named : List ℕ → Option Command
command_named word = if bytes_eq (codes "play") word then Some Play else (if bytes_eq (codes "dump") word then Some Dump else None)

-- the command that the words name: so far there are `play FOLDER` and `dump FOLDER`
abbrev pub command_in : List (List ℕ) → Option Command
command_in [] = None
command_in (_ ∷ []) = None
command_in (word ∷ _ ∷ []) = command_named word
command_in (_ ∷ _ ∷ _ ∷ _) = None

-- the folder that the words of a command name
abbrev pub folder_in : List (List ℕ) → Option (List ℕ)
folder_in [] = None
folder_in (_ ∷ []) = None
folder_in (word ∷ folder ∷ []) = if is_some (command_named word) then Some folder else None
folder_in (_ ∷ _ ∷ _ ∷ _) = None

-- the command reads the source
abbrev pub is_play : Option Command → Bool
is_play (Some Play) = true
is_play _ = false

-- the line that says which words there are
abbrev pub usage_line : List ℕ
usage_line = codes "usage: seatable new FOLDER | play FOLDER | dump FOLDER | drill FOLDER NUMBER COUNT | serve FOLDER ADDRESS WORKERS CONNECTIONS\n"

-- The words are no command's: the usage line was written, or the sink failed, and has some prefix of it.
abbrev pub SaysUsage : Status → Option (List ℕ) → Option (List ℕ) → Type 0
SaysUsage Usage taken given = Appends taken given usage_line
SaysUsage SinkFault taken given = (count : ℕ) × Appends taken given (take count usage_line)
SaysUsage _ taken given = ⊥

-- How a run by the command of its words ends: a script was played or a base was dumped, with the standard limits; or
-- the disk comes back as it was.
abbrev pub RunsBy : {D : Type 0} → Option Command → Status → Setting D → D → D → Tape → Type 0
RunsBy (Some Play) status set disk back tape = (limits : Limits) × IsStandard limits × Ends status set limits disk back tape
RunsBy (Some Dump) status set disk back tape = (limits : Limits) × IsStandard limits × Dumps status set.disk limits disk back tape.taken tape.given
RunsBy None status set disk back tape = SaysUsage status tape.taken tape.given × (back ≡ disk)
