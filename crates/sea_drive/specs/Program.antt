-- How the program ends: what its exit status says of the folder that its words name, and of the run on that folder's disk.
use Rattle.std.specs.Prelude.{◌≡◌, ◌⊎◌, ℕ, List, [], Option, Some, None}
use Rattle.std.specs.Io.KnownBytes.{Appends}
use Rattle.sea_drive.specs.declared.command.Command.{Command}
use Rattle.sea_drive.specs.declared.status.Status.{Status}
use Rattle.sea_drive.specs.Play.{CountsDisk}
use Rattle.sea_drive.specs.Setting.{Setting, Tape}
use Rattle.sea_drive.specs.Status.{code_of}
use Rattle.sea_drive.specs.Words.{RunsBy, SaysUsage}

-- what the folders give: which disks one of a name may give, and whether it gives none
pub record Given (D : Type 0) : Type 1 where
  pub gives : List ℕ → D → Type 0
  pub refuses : List ℕ → Type 0

abbrev pub given : {D : Type 0} → (List ℕ → D → Type 0) → (List ℕ → Type 0) → Given D
given gives refuses = record { gives = gives; refuses = refuses }

-- the words were done on a disk that the folder gave, and the exit status is that of the run
pub record IsDone {D : Type 0} (command : Option Command) (folder : List ℕ) (folders : Given D) (set : Setting D) (code : ℕ) (back : D) (tape : Tape) : Type 0 where
  pub disk : D
  pub status : Status
  pub gave : folders.gives folder disk
  pub says : code ≡ code_of status
  pub ran : RunsBy command status set disk back tape
  pub counted : CountsDisk status (set.disk.faults disk) (set.disk.faults back)

-- Words that name no folder are no command's: the usage line is written. A folder without a name, or one that gives no disk,
-- ends the program with 1, and nothing is read or written. Else the words are done on the disk that it gave.
abbrev pub EndsProgram : {D : Type 0} → Option Command → Option (List ℕ) → Given D → Setting D → ℕ → Option D → Tape → Type 0
EndsProgram command None folders set code None tape = (status : Status) × (code ≡ code_of status) × SaysUsage status tape.taken tape.given
EndsProgram command None folders set code (Some back) tape = ⊥
EndsProgram command (Some folder) folders set code None tape =
    (code ≡ 1) × (tape.left ≡ tape.input) × Appends tape.taken tape.given [] × ((folder ≡ []) ⊎ folders.refuses folder)
EndsProgram command (Some folder) folders set code (Some back) tape = IsDone command folder folders set code back tape
