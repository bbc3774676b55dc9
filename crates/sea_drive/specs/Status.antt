-- The program's exit statuses.
use Rattle.std.specs.Prelude.{ℕ}
use Rattle.sea_drive.specs.declared.status.Status.{Status}
use Rattle.sea_drive.specs.declared.status.Status.TheVariants.{Done, Usage, SourceFault, SinkFault, DiskFault, Memory, NotABase, TooLong}

abbrev pub code_of : Status → ℕ
code_of Done = 0
code_of Usage = 2
code_of SourceFault = 3
code_of SinkFault = 4
code_of DiskFault = 5
code_of Memory = 6
code_of NotABase = 7
code_of TooLong = 9
