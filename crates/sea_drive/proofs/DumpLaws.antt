-- How a dump ends.
use Rattle.std.proofs.Common.{◌≡◌, ℕ, List, Option, Result, Ok, Err, refl}
use Rattle.sea_core.specs.declared.fault.StartFault.{StartFault}
use Rattle.sea_core.specs.declared.fault.StartFault.TheVariants as start
use Rattle.sea_edge.specs.Bytes.{Gives}
use Rattle.sea_dump.specs.declared.output.DumpFault.{DumpFault}
use Rattle.sea_dump.specs.declared.output.DumpFault.TheVariants as fault
use Rattle.sea_drive.specs.Dumps.{SaysOfLines, dump_status}
use Rattle.sea_drive.specs.Play.{start_status}
use Rattle.sea_drive.specs.declared.status.Status.TheVariants as status

pub says_of_lines : {T : Type 0} (result : Result T DumpFault) (lines : List ℕ) (taken given : Option (List ℕ)) → Gives taken given result lines → SaysOfLines (dump_status result) lines taken given
says_of_lines (Ok _) lines taken given gives = gives
says_of_lines (Err fault.Memory) lines taken given gives = (gives.0, gives.2)
says_of_lines (Err fault.Sink) lines taken given gives = (gives.0, gives.2)

-- which refused start this status is of
pub not_a_base : (why : StartFault) → status.NotABase ≡ start_status why → why ≡ start.NotABase
not_a_base start.Memory says = absurd (cc)
not_a_base start.DiskFault says = absurd (cc)
not_a_base start.NotABase says = refl
