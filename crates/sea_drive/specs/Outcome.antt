-- What comes of a line.
use Rattle.std.specs.Prelude.{ℕ, List, Bool, true, false, Option, Some, None, Result, Ok, Err, codes}
use Rattle.sea_cell.specs.declared.keys.Moment.{Moment}
use Rattle.sea_links.specs.declared.pair.LinkPair.{LinkPair}
use Rattle.sea_operation.specs.Base.{plain_named}
use Rattle.sea_operation.specs.declared.base.Plain.{Plain}
use Rattle.sea_operation.specs.declared.base.PlainTable.{PlainTable}
use Rattle.sea_operation.specs.declared.operation.Entry.{Entry}
use Rattle.sea_operation.specs.declared.operation.Op.{Op}
use Rattle.sea_operation.specs.declared.refusal.OpRefusal.TheVariants as refusal
use Rattle.sea_core.specs.declared.fault.CoreFault.{CoreFault}
use Rattle.sea_core.specs.declared.fault.CoreFault.TheVariants as fault
use Rattle.sea_core.specs.declared.event.Outcome.{Outcome}
use Rattle.sea_core.specs.declared.event.Outcome.TheVariants as event
use Rattle.sea_core.specs.declared.fault.StartFault.{StartFault}
use Rattle.sea_core.specs.declared.fault.StartFault.TheVariants as start
use Rattle.sea_drive.specs.declared.outcome.LineOutcome.{LineOutcome}
use Rattle.sea_drive.specs.declared.outcome.LineOutcome.TheVariants.{Version, Rows, Fed, Refused, NotABase, NotYet}
use Rattle.sea_drive.specs.Select.{answer_of}

-- the entry of an operation that is made now, by the user of scripts
abbrev pub entry_of : Moment → Op → Entry
entry_of moment op = record { op = op; moment = moment; user = codes "play" }

-- what comes of a call of the core that answers a fault, where None is want of memory
abbrev pub refused_outcome : CoreFault → Option LineOutcome
refused_outcome fault.Memory = None
refused_outcome other = Some (Refused other)

-- what comes of an event
abbrev pub event_outcome : Outcome → Option LineOutcome
event_outcome (event.Edit (Ok version)) = Some (Version version)
event_outcome (event.Edit (Err why)) = refused_outcome why
event_outcome (event.Feed (Ok feed)) = Some (Fed feed)
event_outcome (event.Feed (Err why)) = refused_outcome why

-- what comes of a refused reopening
abbrev pub start_outcome : StartFault → Option LineOutcome
start_outcome start.Memory = None
start_outcome start.DiskFault = Some (Refused fault.DiskFault)
start_outcome start.NotABase = Some NotABase

-- the answer of a table, if there is one
abbrev pub table_outcome : List LinkPair → List ℕ → Option PlainTable → LineOutcome
table_outcome pairs name None = Refused (fault.Op (refusal.NoTable name))
table_outcome pairs name (Some table) = Rows (answer_of pairs table)

-- what comes of a select
abbrev pub select_outcome : Plain → Option (List ℕ) → LineOutcome
select_outcome base None = NotYet
select_outcome base (Some name) = table_outcome base.pairs name (plain_named base.tables name)

-- the result is a fault of the disk
abbrev pub is_disk_fault : Option LineOutcome → Bool
is_disk_fault (Some (Refused fault.DiskFault)) = true
is_disk_fault _ = false
