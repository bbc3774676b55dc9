-- What a line makes of a core.
use Rattle.std.specs.Prelude.{◌≡◌, ◌⊎◌, ℕ, List, Option, Some, None, Ok}
use Rattle.sea_edge.specs.Minutes.{Tells}
use Rattle.sea_moment.specs.Moment.{IsMoment}
use Rattle.sea_cell.specs.declared.keys.Moment.{Moment}
use Rattle.sea_operation.specs.Apply.{apply}
use Rattle.sea_operation.specs.declared.base.Plain.{Plain}
use Rattle.sea_operation.specs.declared.operation.Entry.{Entry}
use Rattle.sea_operation.specs.declared.operation.Op.{Op}
use Rattle.sea_operation.specs.declared.refusal.OpRefusal.TheVariants as refusal
use Rattle.sea_ops.specs.Operations.{op_of}
use Rattle.sea_core.specs.declared.event.Event.{Event}
use Rattle.sea_core.specs.declared.event.Event.TheVariants as event
use Rattle.sea_core.specs.declared.event.Outcome.{Outcome}
use Rattle.sea_core.specs.declared.fault.CoreFault.TheVariants as fault
use Rattle.sea_core.specs.Events.{Step, Starts, Refuses}
use Rattle.sea_core.specs.Sound.{IsSound}
use Rattle.sea_core.specs.State.{CoreState, Known}
use Rattle.sea_drive.specs.declared.verb.Verb.{Verb}
use Rattle.sea_drive.specs.declared.verb.Verb.TheVariants.{Nothing, Unknown, Later, Edit, Select, Feed, Reopen}
use Rattle.sea_drive.specs.declared.line.Played.{Played}
use Rattle.sea_drive.specs.declared.line.Played.TheVariants.{On, Refused}
use Rattle.sea_drive.specs.declared.outcome.LineOutcome.{LineOutcome}
use Rattle.sea_drive.specs.declared.outcome.LineOutcome.TheVariants as outcome
use Rattle.sea_drive.specs.Asked.{asked_by}
use Rattle.sea_drive.specs.Feeds.{feed_words}
use Rattle.sea_drive.specs.Outcome.{entry_of, event_outcome, select_outcome}
use Rattle.sea_drive.specs.Select.{select_of}
use Rattle.sea_drive.specs.Setting.{Setting}
use Rattle.sea_drive.specs.Texts.{without_return}

-- nothing has changed, and this comes of it
abbrev pub Stays : {D : Type 0} → CoreState D → Option LineOutcome → Option LineOutcome → CoreState D → Type 0
Stays core comes result new = (result ≡ comes) × (new ≡ core)

-- an event was made, and what came of it comes of the line
abbrev pub MakesEvent : {D : Type 0} → Known D → CoreState D → Event → Option LineOutcome → CoreState D → Type 0
MakesEvent disk core event result new = (came : Outcome) × Step disk core event came new × (result ≡ event_outcome came)

-- the line `op`, by the operation that its text is; its entry is made at a moment that the clock tells
abbrev pub MakesEdit : {D : Type 0} → Setting D → CoreState D → Option Op → Option LineOutcome → CoreState D → Type 0
MakesEdit set core None result new = Stays core (Some (outcome.Refused (fault.Op refusal.BadOperation))) result new
MakesEdit set core (Some op) result new =
    (moment : Moment) × IsMoment moment.0 × Tells set.clock moment.0 × MakesEvent set.disk core (event.Edit (entry_of moment op)) result new

-- the line `feed`, by the version and the count that its text asks for
abbrev pub MakesFeed : {D : Type 0} → Known D → CoreState D → Option (ℕ × ℕ) → Option LineOutcome → CoreState D → Type 0
MakesFeed disk core None result new = Stays core (Some outcome.BadLine) result new
MakesFeed disk core (Some (from, most)) result new = MakesEvent disk core (event.Feed from most) result new

-- a base that is found again is the one that was held, or the one with the entry in doubt
abbrev pub IsFoundAgain : Plain → Option Entry → Plain → Type 0
IsFoundAgain base None found = found ≡ base
IsFoundAgain base (Some entry) found = (found ≡ base) ⊎ (apply base entry ≡ Ok found)

-- The base was found again from its files.
pub record Reopens {D : Type 0} (set : Setting D) (core : CoreState D) (result : Option LineOutcome) (new : CoreState D) : Type 0 where
  pub comes : result ≡ Some (outcome.Reopened new.content.version)
  pub starts : Starts set.disk core.disk core.limits new
  pub found : set.disk.told → IsSound set.disk.shows core → IsFoundAgain core.content core.doubt new.content

-- What a line comes to, by what it asks for. An operation, a select and an event may meet want of memory, and a refused
-- reopening leaves the disk alone.
abbrev pub VerbStep : {D : Type 0} → Setting D → CoreState D → Verb → List ℕ → Played D → Type 0
VerbStep set core Nothing rest (On result new) = Stays core (Some outcome.Silent) result new
VerbStep set core Unknown rest (On result new) = Stays core (Some outcome.BadLine) result new
VerbStep set core Later rest (On result new) = Stays core (Some outcome.NotYet) result new
VerbStep set core Edit rest (On result new) = Stays core None result new ⊎ MakesEdit set core (op_of rest) result new
VerbStep set core Select rest (On result new) = Stays core None result new ⊎ Stays core (Some (select_outcome core.content (select_of rest))) result new
VerbStep set core Feed rest (On result new) = MakesFeed set.disk core (feed_words rest) result new
VerbStep set core Reopen rest (On result new) = Reopens set core result new
VerbStep set core Reopen rest (Refused fault back) = Refuses set.disk core.disk fault back
VerbStep set core _ rest (Refused fault back) = ⊥

-- the same of a line
unfoldable pub LineStep : {D : Type 0} → Setting D → CoreState D → List ℕ → Played D → Type 0
LineStep set core line played = let asked = asked_by (without_return line) in VerbStep set core asked.0 asked.1 played
