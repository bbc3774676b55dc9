-- The disk's count of faults, as lines are played one after another.
use Rattle.std.proofs.Common.{◌≡◌, ℕ, ◌+◌, ◌≤◌, ◌<◌, List, min, Bool, true, false, ◌||◌, Option, Some, None, Result, Ok, Err, ap, inl, inr, subst, ◌∙◌, sym, refl, arith}
use Rattle.sea_faults.specs.Counts.{Rose, IsCaused}
use Rattle.sea_core.specs.Causes.{EditCause, StartCause}
use Rattle.sea_core.specs.declared.fault.CoreFault.{CoreFault}
use Rattle.sea_core.specs.declared.fault.CoreFault.TheVariants as core
use Rattle.sea_core.specs.declared.fault.StartFault.{StartFault}
use Rattle.sea_core.specs.declared.fault.StartFault.TheVariants as start
use Rattle.sea_core.specs.declared.event.Event.{Event}
use Rattle.sea_core.specs.declared.event.Event.TheVariants as event_of
use Rattle.sea_core.specs.declared.event.Outcome.{Outcome}
use Rattle.sea_core.specs.declared.event.Outcome.TheVariants as event
use Rattle.sea_core.specs.declared.feed.Feed.{Feed as GivenFeed}
use Rattle.sea_core.specs.Events.{Step}
use Rattle.sea_core.specs.Feeds.{Fed}
use Rattle.sea_core.specs.State.{CoreState}
use Rattle.sea_operation.specs.Base.{plain_named}
use Rattle.sea_operation.specs.declared.base.Plain.{Plain}
use Rattle.sea_operation.specs.declared.base.PlainTable.{PlainTable}
use Rattle.sea_operation.specs.declared.operation.Op.{Op}
use Rattle.sea_ops.specs.Operations.{op_of}
use Rattle.sea_drive.specs.Asked.{asked_by}
use Rattle.sea_drive.specs.Feeds.{feed_words}
use Rattle.sea_drive.specs.Outcome.{entry_of, event_outcome, refused_outcome, select_outcome, table_outcome, is_disk_fault}
use Rattle.sea_drive.specs.Select.{select_of}
use Rattle.sea_drive.specs.Setting.{Setting}
use Rattle.sea_drive.specs.Steps.{Stays, MakesEvent, MakesEdit, MakesFeed, VerbStep, LineStep}
use Rattle.sea_drive.specs.Texts.{without_return}
use Rattle.sea_drive.specs.declared.line.Played.TheVariants.{On, Refused}
use Rattle.sea_drive.specs.declared.verb.Verb.{Verb}
use Rattle.sea_drive.specs.declared.verb.Verb.TheVariants.{Nothing, Unknown, Later, Edit, Select, Feed, Reopen}
use Rattle.sea_drive.specs.Play.{CountsDisk, Writes, end_status, fault_status, start_status}
use Rattle.sea_lines.specs.declared.reader.ReadFault.{ReadFault}
use Rattle.sea_lines.specs.declared.reader.ReadFault.TheVariants as fault
use Rattle.sea_drive.specs.declared.outcome.LineOutcome.{LineOutcome}
use Rattle.sea_drive.specs.declared.status.Status.{Status}
use Rattle.sea_drive.specs.declared.status.Status.TheVariants.{Done, Usage, SourceFault, SinkFault, DiskFault, Memory, NotABase, TooLong}

rose_later : (first old new : ℕ) → Rose first old → old ≤ new → Rose first new
rose_later first old new rose later =
    let before = rose.0 in
    let more = rose.1 in
    (omega (arith, before, later), omega (arith, more, later))

rose_from : (first old new : ℕ) → first ≤ old → Rose old new → Rose first new
rose_from first old new later rose =
    let after = rose.0 in
    let more = rose.1 in
    (omega (arith, later, after), omega (arith, later, more))

-- no count falls
pub never_falls : (met : Bool) (before now : ℕ) → IsCaused met before now → before ≤ now
never_falls true before now caused = caused.0
never_falls false before now same = omega (arith, same)

-- two counts in a row
pub later_on : (was met : Bool) (first old new : ℕ) → IsCaused was first old → IsCaused met old new → first ≤ new
later_on was met first old new before line =
    let earlier = never_falls was first old before in
    let later = never_falls met old new line in
    omega (arith, earlier, later)

counted_both : (first old new : ℕ) (was met : Bool) → IsCaused was first old → IsCaused met old new → IsCaused (was || met) first new
counted_both first old new true true before line = rose_later first old new before line.0
counted_both first old new true false before same = subst (λ (count : ℕ). IsCaused true first count) (sym same) before
counted_both first old new false true same line = subst (λ (count : ℕ). IsCaused true count new) same line
counted_both first old new false false before same = same ∙ before

-- a count goes on with one line more
pub counted_on : (first old new : ℕ) (was met now : Bool) → now ≡ (was || met) → IsCaused was first old → IsCaused met old new → IsCaused now first new
counted_on first old new was met now is before line = subst (λ (all : Bool). IsCaused all first new) (sym is) (counted_both first old new was met before line)

-- what meets no fault of the disk leaves the count
pub none_met : (met : Bool) (count : ℕ) → met ≡ false → IsCaused met count count
none_met met count none = subst (λ (met : Bool). IsCaused met count count) (sym none) refl

-- what is refused, by what comes of it
refused_counted : (why : CoreFault) (before now : ℕ) → EditCause {T = ℕ} (Err why) before now → IsCaused (is_disk_fault (refused_outcome why)) before now
refused_counted core.Memory before now same = same
refused_counted (core.Op refusal) before now same = same
refused_counted (core.BaseFailed count) before now same = same
refused_counted (core.LogFull size) before now same = same
refused_counted core.DiskFault before now rose = rose
refused_counted (core.FeedGone opening) before now same = same
refused_counted (core.FeedAhead version) before now same = same

edit_counted : (answer : Result ℕ CoreFault) (before now : ℕ) → EditCause answer before now → IsCaused (is_disk_fault (event_outcome (event.Edit answer))) before now
edit_counted (Ok version) before now same = same
edit_counted (Err why) before now cause = refused_counted why before now cause

-- a select meets no fault of the disk
select_meets_none : (base : Plain) (asked : Option (List ℕ)) → is_disk_fault (Some (select_outcome base asked)) ≡ false
select_meets_none base None = refl
select_meets_none base (Some name) = by_table (plain_named base.tables name)
  where
    by_table : (table : Option PlainTable) → is_disk_fault (Some (table_outcome base.pairs name table)) ≡ false
    by_table None = refl
    by_table (Some table) = refl

module _ {D : Type 0} (set : Setting D) where
  -- nothing has changed, and no fault comes
  stays_counted : (old new : CoreState D) (comes result : Option LineOutcome) → is_disk_fault comes ≡ false → Stays old comes result new → IsCaused (is_disk_fault result) (set.disk.faults old.disk) (set.disk.faults new.disk)
  stays_counted old new comes result none (came, same) =
      subst (λ (it : Option LineOutcome). IsCaused (is_disk_fault it) (set.disk.faults old.disk) (set.disk.faults new.disk)) (sym came)
      (subst (λ (it : CoreState D). IsCaused (is_disk_fault comes) (set.disk.faults old.disk) (set.disk.faults it.disk)) (sym same) (none_met (is_disk_fault comes) (set.disk.faults old.disk) none))

  fed_counted : (old new : CoreState D) (from most : ℕ) (answer : Result GivenFeed CoreFault) → Fed old from most answer → new ≡ old → IsCaused (is_disk_fault (event_outcome (event.Feed answer))) (set.disk.faults old.disk) (set.disk.faults new.disk)
  fed_counted old new from most (Ok feed) fed same = ap (λ (it : CoreState D). set.disk.faults it.disk) same
  fed_counted old new from most (Err core.Memory) fed same = ap (λ (it : CoreState D). set.disk.faults it.disk) same
  fed_counted old new from most (Err (core.FeedGone opening)) fed same = ap (λ (it : CoreState D). set.disk.faults it.disk) same
  fed_counted old new from most (Err (core.FeedAhead version)) fed same = ap (λ (it : CoreState D). set.disk.faults it.disk) same
  fed_counted old new from most (Err (core.Op refusal)) fed same = absurd fed
  fed_counted old new from most (Err (core.BaseFailed count)) fed same = absurd fed
  fed_counted old new from most (Err (core.LogFull size)) fed same = absurd fed
  fed_counted old new from most (Err core.DiskFault) fed same = absurd fed

  -- an event
  step_counted : (old new : CoreState D) (made : Event) (came : Outcome) → Step set.disk old made came new → IsCaused (is_disk_fault (event_outcome came)) (set.disk.faults old.disk) (set.disk.faults new.disk)
  step_counted old new (event_of.Edit entry) (event.Edit answer) step = edit_counted answer (set.disk.faults old.disk) (set.disk.faults new.disk) step.faults
  step_counted old new (event_of.Feed from most) (event.Feed answer) step = fed_counted old new from most answer step.0 step.1
  step_counted old new (event_of.Edit entry) (event.Feed answer) step = absurd step
  step_counted old new (event_of.Feed from most) (event.Edit answer) step = absurd step

  event_counted : (old new : CoreState D) (made : Event) (result : Option LineOutcome) → MakesEvent set.disk old made result new → IsCaused (is_disk_fault result) (set.disk.faults old.disk) (set.disk.faults new.disk)
  event_counted old new made result (came, step, comes) =
      subst (λ (it : Option LineOutcome). IsCaused (is_disk_fault it) (set.disk.faults old.disk) (set.disk.faults new.disk)) (sym comes) (step_counted old new made came step)

  verb_counted : (old new : CoreState D) (verb : Verb) (rest : List ℕ) (result : Option LineOutcome) → VerbStep set old verb rest (On result new) → IsCaused (is_disk_fault result) (set.disk.faults old.disk) (set.disk.faults new.disk)
  verb_counted old new Nothing rest result step = stays_counted old new _ result refl step
  verb_counted old new Unknown rest result step = stays_counted old new _ result refl step
  verb_counted old new Later rest result step = stays_counted old new _ result refl step
  verb_counted old new Edit rest result (inl stays) = stays_counted old new None result refl stays
  verb_counted old new Edit rest result (inr makes) = by_op (op_of rest) makes
    where
      by_op : (op : Option Op) → MakesEdit set old op result new → IsCaused (is_disk_fault result) (set.disk.faults old.disk) (set.disk.faults new.disk)
      by_op None stays = stays_counted old new _ result refl stays
      by_op (Some op) (moment, is, tells, makes) = event_counted old new (event_of.Edit (entry_of moment op)) result makes
  verb_counted old new Select rest result (inl stays) = stays_counted old new None result refl stays
  verb_counted old new Select rest result (inr stays) = stays_counted old new _ result (select_meets_none old.content (select_of rest)) stays
  verb_counted old new Feed rest result makes = by_words (feed_words rest) makes
    where
      by_words : (words : Option (ℕ × ℕ)) → MakesFeed set.disk old words result new → IsCaused (is_disk_fault result) (set.disk.faults old.disk) (set.disk.faults new.disk)
      by_words None stays = stays_counted old new _ result refl stays
      by_words (Some (from, most)) makes = event_counted old new (event_of.Feed from most) result makes
  verb_counted old new Reopen rest result reopens =
      subst (λ (it : Option LineOutcome). IsCaused (is_disk_fault it) (set.disk.faults old.disk) (set.disk.faults new.disk)) (sym reopens.comes) reopens.starts.faults

  -- a line: the count rose exactly where a fault of the disk came
  pub line_counted : (old new : CoreState D) (line : List ℕ) (result : Option LineOutcome) → LineStep set old line (On result new) → IsCaused (is_disk_fault result) (set.disk.faults old.disk) (set.disk.faults new.disk)
  unfolding LineStep
  line_counted old new line result step = let asked = asked_by (without_return line) in verb_counted old new asked.0 asked.1 result step

module _ {D : Type 0} (set : Setting D) where
  verb_refused : (old : CoreState D) (verb : Verb) (rest : List ℕ) (fault : StartFault) (back : D) → VerbStep set old verb rest (Refused fault back) → StartCause fault (set.disk.faults old.disk) (set.disk.faults back)
  verb_refused old Nothing rest fault back step = absurd step
  verb_refused old Unknown rest fault back step = absurd step
  verb_refused old Later rest fault back step = absurd step
  verb_refused old Edit rest fault back step = absurd step
  verb_refused old Select rest fault back step = absurd step
  verb_refused old Feed rest fault back step = absurd step
  verb_refused old Reopen rest fault back step = step.faults

  -- a line in which a reopening was refused
  pub refused_line : (old : CoreState D) (line : List ℕ) (fault : StartFault) (back : D) → LineStep set old line (Refused fault back) → StartCause fault (set.disk.faults old.disk) (set.disk.faults back)
  unfolding LineStep
  refused_line old line fault back step = let asked = asked_by (without_return line) in verb_refused old asked.0 asked.1 fault back step

-- ---- the ends of a script

-- all lines were played
pub ended_counts : (out_of_memory failed : Bool) (first now : ℕ) → IsCaused failed first now → CountsDisk (end_status out_of_memory failed) first now
ended_counts out_of_memory true first now caused = record { later = caused.0; cause = λ is. caused; still = λ is. absurd (cc (is)) }
ended_counts true false first now same = record { later = omega (arith, same); cause = λ is. absurd (cc (is)); still = λ is. absurd (cc (is)) }
ended_counts false false first now same = record { later = omega (arith, same); cause = λ is. absurd (cc (is)); still = λ is. same }

-- the next line can't be read
pub unread_counts : (why : ReadFault) (first now : ℕ) → first ≤ now → CountsDisk (fault_status why) first now
unread_counts fault.Memory first now later = record { later = later; cause = λ is. absurd (cc (is)); still = λ is. absurd (cc (is)) }
unread_counts fault.Source first now later = record { later = later; cause = λ is. absurd (cc (is)); still = λ is. absurd (cc (is)) }
unread_counts fault.TooLong first now later = record { later = later; cause = λ is. absurd (cc (is)); still = λ is. absurd (cc (is)) }

-- a start was refused
pub refused_counts : (why : StartFault) (first old new : ℕ) → first ≤ old → StartCause why old new → CountsDisk (start_status why) first new
refused_counts start.DiskFault first old new earlier rose =
    let later = rose.0 in
    record { later = omega (arith, earlier, later); cause = λ is. rose_from first old new earlier rose; still = λ is. absurd (cc (is)) }
refused_counts start.Memory first old new earlier same = record { later = omega (arith, earlier, same); cause = λ is. absurd (cc (is)); still = λ is. absurd (cc (is)) }
refused_counts start.NotABase first old new earlier same = record { later = omega (arith, earlier, same); cause = λ is. absurd (cc (is)); still = λ is. absurd (cc (is)) }

-- the same of a refused reopening, whose count never falls either
pub refused_later : (why : StartFault) (old new : ℕ) → StartCause why old new → old ≤ new
refused_later start.DiskFault old new rose = rose.0
refused_later start.Memory old new same = omega (arith, same)
refused_later start.NotABase old new same = omega (arith, same)

-- a reply couldn't be given whole
pub cut_counts : (status : Status) (result : Option LineOutcome) (given written : Option (List ℕ)) (first now : ℕ) → first ≤ now → Writes (Some status) result given written → CountsDisk status first now
cut_counts Memory result given written first now later writes = record { later = later; cause = λ is. absurd (cc (is)); still = λ is. absurd (cc (is)) }
cut_counts SinkFault result given written first now later writes = record { later = later; cause = λ is. absurd (cc (is)); still = λ is. absurd (cc (is)) }
cut_counts Done result given written first now later writes = absurd writes
cut_counts Usage result given written first now later writes = absurd writes
cut_counts SourceFault result given written first now later writes = absurd writes
cut_counts DiskFault result given written first now later writes = absurd writes
cut_counts NotABase result given written first now later writes = absurd writes
cut_counts TooLong result given written first now later writes = absurd writes
