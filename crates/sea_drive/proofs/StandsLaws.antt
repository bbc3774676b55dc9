-- What a stop leaves while a line is played, and that the core stays sound.
use Rattle.std.proofs.Common.{◌≡◌, ◌≢◌, ◌⊎◌, ℕ, List, ◌∷◌, ◌++◌, [], Option, Some, None, Result, Ok, Err, refl, sym, ap, ◌∙◌, subst, inl, inr, arith}
use Rattle.sea_disk.specs.declared.file.File.TheVariants.{Base0, Base1, Log0, Log1}
use Rattle.sea_disk.specs.Shown.{Files, Shown, IsImage, IsDisk}
use Rattle.sea_disk.specs.Runs.{Leaves}
use Rattle.sea_disk.specs.Composition.{leaves_weaker}
use Rattle.sea_operation.specs.declared.base.Plain.{Plain}
use Rattle.sea_operation.specs.declared.operation.Entry.{Entry}
use Rattle.sea_operation.specs.declared.operation.Op.{Op}
use Rattle.sea_operation.specs.Apply.{apply}
use Rattle.sea_operation.specs.declared.refusal.OpRefusal.{OpRefusal}
use Rattle.sea_ops.specs.Operations.{op_of}
use Rattle.sea_core.specs.declared.event.Event.{Event}
use Rattle.sea_core.specs.declared.event.Event.TheVariants as event_of
use Rattle.sea_core.specs.declared.event.Outcome.{Outcome}
use Rattle.sea_core.specs.declared.event.Outcome.TheVariants as event
use Rattle.sea_core.specs.declared.fault.CoreFault.{CoreFault}
use Rattle.sea_core.specs.declared.fault.CoreFault.TheVariants as edit_fault
use Rattle.sea_core.specs.declared.fault.StartFault.{StartFault}
use Rattle.sea_core.specs.declared.fault.StartFault.TheVariants as start
use Rattle.sea_core.specs.Edits.{Edited, first_of_causes, first_cause}
use Rattle.sea_core.specs.Events.{EditStep, Step, Refuses}
use Rattle.sea_core.specs.Sound.{IsReady, IsSoundAs, IsSound, StandsForOneOf, StandsForCore, StandsWith, StandsWithOrWithout, LeavesEdit}
use Rattle.sea_core.specs.Stands.{StandsFor, KeepsStanding}
use Rattle.sea_core.specs.State.{CoreState}
use Rattle.sea_drive.specs.Asked.{asked_by}
use Rattle.sea_drive.specs.Feeds.{feed_words}
use Rattle.sea_drive.specs.Outcome.{entry_of}
use Rattle.sea_drive.specs.Setting.{Setting}
use Rattle.sea_drive.specs.Steps.{MakesEvent, MakesEdit, MakesFeed, IsFoundAgain, VerbStep, LineStep}
use Rattle.sea_drive.specs.Texts.{without_return}
use Rattle.sea_drive.specs.declared.verb.Verb.{Verb}
use Rattle.sea_drive.specs.declared.verb.Verb.TheVariants.{Nothing, Unknown, Later, Edit, Select, Feed, Reopen}
use Rattle.sea_drive.specs.declared.line.Played.TheVariants.{On, Refused}
use Rattle.sea_drive.specs.declared.outcome.LineOutcome.{LineOutcome}

-- a disk that is ready stands for its base
ready_stands : (disk : Shown) (base : Plain) (end : ℕ) → IsReady disk base end → (files : Files) → IsImage disk files → StandsFor base files
ready_stands disk base end ready files image = record {
  base0 = ready.base0 (files Base0) (image Base0);
  base1 = ready.base1 (files Base1) (image Base1);
  second = (0, inl (ready.second (files Log1) (image Log1)));
  payloads = ready.payloads;
  log = (end, inl (ready.log (files Log0) (image Log0)));
  makes = ready.makes;
}

-- whatever a stop leaves of a sound core's disk stands for what the core stands for
sound_as : (disk : Shown) (base : Plain) (doubt : Option Entry) (failed : Option ℕ) (end : ℕ) → IsSoundAs disk base doubt failed end → (files : Files) → IsImage disk files → StandsForOneOf base doubt files
sound_as disk base doubt None end (none, ready) files image = subst (λ it. StandsForOneOf base it files) (sym none) (ready_stands disk base end ready files image)
sound_as disk base doubt (Some count) end stands files image = stands files image

pub sound_stands : {D : Type 0} (shows : D → Shown) (core : CoreState D) → IsSound shows core → (files : Files) → IsImage (shows core.disk) files → StandsForCore core files
sound_stands shows core sound files image = sound_as (shows core.disk) core.content core.doubt core.failed core.log_end sound files image

-- what is read of a sound core's disk stands for its base, or for the one with the entry in doubt, and for no other
pub found_again : {D : Type 0} (shows : D → Shown) (law : (disk : D) → IsDisk (shows disk)) (one_base : (files : Files) (one other : Plain) → StandsFor one files → StandsFor other files → one ≡ other) (core : CoreState D) (found : Plain) → IsSound shows core → StandsFor found (shows core.disk).seen → IsFoundAgain core.content core.doubt found
found_again shows law one_base core found sound stands = by_doubt core.doubt (sound_stands shows core sound (shows core.disk).seen (law core.disk).seen_may_stay)
  where
    by_doubt : (doubt : Option Entry) → StandsForOneOf core.content doubt (shows core.disk).seen → IsFoundAgain core.content doubt found
    by_doubt None held = one_base (shows core.disk).seen found core.content stands held
    by_doubt (Some entry) (inl held) = inl (one_base (shows core.disk).seen found core.content stands held)
    by_doubt (Some entry) (inr (next, made, held)) = inr (made ∙ ap Ok (sym (one_base (shows core.disk).seen found next stands held)))

-- where nothing is done, what holds of each image holds at each moment
untouched : (disk : Shown) (P : Files → Type 0) → IsDisk disk → ((files : Files) → IsImage disk files → P files) → Leaves disk disk P
untouched disk P law holds = record {
  later = omega arith;
  each = λ files was. holds files (law.only_now files was);
  before = λ moment files early was. inl was;
}

module _ {D : Type 0} (set : Setting D) (law : (disk : D) → IsDisk (set.disk.shows disk)) where
  -- files that stand for what one of two cores stands for
  abbrev pub StandsForEither : CoreState D → CoreState D → Files → Type 0
  StandsForEither old new files = StandsForCore old files ⊎ StandsForCore new files

  -- a stop during a step leaves what one of its cores stands for, and the step leaves a sound core
  pub record StaysSound (old new : CoreState D) : Type 0 where
    pub leaves : Leaves (set.disk.shows old.disk) (set.disk.shows new.disk) (StandsForEither old new)
    pub sound : IsSound set.disk.shows new

  stays_sound : (old new : CoreState D) → IsSound set.disk.shows old → new ≡ old → StaysSound old new
  stays_sound old new sound same = subst (λ (core : CoreState D). StaysSound old core) (sym same) (record {
    leaves = untouched (set.disk.shows old.disk) (StandsForEither old old) (law old.disk) (λ files image. inl (sound_stands set.disk.shows old sound files image));
    sound = sound;
  })

  -- until a writing call fails, no entry is in doubt
  none_in_doubt : (core : CoreState D) → core.failed ≡ None → IsSound set.disk.shows core → core.doubt ≡ None
  none_in_doubt core whole sound = (subst (λ it. IsSoundAs (set.disk.shows core.disk) core.content core.doubt it core.log_end) whole sound).0

  -- what no cause refuses hasn't failed
  not_failed : (failed : Option ℕ) (made : Result Plain OpRefusal) (most size : ℕ) → first_of_causes failed made most size ≡ None → failed ≡ None
  not_failed None made most size none = refl
  not_failed (Some count) made most size none = absurd (cc)

  same_base : (one other : Plain) (answer : Result Plain OpRefusal) → answer ≡ Ok one → answer ≡ Ok other → one ≡ other
  same_base one other answer first second = cc

  -- the base with the entry is what the core after an accepted edit stands for
  accepted_stands : (old new : CoreState D) (entry : Entry) (files : Files) → apply old.content entry ≡ Ok new.content → new.doubt ≡ None → StandsWithOrWithout old entry files → StandsForEither old new files
  accepted_stands old new entry files made none (inl was) = inl was
  accepted_stands old new entry files made none (inr (next, is, stands)) =
      inr (subst (λ (doubt : Option Entry). StandsForOneOf new.content doubt files) (sym none) (subst (λ (one : Plain). StandsFor one files) (same_base next new.content (apply old.content entry) is made) stands))

  -- the same where the entry is in doubt
  doubted_stands : (old new : CoreState D) (entry : Entry) (files : Files) → new.content ≡ old.content → new.doubt ≡ Some entry → StandsWithOrWithout old entry files → StandsForEither old new files
  doubted_stands old new entry files same is (inl was) = inl was
  doubted_stands old new entry files same is (inr stands) =
      inr (subst (λ (doubt : Option Entry). StandsForOneOf new.content doubt files) (sym is) (inr (subst (λ (base : Plain). StandsWith base entry files) (sym same) stands)))

  edit_sound : (old new : CoreState D) (entry : Entry) (answer : Result ℕ CoreFault) → EditStep set.disk old entry answer new → set.disk.told → IsSound set.disk.shows old → StaysSound old new
  edit_sound old new entry answer step told before = by_answer answer step.edited
    where
      after : LeavesEdit set.disk.shows old new entry answer
      after = step.leaves told before

      by_answer : (it : Result ℕ CoreFault) → Edited old new entry it → StaysSound old new
      by_answer (Ok version) (none, made, _, is) =
          let whole = not_failed old.failed _ _ _ none in
          let kept : new.doubt ≡ old.doubt = ap (λ (it : CoreState D). it.doubt) is in
          record { leaves = leaves_weaker after.any_moment (λ files. accepted_stands old new entry files made (kept ∙ none_in_doubt old whole before)); sound = after.sound }
      by_answer (Err edit_fault.DiskFault) (none, is) =
          record { leaves = leaves_weaker after.any_moment (λ files. doubted_stands old new entry files (ap (λ (it : CoreState D). it.content) is) (ap (λ (it : CoreState D). it.doubt) is)); sound = after.sound }
      by_answer (Err edit_fault.Memory) edited = stays_sound old new before edited
      by_answer (Err (edit_fault.Op refusal)) edited = stays_sound old new before edited.1
      by_answer (Err (edit_fault.FeedGone _)) edited = stays_sound old new before edited.1
      by_answer (Err (edit_fault.FeedAhead _)) edited = stays_sound old new before edited.1
      by_answer (Err (edit_fault.BaseFailed count)) edited = stays_sound old new before edited.1
      by_answer (Err (edit_fault.LogFull size)) edited = stays_sound old new before edited.1

  -- an event keeps a core sound
  event_sound : (old new : CoreState D) (made : Event) (result : Option LineOutcome) → MakesEvent set.disk old made result new → set.disk.told → IsSound set.disk.shows old → StaysSound old new
  event_sound old new made result (came, step, comes) told before = by_event made came step
    where
      by_event : (it : Event) (outcome : Outcome) → Step set.disk old it outcome new → StaysSound old new
      by_event (event_of.Edit entry) (event.Edit answer) edits = edit_sound old new entry answer edits told before
      by_event (event_of.Feed from most) (event.Feed answer) feeds = stays_sound old new before feeds.1
      by_event (event_of.Edit entry) (event.Feed answer) none = absurd none
      by_event (event_of.Feed from most) (event.Edit answer) none = absurd none

  -- files that stand alike with an image of a sound core's disk
  alike_stands : (core : CoreState D) → IsSound set.disk.shows core → (files : Files) → KeepsStanding (set.disk.shows core.disk) files → StandsForCore core files
  alike_stands core sound files (before, image, alike) = by_doubt core.doubt (sound_stands set.disk.shows core sound before image)
    where
      by_doubt : (doubt : Option Entry) → StandsForOneOf core.content doubt before → StandsForOneOf core.content doubt files
      by_doubt None stands = alike.there core.content stands
      by_doubt (Some entry) (inl stands) = inl (alike.there core.content stands)
      by_doubt (Some entry) (inr (next, made, stands)) = inr (next, made, alike.there next stands)

  verb_sound : (old new : CoreState D) (verb : Verb) (rest : List ℕ) (result : Option LineOutcome) → VerbStep set old verb rest (On result new) → set.disk.told → IsSound set.disk.shows old → StaysSound old new
  verb_sound old new Nothing rest result step is sound = stays_sound old new sound step.1
  verb_sound old new Unknown rest result step is sound = stays_sound old new sound step.1
  verb_sound old new Later rest result step is sound = stays_sound old new sound step.1
  verb_sound old new Edit rest result (inl stays) is sound = stays_sound old new sound stays.1
  verb_sound old new Edit rest result (inr makes) is sound = by_op (op_of rest) makes
    where
      by_op : (op : Option Op) → MakesEdit set old op result new → StaysSound old new
      by_op None stays = stays_sound old new sound stays.1
      by_op (Some op) (moment, lies, tells, made) = event_sound old new (event_of.Edit (entry_of moment op)) result made is sound
  verb_sound old new Select rest result (inl stays) is sound = stays_sound old new sound stays.1
  verb_sound old new Select rest result (inr stays) is sound = stays_sound old new sound stays.1
  verb_sound old new Feed rest result makes is sound = by_words (feed_words rest) makes
    where
      by_words : (words : Option (ℕ × ℕ)) → MakesFeed set.disk old words result new → StaysSound old new
      by_words None stays = stays_sound old new sound stays.1
      by_words (Some (from, most)) made = event_sound old new (event_of.Feed from most) result made is sound
  verb_sound old new Reopen rest result reopens is sound = record {
    leaves = leaves_weaker (reopens.starts.any_moment is) (λ files keeps. inl (alike_stands old sound files keeps));
    sound = reopens.starts.sound is;
  }

  -- a line that was played keeps the core sound, and a stop during it leaves what it or the core before it stands for
  pub line_sound : (old new : CoreState D) (line : List ℕ) (result : Option LineOutcome) → LineStep set old line (On result new) → set.disk.told → IsSound set.disk.shows old → StaysSound old new
  unfolding LineStep
  line_sound old new line result step is sound = let asked = asked_by (without_return line) in verb_sound old new asked.0 asked.1 result step is sound

  verb_refused : (old : CoreState D) (verb : Verb) (rest : List ℕ) (fault : StartFault) (back : D) → VerbStep set old verb rest (Refused fault back) → Refuses set.disk old.disk fault back
  verb_refused old Nothing rest fault back step = absurd step
  verb_refused old Unknown rest fault back step = absurd step
  verb_refused old Later rest fault back step = absurd step
  verb_refused old Edit rest fault back step = absurd step
  verb_refused old Select rest fault back step = absurd step
  verb_refused old Feed rest fault back step = absurd step
  verb_refused old Reopen rest fault back step = step

  -- only a reopening leaves the disk alone, and then its start was refused
  pub line_refused : (old : CoreState D) (line : List ℕ) (fault : StartFault) (back : D) → LineStep set old line (Refused fault back) → Refuses set.disk old.disk fault back
  unfolding LineStep
  line_refused old line fault back step = let asked = asked_by (without_return line) in verb_refused old asked.0 asked.1 fault back step

  -- a refused start leaves what the core stands for
  pub refused_leaves : (old : CoreState D) (fault : StartFault) (back : D) → Refuses set.disk old.disk fault back → set.disk.told → IsSound set.disk.shows old → Leaves (set.disk.shows old.disk) (set.disk.shows back) (StandsForCore old)
  refused_leaves old fault back refuses is sound = leaves_weaker (refuses.any_moment is) (alike_stands old sound)

  -- a sound core's disk is always found again
  pub sound_found : (old : CoreState D) (fault : StartFault) (back : D) → Refuses set.disk old.disk fault back → set.disk.told → IsSound set.disk.shows old → fault ≢ start.NotABase
  sound_found old fault back refuses is sound none = by_doubt old.doubt (sound_stands set.disk.shows old sound (set.disk.shows old.disk).seen (law old.disk).seen_may_stay)
    where
      by_doubt : (doubt : Option Entry) → StandsForOneOf old.content doubt (set.disk.shows old.disk).seen → ⊥
      by_doubt None stands = refuses.no_base is none old.content stands
      by_doubt (Some entry) (inl stands) = refuses.no_base is none old.content stands
      by_doubt (Some entry) (inr (next, made, stands)) = refuses.no_base is none next stands
