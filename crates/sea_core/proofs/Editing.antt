-- What an edit answers and leaves.
use Rattle.std.proofs.Common.{◌≡◌, ◌≢◌, ◌↔◌, ℕ, ◌+◌, ◌<◌, ◌≤◌, nat_lt, List, [], ◌∷◌, ◌++◌, length, Bool, true, false, if◌then◌else◌, Option, Some, None, MatchOption, Result, Ok, Err, IfOk, OnOk, IsErr, IsErrOf, IsUtf8, inl, inr, refl, sym, ap, ◌∙◌, subst, arith}
use Rattle.std.proofs.lemmas.Bool.{cases_lt}
use Rattle.std.proofs.lemmas.Bool.Decides.{nat_tests}
use Rattle.sea_disk.specs.declared.file.File.{File}
use Rattle.sea_disk.specs.declared.file.File.TheVariants.{Base0, Base1, Log0, Log1}
use Rattle.sea_disk.specs.Shown.{Files, Shown, IsImage, IsDisk}
use Rattle.sea_disk.specs.Runs.{Leaves, Works}
use Rattle.sea_disk.specs.Composition.{works_leaves, leaves_weaker}
use Rattle.sea_log.specs.declared.fault.LogFault.{LogFault}
use Rattle.sea_log.specs.declared.fault.LogFault.TheVariants as log
use Rattle.sea_log.specs.Images.{IsClosedInImages, with_record}
use Rattle.sea_log.specs.Records.{HoldsWithOrWithout, size_with}
use Rattle.sea_moment.specs.Moment.{IsMoment}
use Rattle.sea_ops.specs.Operations.{op_of}
use Rattle.sea_record.specs.Record.{record_of, IsRecord}
use Rattle.sea_ops.specs.Texts.{text_of}
use Rattle.sea_operation.specs.declared.base.Plain.{Plain}
use Rattle.sea_operation.specs.declared.operation.Entry.{Entry}
use Rattle.sea_operation.specs.declared.operation.Op.{Op}
use Rattle.sea_operation.specs.declared.refusal.OpRefusal.{OpRefusal}
use Rattle.sea_operation.specs.Apply.{apply}
use Rattle.sea_core.specs.declared.fault.CoreFault.{CoreFault}
use Rattle.sea_core.specs.declared.fault.CoreFault.TheVariants as edit
use Rattle.sea_core.specs.Additions.{Added, LeavesRecord, StandsForEither}
use Rattle.sea_core.specs.Causes.{EditCause}
use Rattle.sea_core.specs.Edits.{Edited, first_cause, first_of_causes, size_after}
use Rattle.sea_core.specs.Sound.{IsReady, StandsForOneOf, IsSoundAs, IsSound, StandsWithOrWithout, LeavesEdit}
use Rattle.sea_core.specs.Stands.{StandsFor}
use Rattle.sea_core.specs.State.{CoreState, next_record}
use Rattle.sea_core.specs.Taking.{TakesRecord, IsRefusedBy, IsRecordOf, IsTooLarge, IsPrepared, IsFirstCause}
use Rattle.sea_core.proofs.Making.{version_rises, makes_push}

-- ---- what a disk leaves that stands for a base

-- what holds of each image holds at any moment of doing nothing
pub leaves_untouched : {disk : Shown} {P : Files → Type 0} → IsDisk disk → ((files : Files) → IsImage disk files → P files) → Leaves disk disk P
leaves_untouched sound holds = record {
  later = omega arith;
  each = λ files now. holds files (sound.only_now files now);
  before = λ moment files early was. inl was;
}

-- a disk that is ready stands for its base
ready_stands : {disk : Shown} {base : Plain} {end : ℕ} → IsReady disk base end → (files : Files) → IsImage disk files → StandsFor base files
ready_stands {end = end} ready files image = record {
  base0 = ready.base0 (files Base0) (image Base0);
  base1 = ready.base1 (files Base1) (image Base1);
  second = (0, inl (ready.second (files Log1) (image Log1)));
  payloads = ready.payloads;
  log = (end, inl (ready.log (files Log0) (image Log0)));
  makes = ready.makes;
}

-- what a stop leaves stands for the base, or for the one with the entry in doubt
sound_stands : (disk : Shown) (base : Plain) (doubt : Option Entry) (failed : Option ℕ) (end : ℕ) → IsSoundAs disk base doubt failed end → (files : Files) → IsImage disk files → StandsForOneOf base doubt files
sound_stands disk base doubt None end (none, ready) files image = subst (λ it. StandsForOneOf base it files) (sym none) (ready_stands ready files image)
sound_stands disk base doubt (Some count) end either files image = either files image

-- until a writing call fails a sound disk is ready
pub ready_if_sound : (disk : Shown) (base : Plain) (doubt : Option Entry) (failed : Option ℕ) (end : ℕ) → failed ≡ None → IsSoundAs disk base doubt failed end → IsReady disk base end
ready_if_sound disk base doubt failed end whole sound = (subst (λ it. IsSoundAs disk base doubt it end) whole sound).1

none_in_doubt : (disk : Shown) (base : Plain) (doubt : Option Entry) (failed : Option ℕ) (end : ℕ) → failed ≡ None → IsSoundAs disk base doubt failed end → doubt ≡ None
none_in_doubt disk base doubt failed end whole sound = (subst (λ it. IsSoundAs disk base doubt it end) whole sound).0

-- an edit that touches nothing, or puts back what it touched
pub edit_untouched : {D : Type 0} (shows : D → Shown) (old new : CoreState D) (entry : Entry) (answer : Result ℕ CoreFault) → IsDisk (shows old.disk) → IsSound shows old → new ≡ old → IsErr answer → LeavesEdit shows old new entry answer
edit_untouched shows old new entry (Ok version) disk sound same refused = absurd (cc)
edit_untouched {D = D} shows old new entry (Err fault) disk sound same refused = subst (λ (it : CoreState D). LeavesEdit shows old it entry (Err fault)) (sym same) (record {
  any_moment = leaves_untouched disk (λ files image. inl (sound_stands (shows old.disk) old.content old.doubt old.failed old.log_end sound files image));
  sound = sound;
  written = tt;
  bytes = tt;
  others = record { seen = λ other differs. refl; image = λ other bytes differs now. now; kept = λ other bytes differs was. was };
})

-- ---- one record more

-- files whose log holds the list with the payload or without it stand for one of two bases
stands_either : {disk : Shown} {base next : Plain} {payload : List ℕ} {end : ℕ} (ready : IsReady disk base end) → TakesRecord base payload next → (files : Files) → HoldsWithOrWithout ready.payloads payload (files Log0) → ((other : File) → other ≢ Log0 → disk.image other (files other)) → StandsForEither base next files
stands_either ready takes files (inl holds) others = inl (record {
  base0 = ready.base0 (files Base0) (others Base0 (λ e. cc));
  base1 = ready.base1 (files Base1) (others Base1 (λ e. cc));
  second = (0, inl (ready.second (files Log1) (others Log1 (λ e. cc))));
  payloads = ready.payloads;
  log = holds;
  makes = ready.makes;
})
stands_either {base = base} {next = next} {payload = payload} ready takes files (inr holds) others = inr (record {
  base0 = ready.base0 (files Base0) (others Base0 (λ e. cc));
  base1 = ready.base1 (files Base1) (others Base1 (λ e. cc));
  second = (0, inl (ready.second (files Log1) (others Log1 (λ e. cc))));
  payloads = ready.payloads ++ payload ∷ [];
  log = holds;
  makes = makes_push ready.payloads base payload next ready.makes takes;
})

-- a run of calls that appends the record, seen as a whole
pub keep_leaves : {old new : Shown} {base next : Plain} {payload : List ℕ} {end : ℕ} (ready : IsReady old base end) → TakesRecord base payload next → Works Log0 (HoldsWithOrWithout ready.payloads payload) old new → Leaves old new (StandsForEither base next)
keep_leaves ready takes works = works_leaves works (λ files here others. stands_either ready takes files here others)

-- what it leaves where it is cut short
pub keep_doubts : {old new : Shown} {base next : Plain} {payload : List ℕ} {end : ℕ} (ready : IsReady old base end) → TakesRecord base payload next → Works Log0 (HoldsWithOrWithout ready.payloads payload) old new → (files : Files) → IsImage new files → StandsForEither base next files
keep_doubts ready takes works files image =
    stands_either ready takes files (works.now (files Log0) (image Log0)) (λ other differs. works.others.image other (files other) differs (image other))

-- what it leaves at its end
pub keep_ready : {old new : Shown} {base next : Plain} {payload : List ℕ} {end place : ℕ} (ready : IsReady old base end) → TakesRecord base payload next → Works Log0 (HoldsWithOrWithout ready.payloads payload) old new → IsClosedInImages new Log0 (ready.payloads ++ payload ∷ []) place → IsReady new next place
keep_ready {base = base} {next = next} {payload = payload} ready takes works added = record {
  base0 = λ bytes image. ready.base0 bytes (works.others.image Base0 bytes (λ e. cc) image);
  base1 = λ bytes image. ready.base1 bytes (works.others.image Base1 bytes (λ e. cc) image);
  second = λ bytes image. ready.second bytes (works.others.image Log1 bytes (λ e. cc) image);
  payloads = ready.payloads ++ payload ∷ [];
  log = added;
  makes = makes_push ready.payloads base payload next ready.makes takes;
}

-- all that a record more leaves
pub add_leaves : {old new : Shown} {base next : Plain} {payload : List ℕ} {end : ℕ} (answer : Result ℕ LogFault) (ready : IsReady old base end) → TakesRecord base payload next → Works Log0 (HoldsWithOrWithout ready.payloads payload) old new
    → ((payloads : List (List ℕ)) → IsClosedInImages old Log0 payloads end → IfOk answer (λ place. IsClosedInImages new Log0 (payloads ++ payload ∷ []) place))
    → OnOk answer (new.seen Log0 ≡ with_record (old.seen Log0) end payload) → LeavesRecord old new base next end payload answer
add_leaves (Ok place) ready takes works written bytes = record {
  any_moment = keep_leaves ready takes works;
  images = keep_doubts ready takes works;
  ready = keep_ready ready takes works (written ready.payloads ready.log);
  written = written;
  bytes = bytes;
  others = works.others;
}
add_leaves (Err fault) ready takes works written bytes = record {
  any_moment = keep_leaves ready takes works;
  images = keep_doubts ready takes works;
  ready = tt;
  written = tt;
  bytes = tt;
  others = works.others;
}

-- ---- causes

-- a log that isn't refused as too large isn't
pub within_limit : (result : Result ℕ LogFault) (size most : ℕ) → (most < size → result ≡ Err (log.LogFull size)) → result ≢ Err (log.LogFull size) → size ≤ most
within_limit result size most full other = elim (cases_lt most size) [ inl large ↦ absurd (other (full large)) | inr small ↦ small ]

-- each answer of the log with its cause
pub added_of : {D : Type 0} (old new : D) (end : ℕ) (payload : List ℕ) (most : ℕ) (answer : Result ℕ LogFault)
    → ((size : ℕ) → IsErrOf answer (log.LogFull size) ↔ ((size ≡ size_with end payload) × (most < size)))
    → IfOk answer (λ place. place ≡ end + 5 + length payload) → ¬ IsErrOf answer log.BadLog
    → ((size : ℕ) → IsErrOf answer (log.LogFull size) → new ≡ old) → (IsErrOf answer log.Memory → new ≡ old) → Added old new end payload most answer
added_of old new end payload most (Ok place) full is not_bad kept_full kept =
    (within_limit (Ok place) (size_with end payload) most (λ large. (full (size_with end payload)).1 (refl, large)) (λ e. cc), is)
added_of old new end payload most (Err log.DiskFault) full is not_bad kept_full kept =
    within_limit (Err log.DiskFault) (size_with end payload) most (λ large. (full (size_with end payload)).1 (refl, large)) (λ e. cc)
added_of old new end payload most (Err (log.LogFull size)) full is not_bad kept_full kept = (((full size).0 refl).0, ((full size).0 refl).1, kept_full size refl)
added_of old new end payload most (Err log.Memory) full is not_bad kept_full kept = kept refl
added_of old new end payload most (Err log.BadLog) full is not_bad kept_full kept = absurd (not_bad refl)

-- the cause of a core that hasn't failed and whose base takes the entry
from_log : {D : Type 0} (core : CoreState D) (entry : Entry) (next : Plain) → core.failed ≡ None → apply core.content entry ≡ Ok next → first_cause core entry ≡ first_of_causes None (Ok next) core.limits.log_bytes (size_after core entry)
from_log core entry next whole made =
    ap (λ it. first_of_causes it (apply core.content entry) core.limits.log_bytes (size_after core entry)) whole ∙ ap (λ it. first_of_causes None it core.limits.log_bytes (size_after core entry)) made

fits : (next : Plain) (most size : ℕ) → size ≤ most → first_of_causes None (Ok next) most size ≡ None
fits next most size small = let test : nat_lt most size ≡ false = grind (arith, nat_tests, small) in ap (λ it. if it then Some (edit.LogFull size) else None) test

too_large : (next : Plain) (most size : ℕ) → most < size → first_of_causes None (Ok next) most size ≡ Some (edit.LogFull size)
too_large next most size large = let test : nat_lt most size ≡ true = grind (arith, nat_tests, large) in ap (λ it. if it then Some (edit.LogFull size) else None) test

-- no cause refuses the entry
no_cause : {D : Type 0} (core : CoreState D) (entry : Entry) (next : Plain) → core.failed ≡ None → apply core.content entry ≡ Ok next → size_after core entry ≤ core.limits.log_bytes → first_cause core entry ≡ None
no_cause core entry next whole made small = from_log core entry next whole made ∙ fits next core.limits.log_bytes (size_after core entry) small

-- the log does
log_cause : {D : Type 0} (core : CoreState D) (entry : Entry) (next : Plain) (size : ℕ) → core.failed ≡ None → apply core.content entry ≡ Ok next → size ≡ size_after core entry → core.limits.log_bytes < size → first_cause core entry ≡ Some (edit.LogFull size)
log_cause core entry next size whole made same large =
    from_log core entry next whole made ∙ ap (first_of_causes None (Ok next) core.limits.log_bytes) (sym same) ∙ too_large next core.limits.log_bytes size large

-- the base does
pub cause_refused : {D : Type 0} (core : CoreState D) (entry : Entry) (fault : CoreFault) → core.failed ≡ None → IsRefusedBy core.content entry fault → IsFirstCause core entry fault
cause_refused core entry edit.Memory whole refused = tt
cause_refused core entry (edit.Op refusal) whole refused =
    ap (λ it. first_of_causes it (apply core.content entry) core.limits.log_bytes (size_after core entry)) whole ∙ ap (λ it. first_of_causes None it core.limits.log_bytes (size_after core entry)) refused
cause_refused core entry (edit.BaseFailed count) whole refused = absurd refused
cause_refused core entry (edit.LogFull size) whole refused = absurd refused
cause_refused core entry edit.DiskFault whole refused = absurd refused
cause_refused core entry (edit.FeedGone _) whole refused = absurd refused
cause_refused core entry (edit.FeedAhead _) whole refused = absurd refused

-- the base has failed
pub cause_failed : {D : Type 0} (core : CoreState D) (entry : Entry) (count : ℕ) → core.failed ≡ Some count → IsFirstCause core entry (edit.BaseFailed count)
cause_failed core entry count failed = ap (λ it. first_of_causes it (apply core.content entry) core.limits.log_bytes (size_after core entry)) failed

-- the record is longer than any log may be
pub cause_too_large : {D : Type 0} (core : CoreState D) (entry : Entry) (next : Plain) (fault : CoreFault) → core.failed ≡ None → apply core.content entry ≡ Ok next → IsTooLarge core.log_end next.version entry fault → IsFirstCause core entry fault
cause_too_large core entry next edit.Memory whole made large = tt
cause_too_large core entry next (edit.Op refusal) whole made large = absurd large
cause_too_large core entry next (edit.BaseFailed count) whole made large = absurd large
cause_too_large core entry next (edit.LogFull size) whole made large =
    log_cause core entry next size whole made
    (large.0 ∙ ap (λ version. size_with core.log_end (record_of version entry)) (version_rises core.content next entry made))
    (omega (arith, large.1, core.limits.within))
cause_too_large core entry next edit.DiskFault whole made large = absurd large
cause_too_large core entry next (edit.FeedGone _) whole made large = absurd large
cause_too_large core entry next (edit.FeedAhead _) whole made large = absurd large

-- no cause is a fault of the disk
never_disk : (failed : Option ℕ) (made : Result Plain OpRefusal) (most size : ℕ) → first_of_causes failed made most size ≢ Some edit.DiskFault
never_disk (Some count) made most size same = cc
never_disk None (Err refusal) most size same = cc
never_disk None (Ok next) most size same = by_test (nat_lt most size) same
  where
    by_test : (test : Bool) → (if test then Some (edit.LogFull size) else None) ≢ Some edit.DiskFault
    by_test true other = cc
    by_test false other = cc

-- ---- answers

-- a cause refuses the entry
pub edited_refused : {D : Type 0} (core : CoreState D) (entry : Entry) (fault : CoreFault) → IsFirstCause core entry fault → Edited core core entry (Err fault)
edited_refused core entry edit.Memory cause = refl
edited_refused core entry (edit.Op refusal) cause = (cause, refl)
edited_refused core entry (edit.BaseFailed count) cause = (cause, refl)
edited_refused core entry (edit.LogFull size) cause = (cause, refl)
edited_refused core entry edit.DiskFault cause = absurd (never_disk core.failed (apply core.content entry) core.limits.log_bytes (size_after core entry) cause)
edited_refused core entry (edit.FeedGone _) cause = (cause, refl)
edited_refused core entry (edit.FeedAhead _) cause = (cause, refl)

pub counts_refused : {D : Type 0} (core : CoreState D) (entry : Entry) (fault : CoreFault) (count : ℕ) → IsFirstCause core entry fault → EditCause {T = ℕ} (Err fault) count count
counts_refused core entry edit.Memory count cause = refl
counts_refused core entry (edit.Op refusal) count cause = refl
counts_refused core entry (edit.BaseFailed _) count cause = refl
counts_refused core entry (edit.LogFull size) count cause = refl
counts_refused core entry edit.DiskFault count cause = absurd (never_disk core.failed (apply core.content entry) core.limits.log_bytes (size_after core entry) cause)
counts_refused core entry (edit.FeedGone _) count cause = refl
counts_refused core entry (edit.FeedAhead _) count cause = refl

pub refused_otherwise : {D : Type 0} {T : Type 0} (core : CoreState D) (entry : Entry) (fault : CoreFault) → IsFirstCause core entry fault → ¬ IsErrOf {T = T} (Err fault) edit.DiskFault
refused_otherwise core entry fault cause same =
    let is : fault ≡ edit.DiskFault = cc in
    never_disk core.failed (apply core.content entry) core.limits.log_bytes (size_after core entry) (subst (IsFirstCause core entry) is cause)

-- the record was made and is safe
pub edited_added : {D : Type 0} (old : CoreState D) (disk : D) (entry : Entry) (longer : List Entry) (next : Plain) (payload : List ℕ) (place : ℕ) → IsPrepared old entry next payload → longer ≡ old.history ++ entry ∷ [] → Added old.disk disk old.log_end payload old.limits.log_bytes (Ok place)
    → Edited old (record old { disk = disk; content = next; history = longer; log_end = place }) entry (Ok next.version)
edited_added old disk entry longer next payload place prepared pushed added =
    let bytes : payload ≡ next_record old entry = prepared.record_is.bytes ∙ ap (λ lsn. record_of lsn entry) (version_rises old.content next entry prepared.made) in
    let end : place ≡ old.log_end + 5 + length (next_record old entry) = added.1 ∙ ap (λ it. old.log_end + 5 + length it) bytes in (
      no_cause old entry next prepared.whole prepared.made (subst (λ it. size_with old.log_end it ≤ old.limits.log_bytes) bytes added.0),
      prepared.made,
      refl,
      ap (λ history. record old { disk = disk; content = next; history = history; log_end = place }) pushed ∙ ap (λ it. record old { disk = disk; content = next; history = old.history ++ entry ∷ []; log_end = it }) end,
    )

-- a call of the disk failed
pub edited_doubted : {D : Type 0} (old : CoreState D) (disk : D) (entry : Entry) (back : List Entry) (doubt : Option Entry) (failed : Option ℕ) (next : Plain) (payload : List ℕ) → IsPrepared old entry next payload → back ≡ old.history → doubt ≡ Some entry → Added old.disk disk old.log_end payload old.limits.log_bytes (Err log.DiskFault)
    → Edited old (record old { disk = disk; history = back; doubt = doubt; failed = failed }) entry (Err edit.DiskFault)
edited_doubted old disk entry back doubt failed next payload prepared same is added =
    let bytes : payload ≡ next_record old entry = prepared.record_is.bytes ∙ ap (λ lsn. record_of lsn entry) (version_rises old.content next entry prepared.made) in (
      no_cause old entry next prepared.whole prepared.made (subst (λ it. size_with old.log_end it ≤ old.limits.log_bytes) bytes added),
      ap (λ history. record old { disk = disk; history = history; doubt = doubt; failed = failed }) same ∙ ap (λ it. record old { disk = disk; doubt = it; failed = failed }) is,
    )

-- the disk and the history are put back
pub put_back : {D : Type 0} (old : CoreState D) (disk : D) (back : List Entry) → disk ≡ old.disk → back ≡ old.history → record old { disk = disk; history = back } ≡ old
put_back old disk back same_disk same = ap (λ it. record old { disk = it; history = back }) same_disk ∙ ap (λ it. record old { history = it }) same

-- the log would be too large
pub edited_full : {D : Type 0} (old : CoreState D) (disk : D) (entry : Entry) (back : List Entry) (next : Plain) (payload : List ℕ) (size : ℕ) → IsPrepared old entry next payload → back ≡ old.history → Added old.disk disk old.log_end payload old.limits.log_bytes (Err (log.LogFull size))
    → Edited old (record old { disk = disk; history = back }) entry (Err (edit.LogFull size))
edited_full old disk entry back next payload size prepared same added =
    let bytes : payload ≡ next_record old entry = prepared.record_is.bytes ∙ ap (λ lsn. record_of lsn entry) (version_rises old.content next entry prepared.made) in
    (log_cause old entry next size prepared.whole prepared.made (added.0 ∙ ap (size_with old.log_end) bytes) added.1, put_back old disk back added.2 same)

no_item : {X : Type 0} (items : List X) (item : X) → items ++ item ∷ [] ≢ []
no_item [] item same = cc
no_item (first ∷ items) item same = cc

same_front : {X : Type 0} (was now : List X) (item last : X) → was ++ item ∷ [] ≡ now ++ last ∷ [] → now ≡ was
same_front [] [] item last same = refl
same_front [] (one ∷ now) item last same = absurd (no_item now last (cc))
same_front (one ∷ was) [] item last same = absurd (no_item was item (cc))
same_front (one ∷ was) (other ∷ now) item last same = let rest : was ++ item ∷ [] ≡ now ++ last ∷ [] = cc in let front = same_front was now item last rest in cc

-- the item that came last goes again
pub taken_back : {X : Type 0} (was longer now : List X) (item : X) (gone : Option X) → longer ≡ was ++ item ∷ [] → MatchOption gone ((longer ≡ []) × (now ≡ [])) (λ last. longer ≡ now ++ last ∷ []) → now ≡ was
taken_back was longer now item None pushed went = absurd (no_item was item (sym pushed ∙ went.0))
taken_back was longer now item (Some last) pushed went = same_front was now item last (sym pushed ∙ went)

-- ---- the record of an entry

-- the canonical text of an operation is a form of it
abbrev pub TextsAreForms : Type 0
TextsAreForms = (op : Op) (text : List ℕ) → op_of text ≡ Some op → op_of (text_of op) ≡ Some op

-- it is the next record of the base
record_is_next : TextsAreForms → (base next : Plain) (entry : Entry) (payload : List ℕ) → IsMoment entry.moment.0 → IsUtf8 entry.user → (text : List ℕ) × (op_of text ≡ Some entry.op) → apply base entry ≡ Ok next → IsRecordOf next.version entry payload → IsRecord payload (base.version + 1) entry
record_is_next forms base next entry payload moment user form made is =
    let version = version_rises base next entry made in
    record {
      bytes = is.bytes ∙ ap (λ lsn. record_of lsn entry) version;
      number = omega (arith, version, is.number);
      moment = moment;
      user = user;
      user_fits = is.user_fits;
      text_fits = is.text_fits;
      form = forms entry.op form.0 form.1;
    }

-- what stands for the base or for the next one stands for one with the entry or without it
with_or_without : {D : Type 0} (core : CoreState D) (entry : Entry) (next : Plain) → core.doubt ≡ None → apply core.content entry ≡ Ok next → (files : Files) → StandsForEither core.content next files → StandsWithOrWithout core entry files
with_or_without core entry next none made files (inl stands) = inl (subst (λ it. StandsForOneOf core.content it files) (sym none) stands)
with_or_without core entry next none made files (inr stands) = inr (next, made, stands)

-- the entry is in doubt
in_doubt : (base : Plain) (entry : Entry) (doubt : Option Entry) (next : Plain) → doubt ≡ Some entry → apply base entry ≡ Ok next → (files : Files) → StandsForEither base next files → StandsForOneOf base doubt files
in_doubt base entry doubt next is made files (inl stands) = subst (λ it. StandsForOneOf base it files) (sym is) (inl stands)
in_doubt base entry doubt next is made files (inr stands) = subst (λ it. StandsForOneOf base it files) (sym is) (inr (next, made, stands))

-- the entry's record, once it is prepared
pub takes_prepared : TextsAreForms → {D : Type 0} (core : CoreState D) (entry : Entry) (next : Plain) (payload : List ℕ) → IsMoment entry.moment.0 → IsUtf8 entry.user → (text : List ℕ) × (op_of text ≡ Some entry.op) → IsPrepared core entry next payload → TakesRecord core.content payload next
takes_prepared forms core entry next payload moment user form prepared = record {
  entry = entry;
  is_record = record_is_next forms core.content next entry payload moment user form prepared.made prepared.record_is;
  applied = prepared.made;
}

-- ---- what an edit leaves

-- the record is safe
pub leaves_added : {D : Type 0} (shows : D → Shown) (old : CoreState D) (disk : D) (entry : Entry) (longer : List Entry) (next : Plain) (payload : List ℕ) (place : ℕ) → IsPrepared old entry next payload → IsSound shows old
    → LeavesRecord (shows old.disk) (shows disk) old.content next old.log_end payload (Ok place)
    → LeavesEdit shows old (record old { disk = disk; content = next; history = longer; log_end = place }) entry (Ok next.version)
leaves_added shows old disk entry longer next payload place prepared sound leaves =
    let bytes : payload ≡ next_record old entry = prepared.record_is.bytes ∙ ap (λ lsn. record_of lsn entry) (version_rises old.content next entry prepared.made) in
    let none = none_in_doubt (shows old.disk) old.content old.doubt old.failed old.log_end prepared.whole sound in
    record {
      any_moment = leaves_weaker leaves.any_moment (with_or_without old entry next none prepared.made);
      sound = subst (λ it. IsSoundAs (shows disk) next old.doubt it place) (sym prepared.whole) (none, leaves.ready);
      written = λ payloads closed. subst (λ it. IsClosedInImages (shows disk) Log0 (payloads ++ it ∷ []) place) bytes (leaves.written payloads closed);
      bytes = leaves.bytes ∙ ap (with_record ((shows old.disk).seen Log0) old.log_end) bytes;
      others = leaves.others;
    }

-- a call of the disk failed
pub leaves_doubted : {D : Type 0} (shows : D → Shown) (old : CoreState D) (disk : D) (entry : Entry) (back : List Entry) (doubt : Option Entry) (count : ℕ) (next : Plain) (payload : List ℕ) → IsPrepared old entry next payload → IsSound shows old → doubt ≡ Some entry
    → LeavesRecord (shows old.disk) (shows disk) old.content next old.log_end payload (Err log.DiskFault)
    → LeavesEdit shows old (record old { disk = disk; history = back; doubt = doubt; failed = Some count }) entry (Err edit.DiskFault)
leaves_doubted shows old disk entry back doubt count next payload prepared sound is leaves =
    let none = none_in_doubt (shows old.disk) old.content old.doubt old.failed old.log_end prepared.whole sound in
    record {
      any_moment = leaves_weaker leaves.any_moment (with_or_without old entry next none prepared.made);
      sound = λ files image. in_doubt old.content entry doubt next is prepared.made files (leaves.images files image);
      written = tt;
      bytes = tt;
      others = leaves.others;
    }
