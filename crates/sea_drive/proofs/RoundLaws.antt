-- One round of a played script after another.
use Rattle.std.proofs.Common.{◌≡◌, ℕ, ◌≤◌, List, [], ◌∷◌, ◌++◌, length, take, All, Bool, true, false, ◌||◌, Option, Some, None, IfSome, is_none, refl, sym, ap, subst, ◌∙◌, append-nil, inl, inr, arith}
use Rattle.std.specs.Io.KnownBytes.{Appends, IsAtEnd}
use Rattle.std.proofs.lemmas.List.Elements.{All-append, All-nil, All-from_recursion}
use Rattle.std.proofs.KnownBytes.{Appends-trans, Appends-nil}
use Rattle.sea_disk.specs.Shown.{Files, Shown, IsDisk}
use Rattle.sea_disk.specs.Runs.{Leaves}
use Rattle.sea_disk.specs.Composition.{leaves_weaker, leaves_then}
use Rattle.sea_operation.specs.declared.base.Plain.{Plain}
use Rattle.sea_core.specs.declared.limits.Limits.{Limits}
use Rattle.sea_core.specs.declared.fault.StartFault.{StartFault}
use Rattle.sea_core.specs.declared.fault.StartFault.TheVariants as start
use Rattle.sea_core.specs.Events.{Starts, Refuses}
use Rattle.sea_core.specs.Sound.{IsSound, StandsForCore}
use Rattle.sea_core.specs.Stands.{StandsFor, KeepsStanding}
use Rattle.sea_core.specs.State.{CoreState, Known}
use Rattle.sea_lines.specs.Lines.{Place, lines_of, line_limit, input_limit, PassesLimit, BreaksOff, HasRead, HasReadTold, HasReadTo, ReadsTold, ReadsLine}
use Rattle.sea_drive.specs.Outcome.{start_outcome, is_disk_fault}
use Rattle.sea_drive.specs.Play.{replies, ran_out_of_memory, disk_failed, last_core, Run, Script, RunsTo, StandsForSome, StandsInScript, IsPlayed, IsWritten, IsCut, IsFinished, IsRefused, SaysOf, Ends, Goes, WritesPiece, end_status, fault_status, start_status}
use Rattle.sea_drive.specs.Reply.{reply_line}
use Rattle.sea_drive.specs.Rounds.{PlaysOn, Rounds, WritesRefusal}
use Rattle.sea_drive.specs.Setting.{Setting, Tape, tape}
use Rattle.sea_drive.specs.Steps.{LineStep}
use Rattle.sea_drive.specs.declared.line.Played.TheVariants.{On as GoesOn, Refused}
use Rattle.sea_drive.specs.declared.outcome.LineOutcome.{LineOutcome}
use Rattle.sea_drive.specs.declared.status.Status.{Status}
use Rattle.sea_drive.specs.declared.status.Status.TheVariants as status
use Rattle.sea_lines.specs.declared.reader.ReadFault.{ReadFault}
use Rattle.sea_lines.specs.declared.reader.ReadFault.TheVariants as fault
use Rattle.sea_drive.specs.declared.round.Player.{Player}
use Rattle.sea_drive.specs.declared.round.Round.{Round}
use Rattle.sea_drive.specs.declared.round.Round.TheVariants.{On, End}
use Rattle.sea_lines.specs.Inputs.{HasReadTo-none, HasReadTo-line, HasReadTo-end, HasReadTo-within, behind}
use Rattle.sea_drive.proofs.PlayLaws.{replies-push, ran_out_of_memory-push, disk_failed-push}
use Rattle.sea_drive.proofs.StandsLaws.{StaysSound, line_sound, line_refused, refused_leaves, sound_found}

-- ---- cores, one after another

last_core-push : {D : Type 0} (first : CoreState D) (cores : List (CoreState D)) (next : CoreState D) → last_core first (cores ++ next ∷ []) ≡ next
last_core-push first [] next = refl
last_core-push first (core ∷ cores) next = last_core-push core cores next

some_more : {D : Type 0} (first : CoreState D) (cores : List (CoreState D)) (next : CoreState D) (files : Files) → StandsForSome first cores files → StandsForSome first (cores ++ next ∷ []) files
some_more first [] next files stands = inl stands
some_more first (core ∷ cores) next files (inl stands) = inl stands
some_more first (core ∷ cores) next files (inr stands) = inr (some_more core cores next files stands)

some_last : {D : Type 0} (first : CoreState D) (cores : List (CoreState D)) (files : Files) → StandsForCore (last_core first cores) files → StandsForSome first cores files
some_last first [] files stands = stands
some_last first (core ∷ cores) files stands = inr (some_last core cores files stands)

some_new : {D : Type 0} (first : CoreState D) (cores : List (CoreState D)) (next : CoreState D) (files : Files) → StandsForCore next files → StandsForSome first (cores ++ next ∷ []) files
some_new first [] next files stands = inr stands
some_new first (core ∷ cores) next files stands = inr (some_new core cores next files stands)

module _ {D : Type 0} (set : Setting D) where
  -- a run, and one line more
  run_more : (first : CoreState D) (cores : List (CoreState D)) (lines : List (List ℕ)) (results : List (Option LineOutcome)) (line : List ℕ) (result : Option LineOutcome) (next : CoreState D) → Run set first lines results cores → LineStep set (last_core first cores) line (GoesOn result next) → Run set first (lines ++ line ∷ []) (results ++ result ∷ []) (cores ++ next ∷ [])
  run_more first [] [] [] line result next run step = (step, tt)
  run_more first (core ∷ cores) (_ ∷ lines) (_ ∷ results) line result next run step = (run.0, run_more core cores lines results line result next run.1 step)
  run_more first [] [] (_ ∷ _) line result next run step = absurd run
  run_more first [] (_ ∷ _) [] line result next run step = absurd run
  run_more first [] (_ ∷ _) (_ ∷ _) line result next run step = absurd run
  run_more first (_ ∷ _) [] [] line result next run step = absurd run
  run_more first (_ ∷ _) [] (_ ∷ _) line result next run step = absurd run
  run_more first (_ ∷ _) (_ ∷ _) [] line result next run step = absurd run

-- ---- where a script begins

module _ {D : Type 0} (set : Setting D) (law : (disk : D) → IsDisk (set.disk.shows disk)) (limits : Limits) (disk : D) where
  -- before the first line
  pub goes_first : (left taken : Option (List ℕ)) (place : Place) (core : CoreState D) → place.rest ≡ left → place.read ≡ 0 → Starts set.disk disk limits core → Goes set limits disk (tape left left taken taken) place (record { core = core; ran_out_of_memory = false; disk_failed = false })
  goes_first left taken place core rest read starts = record {
    lines = [];
    results = [];
    first = core;
    cores = [];
    read = subst (λ (input : Option (List ℕ)). HasReadTo input [] place) rest (HasReadTo-none place read);
    short = All-nil _;
    start = starts;
    run = tt;
    last = refl;
    any_moment = λ is. leaves_weaker (starts.any_moment is) (λ files keeps. inl keeps);
    sound = starts.sound;
    written = Appends-nil taken;
    memory = refl;
    faults = refl;
  }

  -- nothing is done, and the files stand for the same
  keeps_idle : Leaves (set.disk.shows disk) (set.disk.shows disk) (KeepsStanding (set.disk.shows disk))
  keeps_idle = record {
    later = omega arith;
    each = λ files was. (files, (law disk).only_now files was, record { there = λ base stands. stands; back = λ base stands. stands });
    before = λ moment files early was. inl was;
  }

  -- no memory for the reader
  pub ends_first : (input left taken : Option (List ℕ)) → Ends status.Memory set limits disk disk (tape input left taken taken)
  ends_first input left taken = inr (record {
    fault = start.Memory;
    says = refl;
    start = record {
      no_base = λ is none. absurd (cc);
      any_moment = λ is. keeps_idle;
      arch = λ is. record { seen = refl; image = λ bytes now. now };
      faults = refl;
      failed = omega arith;
    };
    nothing = Appends-nil taken;
  })

  -- the first start was refused
  pub ends_unstarted : (input left taken : Option (List ℕ)) (fault : StartFault) (back : D) → Refuses set.disk disk fault back → Ends (start_status fault) set limits disk back (tape input left taken taken)
  ends_unstarted input left taken fault back refuses = inr (record { fault = fault; says = refl; start = refuses; nothing = Appends-nil taken })

  -- ---- one round

  module _ (input before taken given : Option (List ℕ)) (old : Place) (player : Player D) (so_far : Goes set limits disk (tape input before taken given) old player) where
    -- the run so far ends with the core
    step_from : (line : List ℕ) (result : Option LineOutcome) (next : CoreState D) → LineStep set player.core line (GoesOn result next) → LineStep set (last_core so_far.first so_far.cores) line (GoesOn result next)
    step_from line result next step = subst (λ (from : CoreState D). LineStep set from line (GoesOn result next)) so_far.last step

    -- the script so far, as one that ends here
    abbrev ends_here : List (List ℕ) → Script D
    ends_here more = record { lines = so_far.lines; more = more; results = so_far.results; first = so_far.first; cores = so_far.cores; refusal = None }

    played_so_far : (more : List (List ℕ)) → IfSome input (λ bytes. lines_of bytes ≡ so_far.lines ++ more) → IsPlayed set limits disk player.core.disk input (ends_here more)
    played_so_far more split = record {
      split = split;
      short = so_far.short;
      start = so_far.start;
      run = (so_far.run, ap (λ (one : CoreState D). one.disk) so_far.last);
      any_moment = so_far.any_moment;
      sound = λ is. subst (λ (one : CoreState D). IsSound set.disk.shows one) so_far.last (so_far.sound is);
    }

    -- a line within its limit
    abbrev fits : List ℕ → Type 0
    fits line = length line ≤ line_limit

    module _ (new : Place) (line : List ℕ) (read : ReadsLine old new (Some line)) (now : Option (List ℕ)) where
      -- the lines so far and this one, and those behind them
      lines_behind : (more : List (List ℕ)) × IfSome input (λ bytes. lines_of bytes ≡ (so_far.lines ++ line ∷ []) ++ more)
      lines_behind = behind input new.rest (so_far.lines ++ line ∷ []) new.read (HasReadTo-line input so_far.lines line old new so_far.read read)

      -- none of them passes its limit
      all_short : length line ≤ line_limit → All fits (so_far.lines ++ line ∷ [])
      all_short short = All-append fits so_far.lines (line ∷ []) so_far.short (All-from_recursion fits (line ∷ []) (short, tt))

      module _ (result : Option LineOutcome) (next : CoreState D) (step : LineStep set player.core line (GoesOn result next)) where
        abbrev more_cores : List (CoreState D)
        more_cores = so_far.cores ++ next ∷ []

        run_with : Run set so_far.first (so_far.lines ++ line ∷ []) (so_far.results ++ result ∷ []) more_cores
        run_with = run_more set so_far.first so_far.cores so_far.lines so_far.results line result next so_far.run (step_from line result next step)

        stays : set.disk.told → StaysSound set law player.core next
        stays is = line_sound set law player.core next line result step is (so_far.sound is)

        leaves_with : set.disk.told → Leaves (set.disk.shows disk) (set.disk.shows next.disk) (StandsInScript (set.disk.shows disk) so_far.first more_cores)
        leaves_with is = leaves_then
            (leaves_weaker (so_far.any_moment is) (λ files stands. elim stands [ inl keeps ↦ inl keeps | inr some ↦ inr (some_more so_far.first so_far.cores next files some) ]))
            (leaves_weaker (stays is).leaves (λ files stands. elim stands [
              | inl was ↦ inr (some_more so_far.first so_far.cores next files (some_last so_far.first so_far.cores files (subst (λ (one : CoreState D). StandsForCore one files) so_far.last was)))
              | inr is_new ↦ inr (some_new so_far.first so_far.cores next files is_new)
            ]))

        -- the line was played, and its reply given
        goes_more : (after : Option (List ℕ)) (out_of_memory failed : Bool) → length line ≤ line_limit → out_of_memory ≡ (player.ran_out_of_memory || is_none result) → failed ≡ (player.disk_failed || is_disk_fault result) → Appends given now (reply_line result)
            → Goes set limits disk (tape input after taken now) new (record { core = next; ran_out_of_memory = out_of_memory; disk_failed = failed })
        goes_more after out_of_memory failed short memory faults writes = record {
          lines = so_far.lines ++ line ∷ [];
          results = so_far.results ++ result ∷ [];
          first = so_far.first;
          cores = more_cores;
          read = HasReadTo-line input so_far.lines line old new so_far.read read;
          short = all_short short;
          start = so_far.start;
          run = run_with;
          last = sym (last_core-push so_far.first so_far.cores next);
          any_moment = leaves_with;
          sound = λ is. (stays is).sound;
          written = rw (replies-push so_far.results result) (Appends-trans taken given now (replies so_far.results) (reply_line result) so_far.written writes);
          memory = memory ∙ ap (λ (b : Bool). b || is_none result) so_far.memory ∙ sym (ran_out_of_memory-push so_far.results result);
          faults = faults ∙ ap (λ (b : Bool). b || is_disk_fault result) so_far.faults ∙ sym (disk_failed-push so_far.results result);
        }

        -- the line was played, and a front of its reply given
        cut_more : (left : Option (List ℕ)) (count : ℕ) → length line ≤ line_limit → Appends given now (take count (reply_line result)) → (script : Script D) × IsPlayed set limits disk next.disk input script × IsCut (tape input left taken now) script
        cut_more left count short writes = (
          record { lines = so_far.lines ++ line ∷ []; more = lines_behind.0; results = so_far.results ++ result ∷ []; first = so_far.first; cores = more_cores; refusal = None },
          record {
            split = lines_behind.1;
            short = all_short short;
            start = so_far.start;
            run = (run_with, ap (λ (one : CoreState D). one.disk) (sym (last_core-push so_far.first so_far.cores next)));
            any_moment = leaves_with;
            sound = λ is. subst (λ (one : CoreState D). IsSound set.disk.shows one) (sym (last_core-push so_far.first so_far.cores next)) (stays is).sound;
          },
          record { earlier = so_far.results; final = result ∷ []; one = omega arith; all = refl; count = count; written = Appends-trans taken given now (replies so_far.results) _ so_far.written (rw (append-nil (reply_line result)) writes) },
        )

        -- the line was played, and its reply couldn't be given whole
        ends_cut : (ending : Status) (left : Option (List ℕ)) → length line ≤ line_limit → WritesPiece (Some ending) (reply_line result) given now → Ends ending set limits disk next.disk (tape input left taken now)
        ends_cut status.Memory left short writes = let (script, played, cut) = cut_more left 0 short writes in inl (script, played, inr (inr cut))
        ends_cut status.SinkFault left short writes = let (script, played, cut) = cut_more left writes.0 short writes.1 in inl (script, played, cut)
        ends_cut status.Done left short writes = absurd writes
        ends_cut status.Usage left short writes = absurd writes
        ends_cut status.SourceFault left short writes = absurd writes
        ends_cut status.DiskFault left short writes = absurd writes
        ends_cut status.NotABase left short writes = absurd writes
        ends_cut status.TooLong left short writes = absurd writes

      module _ (why : StartFault) (back : D) (step : LineStep set player.core line (Refused why back)) where
        abbrev refused_script : Script D
        refused_script = record { lines = so_far.lines ++ line ∷ []; more = lines_behind.0; results = so_far.results ++ start_outcome why ∷ []; first = so_far.first; cores = so_far.cores; refusal = Some why }

        -- the reopening was refused, and left what the last core stands for
        played_refused : length line ≤ line_limit → IsPlayed set limits disk back input refused_script
        played_refused short = record {
          split = lines_behind.1;
          short = all_short short;
          start = so_far.start;
          run = (so_far.lines, line, so_far.results, refl, refl, so_far.run, subst (λ (from : CoreState D). LineStep set from line (Refused why back)) so_far.last step);
          any_moment = λ is. leaves_then
              (so_far.any_moment is)
              (leaves_weaker (refused_leaves set law player.core why back (line_refused set law player.core line why back step) is (so_far.sound is))
              (λ files stands. inr (some_last so_far.first so_far.cores files (subst (λ (one : CoreState D). StandsForCore one files) so_far.last stands))));
          sound = λ is. subst (λ (one : CoreState D). IsSound set.disk.shows one) so_far.last (so_far.sound is);
        }

        written_whole : Appends given now (reply_line (start_outcome why)) → Appends taken now (replies (so_far.results ++ start_outcome why ∷ []))
        written_whole writes = rw (replies-push so_far.results (start_outcome why)) (Appends-trans taken given now (replies so_far.results) (reply_line (start_outcome why)) so_far.written writes)

        cut_refused : (left : Option (List ℕ)) (count : ℕ) → Appends given now (take count (reply_line (start_outcome why))) → IsCut (tape input left taken now) refused_script
        cut_refused left count writes = record { earlier = so_far.results; final = start_outcome why ∷ []; one = omega arith; all = refl; count = count; written = Appends-trans taken given now (replies so_far.results) _ so_far.written (rw (append-nil (reply_line (start_outcome why))) writes) }

        says_refused : (fault : StartFault) (script : Script D) (left : Option (List ℕ)) → script.refusal ≡ Some fault → IsWritten (tape input left taken now) script → SaysOf (start_status fault) (tape input left taken now) script
        says_refused start.Memory script left refused written = inr (inl (refused, written))
        says_refused start.DiskFault script left refused written = inr (refused, written)
        says_refused start.NotABase script left refused written = (refused, written)

        ends_refused : (ending : Status) (left : Option (List ℕ)) → length line ≤ line_limit → WritesRefusal why ending given now → Ends ending set limits disk back (tape input left taken now)
        ends_refused ending left short (inl (says, writes)) = subst (λ (one : Status). Ends one set limits disk back (tape input left taken now)) (sym says) (inl (refused_script, played_refused short, says_refused why refused_script left refl (written_whole writes)))
        ends_refused status.Memory left short (inr writes) = inl (refused_script, played_refused short, inr (inr (cut_refused left 0 writes)))
        ends_refused status.SinkFault left short (inr writes) = inl (refused_script, played_refused short, cut_refused left writes.0 writes.1)
        ends_refused status.Done left short (inr writes) = absurd writes
        ends_refused status.Usage left short (inr writes) = absurd writes
        ends_refused status.SourceFault left short (inr writes) = absurd writes
        ends_refused status.DiskFault left short (inr writes) = absurd writes
        ends_refused status.NotABase left short (inr writes) = absurd writes
        ends_refused status.TooLong left short (inr writes) = absurd writes

      -- the line was played, and its reply written as far as that went
      pub round_plays : length line ≤ line_limit → (round : Round D) (left : Option (List ℕ)) → PlaysOn set player line round given now → Rounds set limits disk (tape input left taken now) new round
      round_plays short (On next) left (result, step, memory, faults, writes) = goes_more result next.core step left next.ran_out_of_memory next.disk_failed short memory faults writes
      round_plays short (End ending back) left (inl (result, next, step, same, writes)) = subst (λ (one : D). Ends ending set limits disk one (tape input left taken now)) (sym same) (ends_cut result next step ending left short writes)
      round_plays short (End ending back) left (inr (why, step, writes)) = ends_refused why back step ending left short writes

    -- no line is left
    finished : (new : Place) (left : Option (List ℕ)) → ReadsLine old new None → old.read ≤ input_limit → ((bytes : List ℕ) → new.rest ≡ Some bytes → bytes ≡ [] → IsAtEnd left) → IsPlayed set limits disk player.core.disk input (ends_here []) × IsFinished (tape input left taken given) (ends_here [])
    finished new left next within at_end =
        let all = HasReadTo-end input so_far.lines old new so_far.read next in (
          played_so_far [] (no_more input so_far.lines all),
          record { ended = ended input old.rest new.rest so_far.lines so_far.read next at_end; whole = nothing input; within = HasReadTo-within input so_far.lines old new so_far.read next so_far.short within; reopened = refl; written = so_far.written },
        )
      where
        no_more : (from : Option (List ℕ)) (lines : List (List ℕ)) → IfSome from (λ bytes. lines_of bytes ≡ lines) → IfSome from (λ bytes. lines_of bytes ≡ lines ++ [])
        no_more None lines h = tt
        no_more (Some bytes) lines h = h ∙ sym (append-nil lines)

        none : List (List ℕ)
        none = []

        nothing : (from : Option (List ℕ)) → IfSome from (λ _. none ≡ [])
        nothing None = tt
        nothing (Some _) = refl

        ended : (from before now : Option (List ℕ)) (lines : List (List ℕ)) → HasReadTold from lines old.read before → ReadsTold old.read new.read before now None → ((bytes : List ℕ) → now ≡ Some bytes → bytes ≡ [] → IsAtEnd left) → IfSome from (λ _. IsAtEnd left)
        ended None before now lines h k f = tt
        ended (Some _) None now lines h k f = absurd h
        ended (Some _) (Some _) None lines h k f = absurd k
        ended (Some _) (Some _) (Some bytes) lines h k f = f bytes refl k.1

    pub round_ends : (new : Place) (left : Option (List ℕ)) → ReadsLine old new None → old.read ≤ input_limit → ((bytes : List ℕ) → new.rest ≡ Some bytes → bytes ≡ [] → IsAtEnd left) → Ends (end_status player.ran_out_of_memory player.disk_failed) set limits disk player.core.disk (tape input left taken given)
    round_ends new left next within at_end =
        let (played, done) = finished new left next within at_end in
        inl (ends_here [], played, by_flags player.ran_out_of_memory player.disk_failed done so_far.memory so_far.faults)
      where
        by_flags : (memory failed : Bool) → IsFinished (tape input left taken given) (ends_here []) → memory ≡ ran_out_of_memory so_far.results → failed ≡ disk_failed so_far.results → SaysOf (end_status memory failed) (tape input left taken given) (ends_here [])
        by_flags memory true done out faults = inl (done, sym faults)
        by_flags true false done out faults = inl (done, sym faults, sym out)
        by_flags false false done out faults = (done, sym faults, sym out)

    -- the next line can't be read
    pub round_fails : (why : ReadFault) (left : Option (List ℕ)) → (why ≡ fault.TooLong → IfSome old.rest (λ rest. PassesLimit old.read rest)) → (why ≡ fault.Source → BreaksOff old.rest left)
        → Ends (fault_status why) set limits disk player.core.disk (tape input left taken given)
    round_fails fault.Memory left long broken =
        let (more, split) = behind input old.rest so_far.lines old.read so_far.read in
        inl (ends_here more, played_so_far more split, inr (inr (record { earlier = so_far.results; final = []; one = omega arith; all = sym (append-nil so_far.results); count = 0; written = rw (append-nil (replies so_far.results)) so_far.written })))
    round_fails fault.Source left long broken =
        let (more, split) = behind input old.rest so_far.lines old.read so_far.read in
        inl (ends_here more, played_so_far more split, (so_far.written, refl, breaks input old.rest so_far.read (broken refl)))
      where
        breaks : (from rest : Option (List ℕ)) → HasReadTold from so_far.lines old.read rest → BreaksOff rest left → IfSome from (λ bytes. (read : ℕ) × (behind : List ℕ) × HasRead bytes so_far.lines read behind × BreaksOff (Some behind) left)
        breaks None rest h off = tt
        breaks (Some _) None h off = absurd h
        breaks (Some _) (Some bytes) h off = (old.read, bytes, h, off)
    round_fails fault.TooLong left long broken =
        let (more, split) = behind input old.rest so_far.lines old.read so_far.read in
        inl (ends_here more, played_so_far more split, (so_far.written, refl, passes input old.rest so_far.read (long refl)))
      where
        passes : (from rest : Option (List ℕ)) → HasReadTold from so_far.lines old.read rest → IfSome rest (λ bytes. PassesLimit old.read bytes) → IfSome from (λ bytes. (read : ℕ) × (behind : List ℕ) × HasRead bytes so_far.lines read behind × PassesLimit read behind)
        passes None rest h over = tt
        passes (Some _) None h over = absurd h
        passes (Some _) (Some bytes) h over = (old.read, bytes, h, over)

-- the same ending, where status and disk are written in another way
pub ends_as : {D : Type 0} (set : Setting D) (limits : Limits) (disk : D) (one other : Status) (first second : D) (tape : Tape) → one ≡ other → first ≡ second → Ends one set limits disk first tape → Ends other set limits disk second tape
ends_as set limits disk one other first second tape same back ends =
    subst (λ (status : Status). Ends status set limits disk second tape) same (subst (λ at. Ends one set limits disk at tape) back ends)

-- ---- files that stand for no base

module _ {D : Type 0} (set : Setting D) (law : (disk : D) → IsDisk (set.disk.shows disk)) (limits : Limits) (disk back : D) (tape : Tape) where
  -- a reopening never finds that there is no base
  found_again : (script : Script D) → IsPlayed set limits disk back tape.input script → IsRefused start.NotABase tape script → set.disk.told → ⊥
  found_again script played (refused, written) is = by_refusal (subst (λ (refusal : Option StartFault). RunsTo set script back refusal) refused played.run)
    where
      by_refusal : RunsTo set script back (Some start.NotABase) → ⊥
      by_refusal (lines, line, results, _, _, _, step) = sound_found set law (last_core script.first script.cores) start.NotABase back (line_refused set law (last_core script.first script.cores) line start.NotABase back step) is (played.sound is) refl

  -- only where what is read first stands for no base is the status that it doesn't
  pub no_base_at_first : Ends status.NotABase set limits disk back tape → set.disk.told → (base : Plain) → ¬ StandsFor base (set.disk.shows disk).seen
  no_base_at_first (inl (script, played, says)) is base = absurd (found_again script played says is)
  no_base_at_first (inr unstarted) is base = unstarted.start.no_base is (by_status unstarted.fault unstarted.says) base
    where
      by_status : (fault : StartFault) → status.NotABase ≡ start_status fault → fault ≡ start.NotABase
      by_status start.Memory says = absurd (cc)
      by_status start.DiskFault says = absurd (cc)
      by_status start.NotABase says = refl
