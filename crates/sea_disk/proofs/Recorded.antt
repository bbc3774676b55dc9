-- A disk in memory that took one writing call more.
use Rattle.std.proofs.Common.{◌≡◌, ◌≢◌, ℕ, ◌+◌, ◌≤◌, List, [], ◌∷◌, length, take, Bool, true, false, refl, sym, ◌∙◌, ap, subst, inl, inr, arith, length-append}
use Rattle.std.specs.Prelude.{if◌then◌else◌}
use Rattle.std.proofs.lemmas.List.{take_all, take-append-le}
use Rattle.std.proofs.lemmas.List.Sums.{fold_push}
use Rattle.std.proofs.lemmas.Bool.{cases_lt, cases_Bool}
use Rattle.sea_disk.specs.declared.file.File.{File}
use Rattle.sea_disk.specs.declared.file.File.TheVariants.{Base0, Base1, Log0, Log1, Arch}
use Rattle.sea_disk.specs.declared.calls.Act.{Act}
use Rattle.sea_disk.specs.declared.calls.Act.TheVariants.{Write, FailedWrite, Cut as CutAct, FailedCut, Sync}
use Rattle.sea_disk.specs.declared.calls.Call.{Call}
use Rattle.sea_disk.specs.declared.calls.Track.{Track}
use Rattle.sea_disk.specs.Shown.{IsSettled}
use Rattle.sea_disk.specs.Calls.{Torn, Cut, OthersStay, Elapses, Turns}
use Rattle.sea_disk.specs.Traced.{is_file, fresh, traced, traced_on, track_of, with_call, IsLeft, shown_of}
use Rattle.sea_disk.specs.TracedLaws.{track_agrees}
use Rattle.sea_disk.proofs.Before.{before_write, before_failed_write, before_cut, before_failed_cut, only_seen}

is_itself : (file : File) → is_file file file ≡ true
is_itself Base0 = refl
is_itself Base1 = refl
is_itself Log0 = refl
is_itself Log1 = refl
is_itself Arch = refl

same_file : (file other : File) → is_file file other ≡ true → file ≡ other
same_file Base0 Base0 is = refl
same_file Base1 Base1 is = refl
same_file Log0 Log0 is = refl
same_file Log1 Log1 is = refl
same_file Arch Arch is = refl
same_file _ _ is = absurd (cc)

is_other : (file other : File) → other ≢ file → is_file file other ≡ false
is_other file other differs = elim (cases_Bool (is_file file other)) [
  | inl is ↦ absurd (differs (sym (same_file file other is)))
  | inr is ↦ is
]

-- the call is one of its file
pub track_same : (calls : List Call) (file : File) (act : Act) → track_of (with_call calls file act) file ≡ traced (track_of calls file) act
track_same calls file act =
    fold_push (traced_on file) fresh calls (record { file = file; act = act })
    ∙ ap (λ (b : Bool). if b then traced (track_of calls file) act else track_of calls file) (is_itself file)

-- and of no other
pub track_other : (calls : List Call) (file : File) (act : Act) (other : File) → other ≢ file → track_of (with_call calls file act) other ≡ track_of calls other
track_other calls file act other differs =
    fold_push (traced_on other) fresh calls (record { file = file; act = act })
    ∙ ap (λ (b : Bool). if b then traced (track_of calls other) act else track_of calls other) (is_other file other differs)

others_stay : (calls : List Call) (file : File) (act : Act) → OthersStay file (shown_of calls) (shown_of (with_call calls file act))
others_stay calls file act = record {
  seen = λ other differs. ap (λ (track : Track). track.seen) (track_other calls file act other differs);
  image = λ other bytes differs now. subst (λ (track : Track). IsLeft track bytes) (track_other calls file act other differs) now;
  kept = λ other bytes differs was. subst (λ (track : Track). IsLeft track bytes) (sym (track_other calls file act other differs)) was;
}

-- one moment more
elapses : (calls : List Call) (file : File) (act : Act) → Elapses (shown_of calls) (shown_of (with_call calls file act))
elapses calls file act = record {
  later = omega (arith, longer);
  nothing_else = λ moment files early was. elim (cases_lt (length calls) was.0) [
    | inl now ↦ inr (λ one. subst (λ (made : List Call). IsLeft (track_of made one) (files one)) (take_all was.0 made (omega (arith, longer, was.1, was.2))) (was.3 one))
    | inr before ↦ inl (was.0, was.1, before, λ one. subst (λ (made : List Call). IsLeft (track_of made one) (files one)) (as_before was.0 before) (was.3 one))
  ];
  keeps = λ moment files early was. (was.0, was.1, omega (arith, longer, was.2), λ one. subst (λ (made : List Call). IsLeft (track_of made one) (files one)) (sym (as_before was.0 was.2)) (was.3 one));
}
  where
    made : List Call
    made = with_call calls file act

    longer : length made ≡ length calls + 1
    longer = length-append calls (record { file = file; act = act } ∷ [])

    as_before : (count : ℕ) → count ≤ length calls → take count made ≡ take count calls
    as_before count early = take-append-le count calls (record { file = file; act = act } ∷ []) early

-- a call on a file whose images come from what might have been left of the file before
turns : (calls : List Call) (file : File) (act : Act) (step : List ℕ → List ℕ → Type 0) → ((bytes : List ℕ) → IsLeft (traced (track_of calls file) act) bytes → (before : List ℕ) × IsLeft (track_of calls file) before × step before bytes) → Turns file step (shown_of calls) (shown_of (with_call calls file act))
turns calls file act step from = record {
  follows = λ bytes now. from bytes (subst (λ (track : Track). IsLeft track bytes) (track_same calls file act) now);
  others = others_stay calls file act;
  time = elapses calls file act;
}

-- ---- nothing recorded

-- a call of which nothing is left
pub turns_idle : (calls : List Call) (file : File) (step : List ℕ → List ℕ → Type 0) → ((bytes : List ℕ) → step bytes bytes) → Turns file step (shown_of calls) (shown_of calls)
turns_idle calls file step stays = record {
  follows = λ bytes now. (bytes, now, stays bytes);
  others = record { seen = λ other differs. refl; image = λ other bytes differs now. now; kept = λ other bytes differs was. was };
  time = record { later = omega arith; nothing_else = λ moment files early was. inl was; keeps = λ moment files early was. was };
}

pub torn_stays : (at n : ℕ) (bytes : List ℕ) → Torn at n bytes bytes
torn_stays at n bytes = record { no_shorter = omega arith; no_longer = omega arith; before = λ m _ _. refl; after = refl }

-- ---- the calls

pub write_turns : (calls : List Call) (file : File) (at : ℕ) (piece : List ℕ) → Turns file (Torn at (length piece)) (shown_of calls) (shown_of (with_call calls file (Write at piece)))
write_turns calls file at piece = turns calls file (Write at piece) (Torn at (length piece)) (λ bytes. before_write (track_of calls file) at piece bytes (track_agrees calls file))

pub failed_write_turns : (calls : List Call) (file : File) (at n : ℕ) → Turns file (Torn at n) (shown_of calls) (shown_of (with_call calls file (FailedWrite at (at + n))))
failed_write_turns calls file at n = turns calls file (FailedWrite at (at + n)) (Torn at n) (λ bytes. before_failed_write (track_of calls file) at n bytes (track_agrees calls file))

pub cut_turns : (calls : List Call) (file : File) (len : ℕ) → Turns file (Cut len) (shown_of calls) (shown_of (with_call calls file (CutAct len)))
cut_turns calls file len = turns calls file (CutAct len) (Cut len) (λ bytes. before_cut (track_of calls file) len bytes (track_agrees calls file))

pub failed_cut_turns : (calls : List Call) (file : File) (len : ℕ) → Turns file (Cut len) (shown_of calls) (shown_of (with_call calls file (FailedCut len)))
failed_cut_turns calls file len = turns calls file (FailedCut len) (Cut len) (λ bytes. before_failed_cut (track_of calls file) len bytes (track_agrees calls file))

pub sync_turns : (calls : List Call) (file : File) → Turns file (λ was now. now ≡ was) (shown_of calls) (shown_of (with_call calls file Sync))
sync_turns calls file = turns calls file Sync (λ was now. now ≡ was) (λ bytes left. (
  (track_of calls file).seen,
  record { size = (track_agrees calls file).size; kept = λ place _ safe none. ((track_agrees calls file).within place safe none).1 },
  only_seen (track_of calls file) bytes left,
))

pub sync_settles : (calls : List Call) (file : File) → IsSettled (shown_of (with_call calls file Sync)) file
sync_settles calls file = λ bytes now. only_seen (track_of calls file) bytes (subst (λ (track : Track). IsLeft track bytes) (track_same calls file Sync) now) ∙ ap (λ (track : Track). track.seen) (sym (track_same calls file Sync))
