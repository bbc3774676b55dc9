-- The laws of a disk in memory: what reads give may stay, and time goes on with each call.
use Rattle.std.specs.Prelude.{◌≡◌, ℕ, ◌+◌, ◌-◌, ◌<◌, ◌≤◌, ◌==◌, ◌&&◌, ◌||◌, min, max, List, [], ◌∷◌, ◌++◌, length, take, drop, fold, replicate, slice_index, Bool, true, false, nat_le, if◌then◌else◌}
use Rattle.std.specs.List.{list_any, list_all}
use Rattle.std.proofs.Common.{refl, sym, ◌∙◌, ap, subst, inl, inr, arith, length-append, get_or}
use Rattle.std.proofs.lemmas.List.{get_or-take, get_or_append_left, get_or-append_right, get_or-drop, take_all, length-take, length-replicate}
use Rattle.std.proofs.lemmas.Bool.{cases_lt}
use Rattle.std.proofs.lemmas.Bool.Decides.{nat_tests}
use Rattle.sea_disk.specs.declared.file.File.{File}
use Rattle.sea_disk.specs.declared.calls.Act.{Act}
use Rattle.sea_disk.specs.declared.calls.Act.TheVariants.{Write, FailedWrite, Cut, FailedCut, Sync}
use Rattle.sea_disk.specs.declared.calls.Call.{Call}
use Rattle.sea_disk.specs.declared.calls.Note.{Note}
use Rattle.sea_disk.specs.declared.calls.Track.{Track}
use Rattle.sea_disk.specs.Shown.{IsDisk}
use Rattle.sea_disk.specs.Calls.{overlaid}
use Rattle.sea_disk.specs.Composition.{length-overlaid}
use Rattle.sea_disk.specs.Traced.{is_file, fresh, noted, traced, traced_on, track_of, touches, sizes, IsLeft, shown_of}

-- ---- tests of a list with one element more

pub any_last : {X : Type 0} (p : X → Bool) (xs : List X) (x : X) → p x ≡ true → list_any p (xs ++ x ∷ []) ≡ true
any_last p [] x passes = ap (λ b. b || false) passes
any_last p (y ∷ ys) x passes = ap (λ b. p y || b) (any_last p ys x passes) ∙ or_true (p y)
  where
    or_true : (b : Bool) → (b || true) ≡ true
    or_true true = refl
    or_true false = refl

pub any_neither : {X : Type 0} (p : X → Bool) (xs : List X) (x : X) → list_any p xs ≡ false → p x ≡ false → list_any p (xs ++ x ∷ []) ≡ false
any_neither p [] x none fails = ap (λ b. b || false) fails
any_neither p (y ∷ ys) x none fails = neither (p y) (list_any p ys) none (λ rest. any_neither p ys x rest fails)
  where
    neither : (a b : Bool) → (a || b) ≡ false → {c : Bool} → (b ≡ false → c ≡ false) → (a || c) ≡ false
    neither true b none rest = none
    neither false b none rest = rest none

pub none_before : {X : Type 0} (p : X → Bool) (xs : List X) (x : X) → list_any p (xs ++ x ∷ []) ≡ false → list_any p xs ≡ false
none_before p [] x none = refl
none_before p (y ∷ ys) x none = before (p y) (list_any p (ys ++ x ∷ [])) none (λ rest. none_before p ys x rest)
  where
    before : (a b : Bool) → (a || b) ≡ false → {c : Bool} → (b ≡ false → c ≡ false) → (a || c) ≡ false
    before true b none rest = none
    before false b none rest = rest none

pub none_last : {X : Type 0} (p : X → Bool) (xs : List X) (x : X) → list_any p (xs ++ x ∷ []) ≡ false → p x ≡ false
none_last p [] x none = first (p x) none
  where
    first : (a : Bool) → (a || false) ≡ false → a ≡ false
    first true none = none
    first false none = refl
none_last p (y ∷ ys) x none = none_last p ys x (rest (p y) (list_any p (ys ++ x ∷ [])) none)
  where
    rest : (a b : Bool) → (a || b) ≡ false → b ≡ false
    rest true b none = absurd (cc)
    rest false b none = none

pub all_last : {X : Type 0} (p : X → Bool) (xs : List X) (x : X) → list_all p xs ≡ true → p x ≡ true → list_all p (xs ++ x ∷ []) ≡ true
all_last p [] x all passes = ap (λ b. b && true) passes
all_last p (y ∷ ys) x all passes = both (p y) (list_all p ys) all (λ rest. all_last p ys x rest passes)
  where
    both : (a b : Bool) → (a && b) ≡ true → {c : Bool} → (b ≡ true → c ≡ true) → (a && c) ≡ true
    both true b all rest = rest all
    both false b all rest = all

-- ---- what reads give may stay

-- each note's sizes are some
abbrev pub is_ordered : Note → Bool
is_ordered note = nat_le note.least note.most

-- What reads give of a file agrees with what is safe of it.
pub record Agrees (track : Track) : Type 0 where
  pub size : ((length track.seen == length track.safe) || list_any (sizes (length track.seen)) track.since) ≡ true
  pub within : (place : ℕ) → place < length track.safe → list_any (touches place) track.since ≡ false → (place < length track.seen) × (slice_index track.seen place ≡ slice_index track.safe place)
  pub ordered : list_all is_ordered track.since ≡ true

-- at a place that a call doesn't touch, reads give what they gave
abbrev pub Elsewhere : List ℕ → List ℕ → Note → Type 0
Elsewhere old new note = (place : ℕ) → place < length old → touches place note ≡ false → (place < length new) × (slice_index new place ≡ slice_index old place)

fresh_agrees : Agrees fresh
fresh_agrees = record { size = refl; within = λ place short _. absurd (omega arith); ordered = refl }

noted_agrees : (track : Track) (seen : List ℕ) (note : Note) → Agrees track → note.least ≤ length seen → length seen ≤ note.most → Elsewhere track.seen seen note → Agrees (noted track seen note)
noted_agrees track seen note agrees least most elsewhere = record {
  size = ap (λ b. (length seen == length track.safe) || b) (any_last (sizes (length seen)) track.since note among) ∙ or_true (length seen == length track.safe);
  within = λ place safe none.
      let was = agrees.within place safe (none_before (touches place) track.since note none) in
      let now = elsewhere place was.0 (none_last (touches place) track.since note none) in
      (now.0, now.1 ∙ was.1);
  ordered = all_last is_ordered track.since note agrees.ordered in_order;
}
  where
    among : sizes (length seen) note ≡ true
    among = grind (arith, nat_tests)

    in_order : is_ordered note ≡ true
    in_order = grind (arith, nat_tests)

    or_true : (b : Bool) → (b || true) ≡ true
    or_true true = refl
    or_true false = refl

stays_elsewhere : (seen : List ℕ) (note : Note) → Elsewhere seen seen note
stays_elsewhere seen note = λ place within _. (within, refl)

overlaid_elsewhere : (old : List ℕ) (at : ℕ) (piece : List ℕ) (least most : ℕ) → Elsewhere old (overlaid old at piece) (record { from = at; to = at + length piece; least = least; most = most })
overlaid_elsewhere old at piece least most = λ place within untouched. (
  omega (arith, length-overlaid old at piece),
  elim (cases_lt place at) [
    | inl before ↦ in_front place within before
    | inr behind ↦ at_back place within behind (grind (arith, nat_tests))
  ],
)
  where
    zeros : List ℕ
    zeros = replicate (at - length old) 0

    front : List ℕ
    front = take at old ++ zeros

    in_front : (place : ℕ) → place < length old → place < at → get_or (overlaid old at piece) place 0 ≡ get_or old place 0
    in_front place within before =
        let taken : place < length (take at old) = omega (arith, length-take at old) in
        let fronted : place < length front = omega (arith, length-append (take at old) zeros) in
        let pieced : place < length (front ++ piece) = omega (arith, length-append front piece) in
        get_or_append_left (front ++ piece) (drop (at + length piece) old) 0 place pieced
        ∙ get_or_append_left front piece 0 place fronted
        ∙ get_or_append_left (take at old) zeros 0 place taken
        ∙ get_or-take at old place 0 before

    at_back : (place : ℕ) → place < length old → at ≤ place → at + length piece ≤ place → get_or (overlaid old at piece) place 0 ≡ get_or old place 0
    at_back place within behind past =
        let size : length (front ++ piece) ≡ at + length piece = omega (arith, length-append front piece, length-append (take at old) zeros, length-take at old, length-replicate {A = ℕ} (at - length old) 0) in
        let place_is : (at + length piece) + (place - (at + length piece)) ≡ place = omega arith in
        get_or-append_right (front ++ piece) (drop (at + length piece) old) (at + length piece) place 0 size past
        ∙ get_or-drop (at + length piece) old (place - (at + length piece)) 0
        ∙ ap (λ (n : ℕ). get_or old n 0) place_is

cut_elsewhere : (old : List ℕ) (len least most : ℕ) → Elsewhere old (take len old) (record { from = len; to = length old; least = least; most = most })
cut_elsewhere old len least most = λ place within fails.
    let below : place < len = grind (arith, nat_tests) in
    (omega (arith, length-take len old), get_or-take len old place 0 below)

traced_agrees : (track : Track) (act : Act) → Agrees track → Agrees (traced track act)
traced_agrees track (Write at bytes) agrees =
    let seen = overlaid track.seen at bytes in
    noted_agrees track seen (record { from = at; to = at + length bytes; least = length seen; most = length seen }) agrees (omega arith) (omega arith) (overlaid_elsewhere track.seen at bytes (length seen) (length seen))
traced_agrees track (FailedWrite at to) agrees =
    let note : Note = record { from = at; to = to; least = length track.seen; most = max (length track.seen) to } in
    noted_agrees track track.seen note agrees (omega arith) (omega arith) (stays_elsewhere track.seen note)
traced_agrees track (Cut len) agrees =
    let seen = take len track.seen in
    noted_agrees track seen (record { from = len; to = length track.seen; least = length seen; most = length seen }) agrees (omega arith) (omega arith) (cut_elsewhere track.seen len (length seen) (length seen))
traced_agrees track (FailedCut len) agrees =
    let note : Note = record { from = len; to = length track.seen; least = min (length track.seen) len; most = length track.seen } in
    noted_agrees track track.seen note agrees (omega arith) (omega arith) (stays_elsewhere track.seen note)
traced_agrees track Sync agrees = record { size = same (length track.seen); within = λ place safe _. (safe, refl); ordered = refl }
  where
    same : (n : ℕ) → ((n == n) || false) ≡ true
    same n = grind (arith, nat_tests)

fold_agrees : (file : File) (calls : List Call) (track : Track) → Agrees track → Agrees (fold (traced_on file) track calls)
fold_agrees file [] track agrees = agrees
fold_agrees file (call ∷ calls) track agrees = fold_agrees file calls (traced_on file track call) (either (is_file call.file file))
  where
    either : (b : Bool) → Agrees (if b then traced track call.act else track)
    either true = traced_agrees track call.act agrees
    either false = agrees

pub track_agrees : (calls : List Call) (file : File) → Agrees (track_of calls file)
track_agrees calls file = fold_agrees file calls fresh fresh_agrees

-- ---- the law of disks

pub shown_is_disk : (calls : List Call) → IsDisk (shown_of calls)
shown_is_disk calls = record {
  seen_may_stay = λ file. let agrees = track_agrees calls file in record { size = agrees.size; kept = λ place _ safe none. (agrees.within place safe none).1 };
  counts_now = λ moment files early image. (length calls, early, omega arith, λ file. subst (λ (made : List Call). IsLeft (track_of made file) (files file)) (sym (take_all (length calls) calls (omega arith))) (image file));
  only_now = λ files was file. subst (λ (made : List Call). IsLeft (track_of made file) (files file)) (take_all was.0 calls was.1) (was.3 file);
}
