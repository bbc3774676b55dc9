-- Whatever a stop may leave of a file after a call is what the call, whole or torn, makes of something that a stop might
-- have left before it.
use Rattle.std.proofs.Common.{◌≡◌, ◌⊎◌, ℕ, ◌+◌, ◌<◌, ◌≤◌, min, max, List, [], ◌∷◌, ◌++◌, length, map, take, drop, get_or, Bool, true, false, refl, sym, ◌∙◌, ap, inl, inr, arith}
use Rattle.std.specs.Prelude.{◌==◌, ◌&&◌, ◌||◌, not, nat_le, nat_lt, if◌then◌else◌}
use Rattle.std.specs.List.{list_any, range_with_len}
use Rattle.std.proofs.lemmas.List.{ext_get_or, get_or-take, get_or-drop, length-take, length-drop}
use Rattle.std.proofs.lemmas.List.FromFn.{length-map-range_with_len, get_or-map-range_with_len}
use Rattle.std.proofs.lemmas.Bool.Decides.{nat_tests}
use Rattle.sea_disk.specs.declared.calls.Act.TheVariants.{Write, FailedWrite, Cut as CutAct, FailedCut, Sync}
use Rattle.sea_disk.specs.declared.calls.Note.{Note}
use Rattle.sea_disk.specs.declared.calls.Track.{Track}
use Rattle.sea_disk.specs.Calls.{overlaid, Torn, Cut}
use Rattle.sea_disk.specs.Traced.{noted, traced, touches, sizes, IsLeft}
use Rattle.sea_disk.specs.Composition.{length-overlaid}
use Rattle.sea_disk.specs.TracedLaws.{Agrees, any_neither}

-- bytes of this length: those of one list where a test holds, and those of another elsewhere
abbrev mixed : (ℕ → Bool) → List ℕ → List ℕ → ℕ → List ℕ
mixed keeps bytes safe size = map (λ place. if keeps place then get_or bytes place 0 else get_or safe place 0) (range_with_len 0 size)

length-mixed : (keeps : ℕ → Bool) (bytes safe : List ℕ) (size : ℕ) → length (mixed keeps bytes safe size) ≡ size
length-mixed keeps bytes safe size = length-map-range_with_len _ 0 size

get_or-mixed : (keeps : ℕ → Bool) (bytes safe : List ℕ) (size place : ℕ) → place < size → get_or (mixed keeps bytes safe size) place 0 ≡ (if keeps place then get_or bytes place 0 else get_or safe place 0)
get_or-mixed keeps bytes safe size place within = get_or-map-range_with_len (λ (place : ℕ). if keeps place then get_or bytes place 0 else get_or safe place 0) 0 size place place 0 within (omega arith)

chosen : (b : Bool) (x y z : ℕ) → (b ≡ true → x ≡ z) → y ≡ z → (if b then x else y) ≡ z
chosen true x y z kept other = kept refl
chosen false x y z kept other = other

-- a size that a stop may leave
abbrev MayHave : Track → ℕ → Type 0
MayHave track size = ((size == length track.safe) || list_any (sizes size) track.since) ≡ true

-- a size after one call more is one from before or one of that call
size_cases : (track : Track) (seen : List ℕ) (note : Note) (size : ℕ) → MayHave (noted track seen note) size → MayHave track size ⊎ ((note.least ≤ size) × (size ≤ note.most))
size_cases track seen note size may = elim (either (size == length track.safe) (list_any (sizes size) track.since) (list_any (sizes size) (track.since ++ note ∷ [])) may (last (sizes size) track.since note)) [
  | inl was ↦ inl was
  | inr among ↦ inr (grind (arith, nat_tests))
]
  where
    either : (a b c : Bool) → (a || c) ≡ true → {P : Type 0} → (c ≡ true → (b ≡ true) ⊎ P) → ((a || b) ≡ true) ⊎ P
    either true b c may cases = inl refl
    either false b c may cases = cases may

    last : {X : Type 0} (p : X → Bool) (xs : List X) (x : X) → list_any p (xs ++ x ∷ []) ≡ true → (list_any p xs ≡ true) ⊎ (p x ≡ true)
    last p [] x some = inr (only (p x) some)
      where
        only : (a : Bool) → (a || false) ≡ true → a ≡ true
        only true some = refl
        only false some = some
    last p (y ∷ ys) x some = first (p y) (list_any p ys) (list_any p (ys ++ x ∷ [])) some (last p ys x)
      where
        first : (a b c : Bool) → (a || c) ≡ true → {P : Type 0} → (c ≡ true → (b ≡ true) ⊎ P) → ((a || b) ≡ true) ⊎ P
        first true b c some cases = inl refl
        first false b c some cases = cases some

-- Where a call touched nothing of what is kept, the mix of what it left and of what was safe might have been left before it.
left_before : (track : Track) (seen : List ℕ) (note : Note) (bytes : List ℕ) (keeps : ℕ → Bool) (size : ℕ) → IsLeft (noted track seen note) bytes → MayHave track size → ((place : ℕ) → place < size → keeps place ≡ true → (touches place note ≡ false) × (place < length bytes)) → IsLeft track (mixed keeps bytes track.safe size)
left_before track seen note bytes keeps size left may apart = record {
  size = ap (λ (n : ℕ). (n == length track.safe) || list_any (sizes n) track.since) (length-mixed keeps bytes track.safe size) ∙ may;
  kept = λ place short safe none.
      let within : place < size = omega (arith, length-mixed keeps bytes track.safe size) in
      get_or-mixed keeps bytes track.safe size place within
      ∙ chosen (keeps place) (get_or bytes place 0) (get_or track.safe place 0) (get_or track.safe place 0)
      (λ keeps_it. let facts = apart place within keeps_it in left.kept place facts.1 safe (any_neither (touches place) track.since note none facts.0)) refl;
}

-- ---- a write

-- the places outside a range
abbrev outside : ℕ → ℕ → ℕ → Bool
outside at n place = not (nat_le at place && nat_lt place (at + n))

outside-true : (at n place : ℕ) → (place < at) ⊎ (at + n ≤ place) → outside at n place ≡ true
outside-true at n place apart = grind (arith, nat_tests)

module _ (at n size : ℕ) (bytes safe : List ℕ) where
  -- what a torn write leaves where it didn't reach, and what was safe where it did
  abbrev unwritten : List ℕ
  unwritten = mixed (outside at n) bytes safe size

  same_outside : (place : ℕ) → place < size → (place < at) ⊎ (at + n ≤ place) → get_or unwritten place 0 ≡ get_or bytes place 0
  same_outside place within apart = get_or-mixed (outside at n) bytes safe size place within ∙ ap (λ (b : Bool). if b then get_or bytes place 0 else get_or safe place 0) (outside-true at n place apart)

  torn_mixed : size ≤ length bytes → length bytes ≤ max size (at + n) → Torn at n unwritten bytes
  torn_mixed small large =
      let long : length unwritten ≡ size = length-mixed (outside at n) bytes safe size in
      record {
        no_shorter = omega (arith, long);
        no_longer = omega (arith, long);
        before = λ m front within. ext_get_or 0 (take m bytes) (take m unwritten) (omega (arith, long, length-take m bytes, length-take m unwritten)) (λ place inside.
            let below : place < m = omega (arith, length-take m bytes) in
            get_or-take m bytes place 0 below ∙ sym (same_outside place (omega (arith, long)) (inl (omega arith))) ∙ sym (get_or-take m unwritten place 0 below));
        after = ext_get_or 0 (drop (at + n) bytes) (drop (at + n) unwritten) (omega (arith, long, length-drop (at + n) bytes, length-drop (at + n) unwritten)) (λ place inside.
            get_or-drop (at + n) bytes place 0 ∙ sym (same_outside (at + n + place) (omega (arith, length-drop (at + n) bytes)) (inr (omega arith))) ∙ sym (get_or-drop (at + n) unwritten place 0));
      }

-- a write of n bytes at a place, whether it failed or not
write_before : (track : Track) (seen : List ℕ) (at n least most : ℕ) (bytes : List ℕ) → Agrees track → length track.seen ≤ least → most ≤ max (length track.seen) (at + n) → IsLeft (noted track seen (record { from = at; to = at + n; least = least; most = most })) bytes → (before : List ℕ) × IsLeft track before × Torn at n before bytes
write_before track seen at n least most bytes agrees low high left = elim (size_cases track seen note (length bytes) left.size) [
  | inl may ↦ at_size (length bytes) may (omega arith) (omega arith)
  | inr among ↦ at_size (length track.seen) agrees.size (omega arith) (omega arith)
]
  where
    note : Note
    note = record { from = at; to = at + n; least = least; most = most }

    apart : (place : ℕ) → outside at n place ≡ true → touches place (record { from = at; to = at + n; least = least; most = most }) ≡ false
    apart place keeps = flip (nat_le at place && nat_lt place (at + n)) keeps
      where
        flip : (b : Bool) → not b ≡ true → b ≡ false
        flip true keeps = absurd (cc)
        flip false keeps = refl

    at_size : (size : ℕ) → MayHave track size → size ≤ length bytes → length bytes ≤ max size (at + n) → (before : List ℕ) × IsLeft track before × Torn at n before bytes
    at_size size may small large = (
      unwritten at n size bytes track.safe,
      left_before track seen (record { from = at; to = at + n; least = least; most = most }) bytes (outside at n) size left may (λ place within keeps. (apart place keeps, omega arith)),
      torn_mixed at n size bytes track.safe small large,
    )

-- ---- a cut

-- the places below a length
abbrev below : ℕ → ℕ → Bool
below len place = nat_lt place len

module _ (len size : ℕ) (bytes safe : List ℕ) where
  -- what a cut leaves below its length, and what was safe behind it
  abbrev uncut : List ℕ
  uncut = mixed (below len) bytes safe size

  same_below : (place : ℕ) → place < size → place < len → get_or uncut place 0 ≡ get_or bytes place 0
  same_below place within under =
      let test : below len place ≡ true = grind (arith, nat_tests) in
      get_or-mixed (below len) bytes safe size place within ∙ ap (λ (b : Bool). if b then get_or bytes place 0 else get_or safe place 0) test

  cut_mixed : min size len ≤ length bytes → length bytes ≤ size → Cut len uncut bytes
  cut_mixed small large =
      let long : length uncut ≡ size = length-mixed (below len) bytes safe size in
      record {
        no_shorter = omega (arith, long);
        no_longer = omega (arith, long);
        before = λ m front within. ext_get_or 0 (take m bytes) (take m uncut) (omega (arith, long, length-take m bytes, length-take m uncut)) (λ place inside.
            let under : place < m = omega (arith, length-take m bytes) in
            get_or-take m bytes place 0 under ∙ sym (same_below place (omega arith) (omega arith)) ∙ sym (get_or-take m uncut place 0 under));
      }

-- a cut to a length, whether it failed or not
cut_before : (track : Track) (seen : List ℕ) (len least most : ℕ) (bytes : List ℕ) → Agrees track → min (length track.seen) len ≤ least → most ≤ length track.seen → IsLeft (noted track seen (record { from = len; to = length track.seen; least = least; most = most })) bytes → (before : List ℕ) × IsLeft track before × Cut len before bytes
cut_before track seen len least most bytes agrees low high left = elim (size_cases track seen note (length bytes) left.size) [
  | inl may ↦ at_size (length bytes) may (omega arith) (omega arith)
  | inr among ↦ at_size (length track.seen) agrees.size (omega arith) (omega arith)
]
  where
    note : Note
    note = record { from = len; to = length track.seen; least = least; most = most }

    apart : (place : ℕ) → below len place ≡ true → (place < len) × (touches place (record { from = len; to = length track.seen; least = least; most = most }) ≡ false)
    apart place keeps = (grind (arith, nat_tests), grind (arith, nat_tests))

    at_size : (size : ℕ) → MayHave track size → min size len ≤ length bytes → length bytes ≤ size → (before : List ℕ) × IsLeft track before × Cut len before bytes
    at_size size may small large = (
      uncut len size bytes track.safe,
      left_before track seen (record { from = len; to = length track.seen; least = least; most = most }) bytes (below len) size left may (λ place within keeps. let facts = apart place keeps in (facts.1, omega arith)),
      cut_mixed len size bytes track.safe small large,
    )

-- ---- the calls

pub before_write : (track : Track) (at : ℕ) (piece bytes : List ℕ) → Agrees track → IsLeft (traced track (Write at piece)) bytes → (before : List ℕ) × IsLeft track before × Torn at (length piece) before bytes
before_write track at piece bytes agrees left =
    let seen = overlaid track.seen at piece in
    write_before track seen at (length piece) (length seen) (length seen) bytes agrees (omega (arith, length-overlaid track.seen at piece)) (omega (arith, length-overlaid track.seen at piece)) left

pub before_failed_write : (track : Track) (at n : ℕ) (bytes : List ℕ) → Agrees track → IsLeft (traced track (FailedWrite at (at + n))) bytes → (before : List ℕ) × IsLeft track before × Torn at n before bytes
before_failed_write track at n bytes agrees left = write_before track track.seen at n (length track.seen) (max (length track.seen) (at + n)) bytes agrees (omega arith) (omega arith) left

pub before_cut : (track : Track) (len : ℕ) (bytes : List ℕ) → Agrees track → IsLeft (traced track (CutAct len)) bytes → (before : List ℕ) × IsLeft track before × Cut len before bytes
before_cut track len bytes agrees left =
    let seen = take len track.seen in
    cut_before track seen len (length seen) (length seen) bytes agrees (omega (arith, length-take len track.seen)) (omega (arith, length-take len track.seen)) left

pub before_failed_cut : (track : Track) (len : ℕ) (bytes : List ℕ) → Agrees track → IsLeft (traced track (FailedCut len)) bytes → (before : List ℕ) × IsLeft track before × Cut len before bytes
before_failed_cut track len bytes agrees left = cut_before track track.seen len (min (length track.seen) len) (length track.seen) bytes agrees (omega arith) (omega arith) left

-- after a sync there is what reads give
pub only_seen : (track : Track) (bytes : List ℕ) → IsLeft (traced track Sync) bytes → bytes ≡ track.seen
only_seen track bytes left =
    let size : length bytes ≡ length track.seen = alone (length bytes) (length track.seen) left.size in
    ext_get_or 0 bytes track.seen size (λ place within. left.kept place within (omega arith) refl)
  where
    alone : (m n : ℕ) → ((m == n) || false) ≡ true → m ≡ n
    alone m n is = grind (arith, nat_tests)
