-- What several calls do follows from what each does. Crates above cite these, and reason about no image by themselves.
use Rattle.std.specs.Prelude.{◌≡◌, ◌≢◌, ◌⊎◌, ℕ, ◌+◌, ◌-◌, max, List, ◌++◌, length, take, drop, replicate}
use Rattle.std.proofs.Common.{inl, inr, refl, subst, sym, ◌∙◌, arith, length-append}
use Rattle.std.proofs.lemmas.List.{length-take, length-drop, length-replicate}
use Rattle.sea_disk.specs.declared.file.File.{File}
use Rattle.sea_disk.specs.Shown.{Files, Shown, IsImage, IsDisk}
use Rattle.sea_disk.specs.Calls.{overlaid, Torn, Cut, After, OthersStay, Turns, Rests}
use Rattle.sea_disk.specs.Runs.{Leaves, AtFile, Works}

-- ---- what a write makes of a file

-- its size
pub length-overlaid : (old : List ℕ) (at : ℕ) (piece : List ℕ) → length (overlaid old at piece) ≡ max (length old) (at + length piece)
length-overlaid old at piece = omega (arith, length-append (take at old ++ replicate (at - length old) 0 ++ piece) (drop (at + length piece) old), length-append (take at old ++ replicate (at - length old) 0) piece, length-append (take at old) (replicate (at - length old) 0), length-take at old, length-replicate {A = ℕ} (at - length old) 0, length-drop (at + length piece) old)

-- ---- the files that a call leaves alone

pub others_then : {file : File} {old mid new : Shown} → OthersStay file old mid → OthersStay file mid new → OthersStay file old new
others_then first second = record {
  seen = λ other differs. second.seen other differs ∙ first.seen other differs;
  image = λ other bytes differs now. first.image other bytes differs (second.image other bytes differs now);
  kept = λ other bytes differs before. second.kept other bytes differs (first.kept other bytes differs before);
}

-- a call that writes nothing leaves every file alone
pub rests_others : {old new : Shown} (file : File) → Rests old new → OthersStay file old new
rests_others file rests = record {
  seen = λ other _. rests.seen other;
  image = λ other bytes _ now. rests.image other bytes now;
  kept = λ other bytes _ before. rests.kept other bytes before;
}

-- ---- runs of calls, seen as a whole

-- what is left has each weaker property
pub leaves_weaker : {old new : Shown} {P Q : Files → Type 0} → Leaves old new P → ((files : Files) → P files → Q files) → Leaves old new Q
leaves_weaker leaves weaker = record {
  later = leaves.later;
  each = λ files now. weaker files (leaves.each files now);
  before = λ moment files early now. elim (leaves.before moment files early now) [ inl was ↦ inl was | inr has ↦ inr (weaker files has) ];
}

-- one run after another
pub leaves_then : {old mid new : Shown} {P : Files → Type 0} → Leaves old mid P → Leaves mid new P → Leaves old new P
leaves_then {old = old} {mid = mid} first second = record {
  later = omega (arith, first.later, second.later);
  each = λ files now. elim (second.before old.moment files first.later now) [ inl was ↦ first.each files was | inr has ↦ has ];
  before = λ moment files early now. elim (second.before moment files (omega (arith, early, first.later)) now) [ inl was ↦ first.before moment files early was | inr has ↦ inr has ];
}

-- a call that writes nothing leaves only images that the disk had
pub rests_leaves : {old new : Shown} → IsDisk old → Rests old new → Leaves old new (IsImage old)
rests_leaves {old = old} disk rests = record {
  later = rests.later;
  each = λ files now. disk.only_now files (rests.since old.moment files (omega arith) now);
  before = λ moment files early now. inl (rests.since moment files early now);
}

-- ---- runs of calls on one file

-- one writing call
pub turns_works : {file : File} {step : List ℕ → List ℕ → Type 0} {old new : Shown} → IsDisk old → Turns file step old new → Works file (λ bytes. old.image file bytes ⊎ After file step old bytes) old new
turns_works {file = file} {step = step} {old = old} {new = new} disk turns = record {
  leaves = record {
    later = turns.time.later;
    each = λ files now. elim (turns.time.nothing_else old.moment files (omega arith) now) [ inl was ↦ before files (disk.only_now files was) | inr image ↦ after files image ];
    before = λ moment files early now. elim (turns.time.nothing_else moment files early now) [ inl was ↦ inl was | inr image ↦ inr (after files image) ];
  };
  now = λ bytes image. inr (turns.follows bytes image);
  others = turns.others;
}
  where
    before : (files : Files) → IsImage old files → AtFile file (λ bytes. old.image file bytes ⊎ After file step old bytes) old files
    before files image = record { here = inl (image file); others = λ other _. image other }

    after : (files : Files) → IsImage new files → AtFile file (λ bytes. old.image file bytes ⊎ After file step old bytes) old files
    after files image = record { here = inr (turns.follows (files file) (image file)); others = λ other differs. turns.others.image other (files other) differs (image other) }

-- a weaker property of the file
pub works_weaker : {file : File} {P Q : List ℕ → Type 0} {old new : Shown} → Works file P old new → ((bytes : List ℕ) → P bytes → Q bytes) → Works file Q old new
works_weaker works weaker = record {
  leaves = leaves_weaker works.leaves (λ files at. record { here = weaker (files _) at.here; others = at.others });
  now = λ bytes image. weaker bytes (works.now bytes image);
  others = works.others;
}

-- one write, which a stop may also have left undone
pub write_works : {file : File} {at n : ℕ} {old new : Shown} → IsDisk old → Turns file (Torn at n) old new → Works file (After file (Torn at n) old) old new
write_works {at = at} {n = n} disk turns = works_weaker (turns_works disk turns) (λ bytes may. elim may [ inl was ↦ (bytes, was, torn_stays at n bytes) | inr after ↦ after ])
  where
    torn_stays : (at n : ℕ) (bytes : List ℕ) → Torn at n bytes bytes
    torn_stays at n bytes = record { no_shorter = omega arith; no_longer = omega arith; before = λ m _ _. refl; after = refl }

-- one cut, which a stop may also have left undone
pub cut_works : {file : File} {len : ℕ} {old new : Shown} → IsDisk old → Turns file (Cut len) old new → Works file (After file (Cut len) old) old new
cut_works {len = len} disk turns = works_weaker (turns_works disk turns) (λ bytes may. elim may [ inl was ↦ (bytes, was, cut_stays len bytes) | inr after ↦ after ])
  where
    cut_stays : (len : ℕ) (bytes : List ℕ) → Cut len bytes bytes
    cut_stays len bytes = record { no_shorter = omega arith; no_longer = omega arith; before = λ m _ _. refl }

-- one run on a file after another on the same file
pub works_then : {file : File} {P : List ℕ → Type 0} {old mid new : Shown} → Works file P old mid → Works file P mid new → Works file P old new
works_then first second = record {
  leaves = leaves_then first.leaves (leaves_weaker second.leaves (λ files at. record { here = at.here; others = λ other differs. first.others.image other (files other) differs (at.others other differs) }));
  now = second.now;
  others = others_then first.others second.others;
}

-- a sync, after a run on the same file
pub works_synced : {file : File} {P : List ℕ → Type 0} {old mid new : Shown} → IsDisk mid → Works file P old mid → Turns file (λ was now. now ≡ was) mid new → Works file P old new
works_synced {file = file} {P = P} {mid = mid} disk works turns = works_then works (works_weaker (turns_works disk turns) (λ bytes may. works.now bytes (same bytes may)))
  where
    same : (bytes : List ℕ) → mid.image file bytes ⊎ After file (λ was now. now ≡ was) mid bytes → mid.image file bytes
    same bytes (inl image) = image
    same bytes (inr (before, image, e)) = subst (λ now. mid.image file now) (sym e) image

-- a call that writes nothing, after a run on a file
pub works_rests : {file : File} {P : List ℕ → Type 0} {old mid new : Shown} → IsDisk mid → Works file P old mid → Rests mid new → Works file P old new
works_rests {file = file} disk works rests = record {
  leaves = leaves_then works.leaves (leaves_weaker (rests_leaves disk rests) (λ files image. record { here = works.now (files file) (image file); others = λ other differs. works.others.image other (files other) differs (image other) }));
  now = λ bytes image. works.now bytes (rests.image file bytes image);
  others = others_then works.others (rests_others file rests);
}

-- what a run on one file says of the whole disk
pub works_leaves : {file : File} {P : List ℕ → Type 0} {Q : Files → Type 0} {old new : Shown} → Works file P old new → ((files : Files) → P (files file) → ((other : File) → other ≢ file → old.image other (files other)) → Q files) → Leaves old new Q
works_leaves works gives = leaves_weaker works.leaves (λ files at. gives files at.here at.others)

-- ---- calls that write nothing

-- nothing is done
pub rests_stay : (disk : Shown) → Rests disk disk
rests_stay disk = record {
  seen = λ file. refl;
  image = λ file bytes image. image;
  kept = λ file bytes image. image;
  later = omega arith;
  since = λ moment files early was. was;
  keeps = λ moment files early was. was;
}

-- one call that writes nothing after another
pub rests_then : {old mid new : Shown} → Rests old mid → Rests mid new → Rests old new
rests_then first second = record {
  seen = λ file. second.seen file ∙ first.seen file;
  image = λ file bytes image. first.image file bytes (second.image file bytes image);
  kept = λ file bytes image. second.kept file bytes (first.kept file bytes image);
  later = omega (arith, first.later, second.later);
  since = λ moment files early now. first.since moment files early (second.since moment files (omega (arith, early, first.later)) now);
  keeps = λ moment files early was. second.keeps moment files (omega (arith, early, first.later)) (first.keeps moment files early was);
}
