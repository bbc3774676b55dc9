-- Files that stand for the same, and calls that keep what files stand for.
use Rattle.std.proofs.Common.{◌≡◌, ◌≢◌, ◌⊎◌, ℕ, List, [], refl, sym, ◌∙◌, subst, inl, inr}
use Rattle.sea_disk.specs.declared.file.File.{File}
use Rattle.sea_disk.specs.declared.file.File.TheVariants.{Base0, Base1, Log0, Log1, Arch}
use Rattle.sea_disk.specs.Shown.{Files, Shown, IsImage, IsDisk, IsSettled}
use Rattle.sea_disk.specs.Calls.{After, OthersStay, Turns, Rests}
use Rattle.sea_disk.specs.Runs.{Works}
use Rattle.sea_disk.specs.Composition.{leaves_weaker, leaves_then, rests_leaves, turns_works, works_leaves}
use Rattle.sea_log.specs.Records.{HoldsList}
use Rattle.sea_operation.specs.declared.base.Plain.{Plain}
use Rattle.sea_core.specs.Stands.{IsClosedBase, StandsFor, StandAlike, KeepsStanding}
use Rattle.sea_core.specs.Steps.{ArchStays, Keeps, IsAllSettled}

-- ---- which file a file is

same_file : (one other : File) → (one ≡ other) ⊎ (one ≢ other)
same_file Base0 Base0 = inl refl
same_file Base1 Base1 = inl refl
same_file Log0 Log0 = inl refl
same_file Log1 Log1 = inl refl
same_file Arch Arch = inl refl
same_file Base0 _ = inr (λ e. cc)
same_file Base1 _ = inr (λ e. cc)
same_file Log0 _ = inr (λ e. cc)
same_file Log1 _ = inr (λ e. cc)
same_file Arch _ = inr (λ e. cc)

-- what holds of a file and of the others holds of each
pub at_each : (file : File) (P : File → Type 0) → P file → ((other : File) → other ≢ file → P other) → (each : File) → P each
at_each file P here others each = elim (same_file each file) [ inl same ↦ subst P (sym same) here | inr differs ↦ others each differs ]

-- ---- files that stand for the same

-- what the bytes of one file mean, other bytes in it mean as well
abbrev pub MeansAsWell : File → List ℕ → List ℕ → Type 0
MeansAsWell Base0 one other = IsClosedBase one → IsClosedBase other
MeansAsWell Base1 one other = IsClosedBase one → IsClosedBase other
MeansAsWell Log0 one other = (payloads : List (List ℕ)) → HoldsList payloads one → HoldsList payloads other
MeansAsWell Log1 one other = (payloads : List (List ℕ)) → HoldsList payloads one → HoldsList payloads other
MeansAsWell Arch one other = Unit {0}

-- the bytes mean what they mean
means_itself : (file : File) (bytes : List ℕ) → MeansAsWell file bytes bytes
means_itself Base0 bytes = λ closed. closed
means_itself Base1 bytes = λ closed. closed
means_itself Log0 bytes = λ payloads holds. holds
means_itself Log1 bytes = λ payloads holds. holds
means_itself Arch bytes = tt

-- what files stand for, others do whose bytes mean it as well
stands_as_well : (one other : Files) → ((file : File) → MeansAsWell file (one file) (other file)) → (base : Plain) → StandsFor base one → StandsFor base other
stands_as_well one other means base stands = record {
  base0 = means Base0 stands.base0;
  base1 = means Base1 stands.base1;
  second = means Log1 [] stands.second;
  payloads = stands.payloads;
  log = means Log0 stands.payloads stands.log;
  makes = stands.makes;
}

pub alike_then : {one mid other : Files} → StandAlike one mid → StandAlike mid other → StandAlike one other
alike_then first second = record {
  there = λ base stands. second.there base (first.there base stands);
  back = λ base stands. first.back base (second.back base stands);
}

-- files that differ in one whose bytes mean the same
alike_but_one : (file : File) (one other : Files) → MeansAsWell file (one file) (other file) → MeansAsWell file (other file) (one file) → ((rest : File) → rest ≢ file → one rest ≡ other rest) → StandAlike one other
alike_but_one file one other means meant same = record {
  there = stands_as_well one other (at_each file (λ each. MeansAsWell each (one each) (other each)) means (λ rest differs. subst (λ bytes. MeansAsWell rest (one rest) bytes) (same rest differs) (means_itself rest (one rest))));
  back = stands_as_well other one (at_each file (λ each. MeansAsWell each (other each) (one each)) meant (λ rest differs. subst (λ bytes. MeansAsWell rest bytes (one rest)) (same rest differs) (means_itself rest (one rest))));
}

-- files of the same bytes
alike_if_same : (one other : Files) → ((file : File) → one file ≡ other file) → StandAlike one other
alike_if_same one other same = record {
  there = stands_as_well one other (λ file. subst (λ bytes. MeansAsWell file (one file) bytes) (same file) (means_itself file (one file)));
  back = stands_as_well other one (λ file. subst (λ bytes. MeansAsWell file bytes (one file)) (same file) (means_itself file (one file)));
}

-- an image stands for what it stands for
image_keeps : (disk : Shown) (files : Files) → IsImage disk files → KeepsStanding disk files
image_keeps disk files image = (files, image, alike_if_same files files (λ file. refl))

-- ---- calls that leave `arch` alone

arch_then : {old mid new : Shown} → ArchStays old mid → ArchStays mid new → ArchStays old new
arch_then first second = record { seen = second.seen ∙ first.seen; image = λ bytes now. first.image bytes (second.image bytes now) }

pub arch_rests : {old new : Shown} → Rests old new → ArchStays old new
arch_rests rests = record { seen = rests.seen Arch; image = rests.image Arch }

pub arch_others : {file : File} {old new : Shown} → Arch ≢ file → OthersStay file old new → ArchStays old new
arch_others apart others = record { seen = others.seen Arch apart; image = λ bytes now. others.image Arch bytes apart now }

-- ---- runs of calls that keep what files stand for

-- what was kept before is kept
kept_through : {old mid : Shown} → Keeps old mid → (files : Files) → KeepsStanding mid files → KeepsStanding old files
kept_through {old = old} first files (before, image, alike) =
    let was = first.image before image in
    (was.0, was.1, alike_then was.2 alike)

-- one run after another
pub keeps_then : {old mid new : Shown} → Keeps old mid → Keeps mid new → Keeps old new
keeps_then first second = record {
  leaves = leaves_then first.leaves (leaves_weaker second.leaves (kept_through first));
  image = λ files now. kept_through first files (second.image files now);
  alike = alike_then first.alike second.alike;
  arch = arch_then first.arch second.arch;
}

-- a call that writes nothing
pub keeps_rests : {old new : Shown} → IsDisk old → Rests old new → Keeps old new
keeps_rests {old = old} {new = new} disk rests = record {
  leaves = leaves_weaker (rests_leaves disk rests) (image_keeps old);
  image = λ files now. image_keeps old files (λ file. rests.image file (files file) (now file));
  alike = alike_if_same old.seen new.seen (λ file. sym (rests.seen file));
  arch = arch_rests rests;
}

-- a sync
pub keeps_synced : {file : File} {old new : Shown} → IsDisk old → Turns file (λ was now. now ≡ was) old new → new.seen file ≡ old.seen file → Keeps old new
keeps_synced {file = file} {old = old} {new = new} disk turns same = record {
  leaves = works_leaves (turns_works disk turns) (λ files here others. image_keeps old files (at_each file (λ each. old.image each (files each)) (was (files file) here) others));
  image = λ files now. image_keeps old files (at_each file (λ each. old.image each (files each)) (was (files file) (inr (turns.follows (files file) (now file)))) (λ other differs. turns.others.image other (files other) differs (now other)));
  alike = alike_if_same old.seen new.seen (at_each file (λ each. old.seen each ≡ new.seen each) (sym same) (λ other differs. sym (turns.others.seen other differs)));
  arch = record {
    seen = at_each file (λ each. new.seen each ≡ old.seen each) same (λ other differs. turns.others.seen other differs) Arch;
    image = at_each file (λ each. (bytes : List ℕ) → new.image each bytes → old.image each bytes) (λ bytes now. was bytes (inr (turns.follows bytes now))) (λ other differs bytes now. turns.others.image other bytes differs now) Arch;
  };
}
  where
    was : (bytes : List ℕ) → old.image file bytes ⊎ After file (λ was now. now ≡ was) old bytes → old.image file bytes
    was bytes (inl image) = image
    was bytes (inr (before, image, e)) = subst (λ now. old.image file now) (sym e) image

-- a run on one file of a settled disk, after which the file's bytes mean what they meant
pub keeps_works : {file : File} {P : List ℕ → Type 0} {old new : Shown} → IsDisk old → IsDisk new → IsAllSettled old → Arch ≢ file → Works file P old new → ((bytes : List ℕ) → P bytes → MeansAsWell file (old.seen file) bytes) → ((bytes : List ℕ) → P bytes → MeansAsWell file bytes (old.seen file)) → Keeps old new
keeps_works {file = file} {P = P} {old = old} {new = new} disk after settled apart works means meant = record {
  leaves = works_leaves works keeps;
  image = λ files now. keeps files (works.now (files file) (now file)) (λ other differs. works.others.image other (files other) differs (now other));
  alike = alike_but_one file old.seen new.seen (means (new.seen file) shown) (meant (new.seen file) shown) (λ other differs. sym (works.others.seen other differs));
  arch = arch_others apart works.others;
}
  where
    shown : P (new.seen file)
    shown = works.now (new.seen file) (after.seen_may_stay file)

    keeps : (files : Files) → P (files file) → ((other : File) → other ≢ file → old.image other (files other)) → KeepsStanding old files
    keeps files here others = (old.seen, disk.seen_may_stay, alike_but_one file old.seen files (means (files file) here) (meant (files file) here) (λ other differs. sym (settled other (files other) (others other differs))))

-- ---- files that are settled

-- a file that a call leaves as it is stays settled
pub settled_stays : (old new : Shown) (file : File) → new.seen file ≡ old.seen file → ((bytes : List ℕ) → new.image file bytes → old.image file bytes) → IsSettled old file → IsSettled new file
settled_stays old new file same image settled bytes now = settled bytes (image bytes now) ∙ sym same

pub settled_rests : {old new : Shown} → Rests old new → IsAllSettled old → IsAllSettled new
settled_rests {old = old} {new = new} rests settled file = settled_stays old new file (rests.seen file) (rests.image file) (settled file)

-- a run on one file that settles it
pub settled_works : {file : File} {old new : Shown} → OthersStay file old new → IsAllSettled old → IsSettled new file → IsAllSettled new
settled_works {file = file} {old = old} {new = new} others settled here =
    at_each file (IsSettled new) here (λ other differs. settled_stays old new other (others.seen other differs) (λ bytes now. others.image other bytes differs now) (settled other))
