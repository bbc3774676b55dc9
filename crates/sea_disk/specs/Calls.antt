-- What one call does to a disk.
use Rattle.std.specs.Prelude.{◌≡◌, ◌≢◌, ◌⊎◌, ℕ, ◌+◌, ◌-◌, ◌≤◌, min, max, List, ◌++◌, length, take, drop, replicate}
use Rattle.sea_disk.specs.declared.file.File.{File}
use Rattle.sea_disk.specs.Shown.{Files, Shown, IsImage}

-- the bytes with others laid over them from a place on; zeros between the old end and that place
abbrev pub overlaid : List ℕ → ℕ → List ℕ → List ℕ
overlaid old at bytes = take at old ++ replicate (at - length old) 0 ++ bytes ++ drop (at + length bytes) old

-- A write of n bytes at a place that a stop or a fault cuts short: any bytes may stand in its range, and any size between.
pub record Torn (at n : ℕ) (old new : List ℕ) : Type 0 where
  pub no_shorter : length old ≤ length new
  pub no_longer : length new ≤ max (length old) (at + n)
  pub before : (m : ℕ) → m ≤ at → m ≤ length old → take m new ≡ take m old
  pub after : drop (at + n) new ≡ drop (at + n) old

-- A cut to a length that a stop or a fault cuts short: any bytes may stand behind that length, and any size between.
pub record Cut (len : ℕ) (old new : List ℕ) : Type 0 where
  pub no_shorter : min (length old) len ≤ length new
  pub no_longer : length new ≤ length old
  pub before : (m : ℕ) → m ≤ len → m ≤ length new → take m new ≡ take m old

-- Time goes on: what may have been left since an earlier moment is what it was, or an image of now.
pub record Elapses (old new : Shown) : Type 0 where
  pub later : old.moment ≤ new.moment
  pub nothing_else : (moment : ℕ) (files : Files) → moment ≤ old.moment → new.since moment files → old.since moment files ⊎ IsImage new files
  pub keeps : (moment : ℕ) (files : Files) → moment ≤ old.moment → old.since moment files → new.since moment files

-- what a step makes of some image that the file had
abbrev pub After : File → (List ℕ → List ℕ → Type 0) → Shown → List ℕ → Type 0
After file step old bytes = (before : List ℕ) × old.image file before × step before bytes

-- the other files are as they were
pub record OthersStay (file : File) (old new : Shown) : Type 0 where
  pub seen : (other : File) → other ≢ file → new.seen other ≡ old.seen other
  pub image : (other : File) (bytes : List ℕ) → other ≢ file → new.image other bytes → old.image other bytes
  pub kept : (other : File) (bytes : List ℕ) → other ≢ file → old.image other bytes → new.image other bytes

-- one writing call on a file: each image of the file is what the step makes of one that it had
pub record Turns (file : File) (step : List ℕ → List ℕ → Type 0) (old new : Shown) : Type 0 where
  pub follows : (bytes : List ℕ) → new.image file bytes → After file step old bytes
  pub others : OthersStay file old new
  pub time : Elapses old new

-- a call that writes nothing
pub record Rests (old new : Shown) : Type 0 where
  pub seen : (file : File) → new.seen file ≡ old.seen file
  pub image : (file : File) (bytes : List ℕ) → new.image file bytes → old.image file bytes
  pub kept : (file : File) (bytes : List ℕ) → old.image file bytes → new.image file bytes
  pub later : old.moment ≤ new.moment
  pub since : (moment : ℕ) (files : Files) → moment ≤ old.moment → new.since moment files → old.since moment files
  pub keeps : (moment : ℕ) (files : Files) → moment ≤ old.moment → old.since moment files → new.since moment files
