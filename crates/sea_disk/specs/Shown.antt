-- What a disk shows to a proof: what reads give, and what a stop at some moment may leave.
use Rattle.std.specs.Prelude.{◌≡◌, ℕ, ◌≤◌, List}
use Rattle.sea_disk.specs.declared.file.File.{File}

-- the bytes of the five files
abbrev pub Files : Type 0
Files = File → List ℕ

-- A disk's files as reads give them, what each file may be after a stop now, how many moments have passed, and what the
-- files together may have been after a stop at some moment from a given one on.
pub record Shown : Type 1 where
  pub seen : Files
  pub image : File → List ℕ → Type 0
  pub moment : ℕ
  pub since : ℕ → Files → Type 0

-- each file is as a stop now may leave it
abbrev pub IsImage : Shown → Files → Type 0
IsImage disk files = (file : File) → disk.image file (files file)

-- what holds of every disk
pub record IsDisk (disk : Shown) : Type 0 where
  -- what reads give is one of the images
  pub seen_may_stay : (file : File) → disk.image file (disk.seen file)
  -- an image of now is one of the moments from any one on
  pub counts_now : (moment : ℕ) (files : Files) → moment ≤ disk.moment → IsImage disk files → disk.since moment files
  -- from now on there is no other yet
  pub only_now : (files : Files) → disk.since disk.moment files → IsImage disk files

-- a stop leaves this file as reads give it
abbrev pub IsSettled : Shown → File → Type 0
IsSettled disk file = (bytes : List ℕ) → disk.image file bytes → bytes ≡ disk.seen file
