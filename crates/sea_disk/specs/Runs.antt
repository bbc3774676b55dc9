-- What several calls do to a disk, seen from outside.
use Rattle.std.specs.Prelude.{◌≢◌, ◌⊎◌, ℕ, ◌≤◌, List}
use Rattle.sea_disk.specs.declared.file.File.{File}
use Rattle.sea_disk.specs.Shown.{Files, Shown}
use Rattle.sea_disk.specs.Calls.{OthersStay}

-- a run of calls: what a stop at any moment of it may leave has a property
pub record Leaves (old new : Shown) (P : Files → Type 0) : Type 0 where
  pub later : old.moment ≤ new.moment
  pub each : (files : Files) → new.since old.moment files → P files
  pub before : (moment : ℕ) (files : Files) → moment ≤ old.moment → new.since moment files → old.since moment files ⊎ P files

-- one file has a property, and the others are images that they had
pub record AtFile (file : File) (P : List ℕ → Type 0) (old : Shown) (files : Files) : Type 0 where
  pub here : P (files file)
  pub others : (other : File) → other ≢ file → old.image other (files other)

-- a run of calls on one file
pub record Works (file : File) (P : List ℕ → Type 0) (old new : Shown) : Type 0 where
  pub leaves : Leaves old new (AtFile file P old)
  pub now : (bytes : List ℕ) → new.image file bytes → P bytes
  pub others : OthersStay file old new
