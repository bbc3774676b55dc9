-- What is known of the world around a script, and what was read and written.
use Rattle.std.specs.Prelude.{ℕ, ℤ, List, Option}
use Rattle.sea_disk.specs.Shown.{Shown}
use Rattle.sea_core.specs.State.{Known, known}

-- What the clock tells, and what is known of the disk: whether it tells its content, what it shows, and its counts of failed
-- calls.
pub record Setting (D : Type 0) : Type 1 where
  pub clock : Option ℤ
  pub disk : Known D

abbrev pub setting : {D : Type 0} → Option ℤ → Type 0 → (D → Shown) → (D → ℕ) → (D → ℕ) → Setting D
setting clock told shows faults failed = record { clock = clock; disk = known told shows faults failed }

-- The bytes that were to be read at first, those left at the end, and what had been written before and then; None where
-- source or sink don't tell.
pub record Tape : Type 0 where
  pub input : Option (List ℕ)
  pub left : Option (List ℕ)
  pub taken : Option (List ℕ)
  pub given : Option (List ℕ)

abbrev pub tape : Option (List ℕ) → Option (List ℕ) → Option (List ℕ) → Option (List ℕ) → Tape
tape input left taken given = record { input = input; left = left; taken = taken; given = given }
