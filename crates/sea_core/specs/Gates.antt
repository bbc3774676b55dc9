-- The first gates of the files, which a start lays where they are missing.
use Rattle.std.specs.Prelude.{◌≡◌, ◌⊎◌, ℕ, ◌≤◌, List, [], ◌∷◌, length, slice_index, nat_lt, if◌then◌else◌}
use Rattle.sea_disk.specs.declared.file.File.{File}
use Rattle.sea_disk.specs.declared.file.File.TheVariants.{Base0, Base1, Log0, Log1, Arch}
use Rattle.sea_disk.specs.Calls.{overlaid}
use Rattle.sea_disk.specs.Shown.{Files}
use Rattle.sea_log.specs.Records.{IsClosedAt}

-- a log that a record can be appended to: it is no short file, or its first gate is laid, closed
abbrev pub HasGate : List ℕ → Type 0
HasGate bytes = (6 ≤ length bytes) ⊎ IsClosedAt bytes [] 0

-- the same of a base file, whose gate counts from 17 bytes on; the gate that is laid is a 0
abbrev pub HasBaseGate : List ℕ → Type 0
HasBaseGate bytes = (17 ≤ length bytes) ⊎ ((1 ≤ length bytes) × (slice_index bytes 0 ≡ 0))

-- each base file and each log has its first gate
pub record AreGatesLaid (files : Files) : Type 0 where
  pub base0 : HasBaseGate (files Base0)
  pub base1 : HasBaseGate (files Base1)
  pub log0 : HasGate (files Log0)
  pub log1 : HasGate (files Log1)

-- the bytes with a 0 laid at their front, where they are fewer than these
abbrev pub with_first_byte : ℕ → List ℕ → List ℕ
with_first_byte shortest bytes = if nat_lt (length bytes) shortest then overlaid bytes 0 (0 ∷ []) else bytes

-- What a start makes of a file: it lays the first gate, a 0, of a base file or log whose bytes are too few for one to count.
abbrev pub with_gate : File → List ℕ → List ℕ
with_gate Base0 bytes = with_first_byte 17 bytes
with_gate Base1 bytes = with_first_byte 17 bytes
with_gate Log0 bytes = with_first_byte 6 bytes
with_gate Log1 bytes = with_first_byte 6 bytes
with_gate Arch bytes = bytes
