-- What a stop may leave of a log file.
use Rattle.std.specs.Prelude.{ℕ, ◌+◌, List, [], ◌∷◌, ◌++◌}
use Rattle.sea_disk.specs.declared.file.File.{File}
use Rattle.sea_disk.specs.Shown.{Shown}
use Rattle.sea_disk.specs.Calls.{overlaid}
use Rattle.sea_fields.specs.Fields.{led}
use Rattle.sea_log.specs.Records.{IsClosedAt, HoldsList}

-- whatever a stop leaves of the file holds this list, and the gate at this place ends it and is closed
abbrev pub IsClosedInImages : Shown → File → List (List ℕ) → ℕ → Type 0
IsClosedInImages disk file payloads end = (bytes : List ℕ) → disk.image file bytes → IsClosedAt bytes payloads end

-- whatever a stop leaves of the file holds this list
abbrev pub HoldsInImages : Shown → File → List (List ℕ) → Type 0
HoldsInImages disk file payloads = (bytes : List ℕ) → disk.image file bytes → HoldsList payloads bytes

-- the bytes with a record behind the gate at this place, and behind the record a 0, the closed gate; the gate before it is a 1
abbrev pub with_record : List ℕ → ℕ → List ℕ → List ℕ
with_record bytes end payload = overlaid (overlaid bytes (end + 1) (led payload ++ 0 ∷ [])) end (1 ∷ [])
