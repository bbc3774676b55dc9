-- Words on texts.
use Rattle.std.specs.Prelude.{ℕ, ◌-◌, ◌==◌, List, length, take, drop, slice_index, if◌then◌else◌, Option, Some, None}
use Rattle.std.specs.Str.{bytes_eq}

-- what stands behind a front, if the text has it
abbrev pub stripped : List ℕ → List ℕ → Option (List ℕ)
stripped front text = if bytes_eq front (take (length front) text) then Some (drop (length front) text) else None

-- a line without a carriage return at its end
abbrev pub without_return : List ℕ → List ℕ
without_return line = if slice_index line (length line - 1) == 13 then take (length line - 1) line else line
