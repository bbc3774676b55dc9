-- What a reader of lines holds, and where it stands.
use Rattle.std.specs.Prelude.{ℕ, ◌+◌, ◌-◌, ◌≤◌, List, ◌++◌, length, take, drop, Option, Some, None, option_map}
use Rattle.std.proofs.Common.{arith, length-append}
use Rattle.std.proofs.lemmas.List.{length-take}
use Rattle.sea_lines.specs.Lines.{Place, TotalTold, KeepsTotal, TakesWithin, input_limit}
use Rattle.sea_lines.specs.declared.reader.LineReader.{LineReader}

-- the bytes that were taken from the source and not yet read as lines
abbrev pub unread : LineReader → List ℕ
unread reader = take (reader.to - reader.from) (drop reader.from reader.buffer.items)

-- how many bytes it has read as lines, newlines included
abbrev pub bytes_read : LineReader → ℕ
bytes_read reader = reader.read

-- where the reader stands over a source that has these bytes left
abbrev pub place_of : LineReader → Option (List ℕ) → Place
place_of reader left = record { read = reader.read; rest = option_map (λ bytes. unread reader ++ bytes) left }

-- ---- how many bytes a reader takes. Crates above cite the last of these.

length_unread : (reader : LineReader) → length (unread reader) ≤ reader.to - reader.from
length_unread reader = omega (arith, length-take (reader.to - reader.from) (drop reader.from reader.buffer.items))

within_told : (before left : Option (List ℕ)) (read : ℕ) (unread : List ℕ) → TotalTold 0 read before (option_map (λ bytes. unread ++ bytes) left) → read + length unread ≤ input_limit + 1 → TakesWithin before left
within_told None left read unread total bound = tt
within_told (Some before) None read unread total bound = absurd total
within_told (Some before) (Some now) read unread total bound = omega (arith, total, length-append unread now)

-- a reader that began at the first byte of an input has taken at most one byte more than an input may have
pub takes_within : (reader : LineReader) (before left : Option (List ℕ)) → KeepsTotal (record { read = 0; rest = before }) (place_of reader left) → TakesWithin before left
takes_within reader before left total = within_told before left reader.read (unread reader) total (omega (arith, length_unread reader, reader.taken))
