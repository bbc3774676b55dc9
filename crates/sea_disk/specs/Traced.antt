-- A disk in memory: what its writing calls made of each file, and what a stop may leave of it.
use Rattle.std.specs.Prelude.{◌≡◌, ℕ, ◌+◌, ◌<◌, ◌≤◌, ◌==◌, ◌&&◌, ◌||◌, min, max, List, [], ◌∷◌, ◌++◌, length, map, take, fold, slice_index, Bool, true, false, not, nat_le, nat_lt, if◌then◌else◌}
use Rattle.std.specs.List.{list_any, range_with_len}
use Rattle.sea_disk.specs.declared.file.File.{File}
use Rattle.sea_disk.specs.declared.file.File.TheVariants.{Base0, Base1, Log0, Log1, Arch}
use Rattle.sea_disk.specs.declared.calls.Act.{Act}
use Rattle.sea_disk.specs.declared.calls.Act.TheVariants.{Write, FailedWrite, Cut, FailedCut, Sync}
use Rattle.sea_disk.specs.declared.calls.Call.{Call}
use Rattle.sea_disk.specs.declared.calls.Note.{Note}
use Rattle.sea_disk.specs.declared.calls.Track.{Track}
use Rattle.sea_disk.specs.Shown.{Shown}
use Rattle.sea_disk.specs.Calls.{overlaid}

-- the two files are one
abbrev pub is_file : File → File → Bool
is_file Base0 Base0 = true
is_file Base1 Base1 = true
is_file Log0 Log0 = true
is_file Log1 Log1 = true
is_file Arch Arch = true
is_file _ _ = false

-- an empty file that no call was made on
abbrev pub fresh : Track
fresh = record { seen = []; safe = []; since = [] }

-- one call more that may have touched these places and left these sizes, after which reads give these bytes
abbrev pub noted : Track → List ℕ → Note → Track
noted track seen note = record { seen = seen; safe = track.safe; since = track.since ++ note ∷ [] }

-- A good call leaves its size, a failed one any size between the one before it and the one that a good one would
-- leave; a write or cut may have touched its range, whether it failed or not. A failed one leaves what reads give.
abbrev pub traced : Track → Act → Track
traced track (Write at bytes) =
    let seen = overlaid track.seen at bytes in
    noted track seen (record { from = at; to = at + length bytes; least = length seen; most = length seen })
traced track (FailedWrite at to) =
    noted track track.seen (record { from = at; to = to; least = length track.seen; most = max (length track.seen) to })
traced track (Cut len) =
    let seen = take len track.seen in
    noted track seen (record { from = len; to = length track.seen; least = length seen; most = length seen })
traced track (FailedCut len) =
    noted track track.seen (record { from = len; to = length track.seen; least = min (length track.seen) len; most = length track.seen })
traced track Sync = record { seen = track.seen; safe = track.seen; since = [] }

-- a file after one call of a disk more
abbrev pub traced_on : File → Track → Call → Track
traced_on file track call = if is_file call.file file then traced track call.act else track

-- a file after the calls of a disk
abbrev pub track_of : List Call → File → Track
track_of calls file = fold (traced_on file) fresh calls

-- these calls and one more
abbrev pub with_call : List Call → File → Act → List Call
with_call calls file act = calls ++ record { file = file; act = act } ∷ []

-- these calls and two more, which write bytes from a file's beginning on and make them safe
abbrev pub with_laid : List ℕ → List Call → File → List Call
with_laid bytes calls file = with_call (with_call calls file (Write 0 bytes)) file Sync

-- a call may have touched this place
abbrev pub touches : ℕ → Note → Bool
touches place note = nat_le note.from place && nat_lt place note.to

-- a call may have left this size
abbrev pub sizes : ℕ → Note → Bool
sizes size note = nat_le note.least size && nat_le size note.most

-- What a stop may leave of a file: the size at the last good sync or one that a call since may have left, and at each
-- place that was safe then and no call since may have touched, the byte that was safe.
pub record IsLeft (track : Track) (bytes : List ℕ) : Type 0 where
  pub size : ((length bytes == length track.safe) || list_any (sizes (length bytes)) track.since) ≡ true
  pub kept : (place : ℕ) → place < length bytes → place < length track.safe → list_any (touches place) track.since ≡ false → slice_index bytes place ≡ slice_index track.safe place

-- the byte at this place is safe: no stop changes it
abbrev pub is_safe : Track → ℕ → Bool
is_safe track place = nat_lt place (length track.safe) && not (list_any (touches place) track.since)

-- the largest size that a stop may leave
abbrev pub largest : Track → ℕ
largest track = fold (λ size note. max size note.most) (length track.safe) track.since

-- the byte that is safe at a place, or 1
abbrev pub safe_or_one : Track → ℕ → ℕ
safe_or_one track place = if is_safe track place then slice_index track.safe place else 1

-- What a stop leaves by choice: with 0 nothing since the last good sync, with 1 everything, and with any other number
-- the largest size with a 1 for each byte that isn't safe.
abbrev pub left_by : ℕ → Track → List ℕ
left_by choice track = if choice == 0 then track.safe else (if choice == 1 then track.seen else map (safe_or_one track) (range_with_len 0 (largest track)))

-- what a disk in memory shows that took these writing calls: its moments are their number
abbrev pub shown_of : List Call → Shown
shown_of calls = record {
  seen = λ file. (track_of calls file).seen;
  image = λ file bytes. IsLeft (track_of calls file) bytes;
  moment = length calls;
  since = λ moment files. (count : ℕ) × (moment ≤ count) × (count ≤ length calls) × ((file : File) → IsLeft (track_of (take count calls) file) (files file));
}
