-- The lines of an input, and where a reader of lines stands in it.
use Rattle.std.specs.Prelude.{◌≡◌, ℕ, ◌+◌, ◌<◌, ◌≤◌, ◌==◌, ◌⊎◌, List, [], ◌∷◌, ◌++◌, length, if◌then◌else◌, false, Option, Some, None, All}
use Rattle.std.specs.List.{before_first, list_any}

-- a byte before the first of some lines
abbrev pub onto_first : ℕ → List (List ℕ) → List (List ℕ)
onto_first byte [] = (byte ∷ []) ∷ []
onto_first byte (line ∷ lines) = (byte ∷ line) ∷ lines

-- The lines of some bytes, each without the newline that ends it. A last line without newline counts.
abbrev pub lines_of : List ℕ → List (List ℕ)
lines_of [] = []
lines_of (byte ∷ bytes) = if byte == 10 then [] ∷ lines_of bytes else onto_first byte (lines_of bytes)

-- the most bytes of a line, before its newline
abbrev pub line_limit : ℕ
line_limit = 1048576

-- the most bytes of an input
abbrev pub input_limit : ℕ
input_limit = 4294967296

-- an input that passes neither limit
pub record IsWithinLimits (input : List ℕ) : Type 0 where
  pub whole : length input ≤ input_limit
  pub lines : All (λ line. length line ≤ line_limit) (lines_of input)

-- what follows the first `read` bytes of an input begins with a line that passes its limit, or in which the input passes its own
abbrev pub PassesLimit : ℕ → List ℕ → Type 0
PassesLimit read rest =
    let line = before_first (λ byte. byte == 10) rest in
    (line_limit < length line) ⊎ ((input_limit ≤ read + length line) × (input_limit < read + length rest))

-- where a reader of lines stands: how many bytes it has read as lines, and those that it hasn't, where they are told
pub record Place : Type 0 where
  pub read : ℕ
  pub rest : Option (List ℕ)

-- from the old place to the new one the bytes `front` were read
pub record Moves (old_read new_read : ℕ) (old_rest new_rest front : List ℕ) : Type 0 where
  pub bytes : old_rest ≡ front ++ new_rest
  pub count : new_read ≡ old_read + length front

-- the next line was read, or there was none
abbrev pub ReadsNext : ℕ → ℕ → List ℕ → List ℕ → Option (List ℕ) → Type 0
ReadsNext old_read new_read old_rest new_rest (Some line) =
    ((front : List ℕ) × Moves old_read new_read old_rest new_rest front) × (lines_of old_rest ≡ line ∷ lines_of new_rest)
ReadsNext old_read new_read old_rest new_rest None = (old_rest ≡ []) × (new_rest ≡ []) × (new_read ≡ old_read)

-- the same where the bytes are told; nothing is said where the old ones aren't, and what was told stays told
abbrev pub ReadsTold : ℕ → ℕ → Option (List ℕ) → Option (List ℕ) → Option (List ℕ) → Type 0
ReadsTold old_read new_read None new_rest line = Unit {0}
ReadsTold old_read new_read (Some before) None line = ⊥
ReadsTold old_read new_read (Some before) (Some now) line = ReadsNext old_read new_read before now line

-- the same at two places
abbrev pub ReadsLine : Place → Place → Option (List ℕ) → Type 0
ReadsLine old new line = ReadsTold old.read new.read old.rest new.rest line

-- a reader that began at the first byte of an input has read these lines of it and `read` bytes, and has `rest` before it
pub record HasRead (input : List ℕ) (lines : List (List ℕ)) (read : ℕ) (rest : List ℕ) : Type 0 where
  pub split : lines_of input ≡ lines ++ lines_of rest
  pub place : (front : List ℕ) × (input ≡ front ++ rest) × (read ≡ length front)

-- the same where the input is told; nothing is said where it isn't, and what was told stays told
abbrev pub HasReadTold : Option (List ℕ) → List (List ℕ) → ℕ → Option (List ℕ) → Type 0
HasReadTold None lines read rest = Unit {0}
HasReadTold (Some input) lines read None = ⊥
HasReadTold (Some input) lines read (Some rest) = HasRead input lines read rest

-- the same at a place
abbrev pub HasReadTo : Option (List ℕ) → List (List ℕ) → Place → Type 0
HasReadTo input lines place = HasReadTold input lines place.read place.rest

-- of these bytes a part of a line was taken, with no newline in it, and those are left; what was told stays told
abbrev pub BreaksOff : Option (List ℕ) → Option (List ℕ) → Type 0
BreaksOff None left = Unit {0}
BreaksOff (Some rest) None = ⊥
BreaksOff (Some rest) (Some left) = (piece : List ℕ) × (rest ≡ piece ++ left) × (list_any (λ byte. byte == 10) piece ≡ false)

-- the bytes that were read and those behind them are as many as before; what was told stays told
abbrev pub TotalTold : ℕ → ℕ → Option (List ℕ) → Option (List ℕ) → Type 0
TotalTold old_read new_read None now = Unit {0}
TotalTold old_read new_read (Some before) None = ⊥
TotalTold old_read new_read (Some before) (Some now) = old_read + length before ≡ new_read + length now

abbrev pub KeepsTotal : Place → Place → Type 0
KeepsTotal old new = TotalTold old.read new.read old.rest new.rest

-- at most one byte more was taken than an input may have, where the source tells its bytes
abbrev pub TakesWithin : Option (List ℕ) → Option (List ℕ) → Type 0
TakesWithin None now = Unit {0}
TakesWithin (Some before) None = ⊥
TakesWithin (Some before) (Some now) = length before ≤ length now + (input_limit + 1)
