-- A whole input, read line by line: what was read, and what is left. Crates above cite these.
use Rattle.std.specs.Prelude.{◌≡◌, ℕ, ◌≤◌, List, [], ◌∷◌, ◌++◌, length, Option, Some, None, IfSome, All}
use Rattle.std.proofs.Common.{refl, sym, ap, ◌∙◌, subst, arith, append_assoc, append-nil, length-append}
use Rattle.sea_lines.specs.Lines.{Place, ReadsNext, ReadsTold, ReadsLine, IsWithinLimits, HasReadTold, HasReadTo, line_limit, input_limit, lines_of}

-- the lines read so far, and those that are left, are the lines of the input
pub lines_of-read : (input before now : List ℕ) (lines : List (List ℕ)) (line : List ℕ) (old_read new_read : ℕ) → lines_of input ≡ lines ++ lines_of before → ReadsNext old_read new_read before now (Some line)
    → lines_of input ≡ (lines ++ line ∷ []) ++ lines_of now
lines_of-read input before now lines line old_read new_read h next = h ∙ ap (λ rest. lines ++ rest) next.1 ∙ sym (append_assoc lines (line ∷ []) (lines_of now))

-- and the reader's count is that of the bytes before it
pub place_read : (input front before now line : List ℕ) (old_read new_read : ℕ) → input ≡ front ++ before → old_read ≡ length front → ReadsNext old_read new_read before now (Some line)
    → (front' : List ℕ) × (input ≡ front' ++ now) × (new_read ≡ length front')
place_read input front before now line old_read new_read h count next =
    let more = next.0.0 in
    let moves = next.0.1 in
    (front ++ more, h ∙ ap (λ b. front ++ b) moves.bytes ∙ sym (append_assoc front more now), omega (arith, moves.count, count, length-append front more))

-- an input that was read to its end within the limits
pub IsWithinLimits-read : (input front : List ℕ) (lines : List (List ℕ)) (read : ℕ) → lines_of input ≡ lines ++ lines_of [] → input ≡ front ++ [] → read ≡ length front
    → All (λ line. length line ≤ line_limit) lines → read ≤ input_limit → IsWithinLimits input
IsWithinLimits-read input front lines read split place count short within = record {
  whole = omega (arith, ap length place, length-append front []);
  lines = subst (All (λ line. length line ≤ line_limit)) (sym (split ∙ append-nil lines)) short;
}

-- ---- the same of a reader that may not tell its bytes

read_none : (input : Option (List ℕ)) (read : ℕ) → read ≡ 0 → HasReadTold input [] read input
read_none None read none = tt
read_none (Some input) read none = record { split = refl; place = ([], refl, none) }

read_line : (input old new : Option (List ℕ)) (lines : List (List ℕ)) (line : List ℕ) (old_read new_read : ℕ) → HasReadTold input lines old_read old → ReadsTold old_read new_read old new (Some line)
    → HasReadTold input (lines ++ line ∷ []) new_read new
read_line None old new lines line old_read new_read h next = tt
read_line (Some input) None new lines line old_read new_read h next = absurd h
read_line (Some input) (Some before) None lines line old_read new_read h next = absurd next
read_line (Some input) (Some before) (Some now) lines line old_read new_read h next = record {
  split = lines_of-read input before now lines line old_read new_read h.split next;
  place = place_read input h.place.0 before now line old_read new_read h.place.1 h.place.2 next;
}

read_end : (input old new : Option (List ℕ)) (lines : List (List ℕ)) (old_read new_read : ℕ) → HasReadTold input lines old_read old → ReadsTold old_read new_read old new None → IfSome input (λ bytes. lines_of bytes ≡ lines)
read_end None old new lines old_read new_read h next = tt
read_end (Some input) None new lines old_read new_read h next = absurd h
read_end (Some input) (Some before) None lines old_read new_read h next = absurd next
read_end (Some input) (Some before) (Some now) lines old_read new_read h next = h.split ∙ ap (λ b. lines ++ lines_of b) next.0 ∙ append-nil lines

read_within : (input old new : Option (List ℕ)) (lines : List (List ℕ)) (old_read new_read : ℕ) → HasReadTold input lines old_read old → ReadsTold old_read new_read old new None
    → All (λ line. length line ≤ line_limit) lines → old_read ≤ input_limit → IfSome input (λ bytes. IsWithinLimits bytes)
read_within None old new lines old_read new_read h next short within = tt
read_within (Some input) None new lines old_read new_read h next short within = absurd h
read_within (Some input) (Some before) None lines old_read new_read h next short within = absurd next
read_within (Some input) (Some before) (Some now) lines old_read new_read h next short within =
    IsWithinLimits-read input h.place.0 lines old_read (h.split ∙ ap (λ b. lines ++ lines_of b) next.0) (h.place.1 ∙ ap (λ b. h.place.0 ++ b) next.0) h.place.2 short within

-- before the first line
pub HasReadTo-none : (start : Place) → start.read ≡ 0 → HasReadTo start.rest [] start
HasReadTo-none start none = read_none start.rest start.read none

-- one line more
pub HasReadTo-line : (input : Option (List ℕ)) (lines : List (List ℕ)) (line : List ℕ) (old new : Place) → HasReadTo input lines old → ReadsLine old new (Some line) → HasReadTo input (lines ++ line ∷ []) new
HasReadTo-line input lines line old new h next = read_line input old.rest new.rest lines line old.read new.read h next

-- the end of the input: the lines are all that it has
pub HasReadTo-end : (input : Option (List ℕ)) (lines : List (List ℕ)) (old new : Place) → HasReadTo input lines old → ReadsLine old new None → IfSome input (λ bytes. lines_of bytes ≡ lines)
HasReadTo-end input lines old new h next = read_end input old.rest new.rest lines old.read new.read h next

-- and where each is short and no more bytes were read than the limit, the input is within the limits
pub HasReadTo-within : (input : Option (List ℕ)) (lines : List (List ℕ)) (old new : Place) → HasReadTo input lines old → ReadsLine old new None → All (λ line. length line ≤ line_limit) lines → old.read ≤ input_limit
    → IfSome input (λ bytes. IsWithinLimits bytes)
HasReadTo-within input lines old new h next short within = read_within input old.rest new.rest lines old.read new.read h next short within

-- the lines behind those that were read
pub behind : (input rest : Option (List ℕ)) (lines : List (List ℕ)) (read : ℕ) → HasReadTold input lines read rest → (more : List (List ℕ)) × IfSome input (λ bytes. lines_of bytes ≡ lines ++ more)
behind None rest lines read h = ([], tt)
behind (Some input) None lines read h = absurd h
behind (Some input) (Some rest) lines read h = (lines_of rest, h.split)
