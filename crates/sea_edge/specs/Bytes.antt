-- What a call does to the bytes that a source has left, and to those that a sink has taken, where they are told.
use Rattle.std.specs.Prelude.{◌≡◌, ℕ, ◌≤◌, List, length, take, Option, Result, Ok, Err, MatchResult}
use Rattle.std.specs.Io.KnownBytes.{Appends, Consumes, IsAtEnd, Keeps}

-- A successful take placed that many of the next bytes at the front of `into`, and none exactly at the end. A failed one took nothing.
abbrev pub Takes : {E : Type 0} → Option (List ℕ) → Option (List ℕ) → Result ℕ E → List ℕ → Type 0
Takes old new result into =
    MatchResult result (λ count. Consumes old new (take count into) × (count ≡ 0 → IsAtEnd old)) (λ _. Keeps old new)

-- A successful give appended the whole piece, a failed one some front of it.
abbrev pub Gives : {T E : Type 0} → Option (List ℕ) → Option (List ℕ) → Result T E → List ℕ → Type 0
Gives old new (Ok _) piece = Appends old new piece
Gives old new (Err _) piece = (count : ℕ) × (count ≤ length piece) × Appends old new (take count piece)
