-- How numbers and byte rows are written, and what stands at a place.
use Rattle.std.specs.Prelude.{◌≡◌, ℕ, ◌+◌, List, ◌++◌, length, take, drop, nat_lt, if◌then◌else◌, Result, Ok, Err}
use Rattle.std.specs.Int.{Width, w32, byte_len, to_be_bytes, from_be_bytes}
use Rattle.sea_fields.specs.declared.span.Span.{Span}
use Rattle.sea_fields.specs.declared.span.FieldFault.{FieldFault}
use Rattle.sea_fields.specs.declared.span.FieldFault.TheVariants.{Short, TooLong}

-- a byte row: how many bytes it has, in four bytes, and its own
abbrev pub led : List ℕ → List ℕ
led bytes = to_be_bytes w32 (length bytes) ++ bytes

-- the number of this width at a place, its highest byte first, and the next place
abbrev pub number_at : Width → List ℕ → ℕ → Result (ℕ × ℕ) FieldFault
number_at width bytes at =
    if nat_lt (length bytes) (at + byte_len width) then Err Short
    else Ok (from_be_bytes width (take (byte_len width) (drop at bytes)), at + byte_len width)

-- a byte row of so many bytes from a place on
abbrev pub span_at : List ℕ → ℕ → ℕ → ℕ → Result (Span × ℕ) FieldFault
span_at bytes from count most =
    if nat_lt (length bytes) (from + count) then Err Short
    else (if nat_lt most count then Err TooLong else Ok (record { from = from; to = from + count }, from + count))

-- what comes behind a number
abbrev pub behind : (ℕ → ℕ → Result (Span × ℕ) FieldFault) → Result (ℕ × ℕ) FieldFault → Result (Span × ℕ) FieldFault
behind f (Ok read) = f read.1 read.0
behind f (Err fault) = Err fault

-- the byte row at a place, where its bytes lie, and the next place
abbrev pub row_at : List ℕ → ℕ → ℕ → Result (Span × ℕ) FieldFault
row_at bytes at most = behind (λ from count. span_at bytes from count most) (number_at w32 bytes at)

-- what a call answers that can only find too few bytes
abbrev pub Takes : {E : Type 0} → Result (ℕ × ℕ) E → Result (ℕ × ℕ) FieldFault → Type 0
Takes (Ok read) defined = defined ≡ Ok read
Takes (Err _) defined = defined ≡ Err Short
