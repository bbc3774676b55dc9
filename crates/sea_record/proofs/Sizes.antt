-- How long the record of an entry is.
use Rattle.std.proofs.Common.{◌≡◌, ℕ, ◌+◌, ◌≤◌, ◌^◌, inl, inr, List, ◌∷◌, ◌++◌, length, length-append, arith}
use Rattle.std.specs.Int.{w32, w64, to_be_bytes}
use Rattle.sea_fields.specs.Fields.{led}
use Rattle.sea_operation.specs.declared.operation.Entry.{Entry}
use Rattle.sea_record.specs.Record.{entry_kind, minutes_of, record_bytes, record_of, IsTooLong}
use Rattle.sea_ops.specs.Texts.{text_of}

-- the length of a byte row with its length in front
length-led : (row : List ℕ) → length (led row) ≡ 4 + length row
length-led row = omega (arith, length-append (to_be_bytes w32 (length row)) row)

length-record_bytes : (lsn minutes : ℕ) (user text : List ℕ) → length (record_bytes lsn minutes user text) ≡ 25 + length user + length text
unfolding record_bytes
length-record_bytes lsn minutes user text =
    omega (arith, length-append (to_be_bytes w64 lsn) (entry_kind ∷ (to_be_bytes w64 minutes ++ (led user ++ led text))), length-append (to_be_bytes w64 minutes) (led user ++ led text), length-append (led user) (led text), length-led user, length-led text)

pub length-record : (lsn : ℕ) (entry : Entry) → length (record_of lsn entry) ≡ 25 + length entry.user + length (text_of entry.op)
length-record lsn entry = length-record_bytes lsn (minutes_of entry.moment.0) entry.user (text_of entry.op)

-- that of an entry with a field that is too long
pub long_record : (lsn : ℕ) (entry : Entry) → IsTooLong entry → 2 ^ 32 ≤ length (record_of lsn entry)
long_record lsn entry (inl long) = omega (arith, length-record lsn entry)
long_record lsn entry (inr long) = omega (arith, length-record lsn entry)
