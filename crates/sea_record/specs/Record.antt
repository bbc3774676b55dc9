-- The record of an entry in a log. Numbers have their highest byte first.
use Rattle.std.specs.Prelude.{◌≡◌, ℕ, ◌+◌, ◌-◌, ◌^◌, ◌<◌, ◌≤◌, ◌⊎◌, ℤ, pos, negsuc, List, ◌∷◌, ◌++◌, length, Some, IsUtf8}
use Rattle.std.specs.Int.{w64, to_be_bytes}
use Rattle.sea_fields.specs.Fields.{led}
use Rattle.sea_moment.specs.Moment.{IsMoment}
use Rattle.sea_operation.specs.declared.operation.Entry.{Entry}
use Rattle.sea_ops.specs.Operations.{op_of}
use Rattle.sea_ops.specs.Texts.{text_of}

-- the kind of a record that holds an entry
abbrev pub entry_kind : ℕ
entry_kind = 1

-- the minutes from the first moment to this one
abbrev pub minutes_of : ℤ → ℕ
minutes_of (pos minutes) = minutes + 1035593280
minutes_of (negsuc minutes) = 1035593279 - minutes

-- the fields of a record in a row: eight bytes of its number, one of its kind, eight of the minutes, and two byte rows
unfoldable pub record_bytes : ℕ → ℕ → List ℕ → List ℕ → List ℕ
record_bytes lsn minutes user text = to_be_bytes w64 lsn ++ (entry_kind ∷ (to_be_bytes w64 minutes ++ (led user ++ led text)))

-- the record of an entry under a number
abbrev pub record_of : ℕ → Entry → List ℕ
record_of lsn entry = record_bytes lsn (minutes_of entry.moment.0) entry.user (text_of entry.op)

-- a field that has 2^32 bytes or more has no place in a record
abbrev pub IsTooLong : Entry → Type 0
IsTooLong entry = (2 ^ 32 ≤ length entry.user) ⊎ (2 ^ 32 ≤ length (text_of entry.op))

-- the bytes are the record of this entry under this number
pub record IsRecord (payload : List ℕ) (lsn : ℕ) (entry : Entry) : Type 0 where
  pub bytes : payload ≡ record_of lsn entry
  pub number : lsn < 2 ^ 64
  pub moment : IsMoment entry.moment.0
  pub user : IsUtf8 entry.user
  pub user_fits : length entry.user < 2 ^ 32
  pub text_fits : length (text_of entry.op) < 2 ^ 32
  pub form : op_of (text_of entry.op) ≡ Some entry.op

-- ---- for private clauses

-- numbers and byte rows that have a place in a record
pub record HasPlaces (lsn minutes : ℕ) (user text : List ℕ) : Type 0 where
  pub number : lsn < 2 ^ 64
  pub time : minutes < 2 ^ 64
  pub user_fits : length user < 2 ^ 32
  pub text_fits : length text < 2 ^ 32

-- an entry that could be read: its moment is one, its user a text, and its canonical text a form of its operation
pub record IsReadable (entry : Entry) : Type 0 where
  pub moment : IsMoment entry.moment.0
  pub user : IsUtf8 entry.user
  pub form : op_of (text_of entry.op) ≡ Some entry.op

-- these fields are those of the entry
pub record AreFieldsOf (entry : Entry) (minutes : ℕ) (user text : List ℕ) : Type 0 where
  pub time : minutes_of entry.moment.0 ≡ minutes
  pub name : entry.user ≡ user
  pub form : text_of entry.op ≡ text

-- the bytes are the record of an entry, whose fields have places in it
pub record IsWritten (payload : List ℕ) (lsn : ℕ) (entry : Entry) : Type 0 where
  pub bytes : payload ≡ record_of lsn entry
  pub user_fits : length entry.user < 2 ^ 32
  pub text_fits : length (text_of entry.op) < 2 ^ 32
