-- Names and ids, and texts that come twice.
use Rattle.std.specs.Prelude.{ℕ, ◌&&◌, ◌||◌, ◌==◌, List, [], ◌∷◌, ◌++◌, length, slice_index, Bool, not, nat_lt, nat_le, if◌then◌else◌, Option, Some, None}
use Rattle.std.specs.List.{list_all}
use Rattle.sea_text.specs.Distinct.{is_among}

-- no control character, no DEL, and no backquote
abbrev pub is_name_byte : ℕ → Bool
is_name_byte byte = nat_le 32 byte && (not (byte == 127) && not (byte == 96))

-- a name of a table, a column or a view: 1 to 64 such bytes, with no underscore in front
abbrev pub is_name : List ℕ → Bool
is_name name = nat_lt 0 (length name) && (nat_le (length name) 64 && (not (slice_index name 0 == 95) && list_all is_name_byte name))

-- a letter, a digit, an underscore or a hyphen
abbrev pub is_id_byte : ℕ → Bool
is_id_byte byte = (nat_le 65 byte && nat_le byte 90) || ((nat_le 97 byte && nat_le byte 122) || ((nat_le 48 byte && nat_le byte 57) || ((byte == 95) || (byte == 45))))

-- an id that a row may be given: 1 to 22 such bytes
abbrev pub is_id : List ℕ → Bool
is_id id = nat_lt 0 (length id) && (nat_le (length id) 22 && list_all is_id_byte id)

-- an option that a column may have: 1 to 64 bytes
abbrev pub is_option : List ℕ → Bool
is_option option = nat_lt 0 (length option) && nat_le (length option) 64

-- the first text that is in use or stands among those before it
abbrev pub first_repeat : (List ℕ → Bool) → List (List ℕ) → List (List ℕ) → Option (List ℕ)
first_repeat used before [] = None
first_repeat used before (text ∷ texts) = if used text || is_among before text then Some text else first_repeat used (before ++ text ∷ []) texts
