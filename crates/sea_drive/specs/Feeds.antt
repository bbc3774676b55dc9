-- The line `feed`: which texts ask for a feed.
use Rattle.std.specs.Prelude.{ℕ, ◌&&◌, ◌==◌, List, length, slice_index, Bool, not, nat_lt, nat_le, if◌then◌else◌, Option, Some, None}
use Rattle.std.specs.Char.{is_ascii_digit}
use Rattle.std.specs.List.{list_all, before_first, after_first}
use Rattle.std.specs.Str.Parse.{digits_value}

-- one to 18 decimal digits, without a zero in front of others
abbrev pub is_number : List ℕ → Bool
is_number word =
    nat_lt 0 (length word) && (nat_le (length word) 18 && (not ((slice_index word 0 == 48) && nat_lt 1 (length word)) && list_all is_ascii_digit word))

-- the number that a word is
abbrev pub number_of : List ℕ → Option ℕ
number_of word = if is_number word then Some (digits_value 10 word) else None

-- a version, and a count from 1 to 1,000
abbrev pub version_and_count : Option ℕ → Option ℕ → Option (ℕ × ℕ)
version_and_count (Some from) (Some most) = if nat_le 1 most && nat_le most 1000 then Some (from, most) else None
version_and_count (Some from) None = None
version_and_count None most = None

-- the version and the count that a text asks for: its two words, which one space parts
abbrev pub feed_words : List ℕ → Option (ℕ × ℕ)
feed_words text = version_and_count (number_of (before_first (λ byte. byte == 32) text)) (number_of (after_first (λ byte. byte == 32) text))
