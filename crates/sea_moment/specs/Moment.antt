-- The moments that the project tells apart: whole minutes from 1970-01-01 00:00 UTC, in the years 1 to 9999.
use Rattle.std.specs.Prelude.{ℤ, pos, negsuc, ◌≤ℤ◌, Bool, nat_lt, nat_le}

-- 0001-01-01 00:00
abbrev pub first_moment : ℤ
first_moment = negsuc 1035593279

-- 9999-12-31 23:59
abbrev pub last_moment : ℤ
last_moment = pos 4223371679

-- a moment lies in the range, both ends included
abbrev pub IsMoment : ℤ → Type 0
IsMoment minutes = (first_moment ≤ℤ minutes) × (minutes ≤ℤ last_moment)

-- the same as a test
abbrev pub is_in_range : ℤ → Bool
is_in_range (pos minutes) = nat_le minutes 4223371679
is_in_range (negsuc minutes) = nat_lt minutes 1035593280
