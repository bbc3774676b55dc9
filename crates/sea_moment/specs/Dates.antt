-- Moments as texts, `2024-02-29` and `2024-02-29 17:30`, by the calendar of ISO 8601: the Gregorian one in every year.
use Rattle.std.specs.Prelude.{ℕ, zero, suc, ◌+◌, ◌-◌, ◌*◌, ◌/◌, ◌%◌, Bool, ◌&&◌, ◌||◌, ◌==◌, nat_lt, nat_le, if◌then◌else◌, ℤ, pos, ◌+ℤ◌, ◌-ℤ◌, ◌*ℤ◌, neg_ℤ, unsigned_abs, List, [], ◌∷◌, ◌++◌, length, slice_index, codes, Option, Some, None, option_map, option_and_then}
use Rattle.std.specs.List.{list_all, zip}
use Rattle.std.specs.Int.{int_max, int_min, int_div_euclid, int_rem_euclid}
use Rattle.std.specs.Int.Signed.{le_z}
use Rattle.jiff_core.specs.Calendar.{IsBetween, days_in_month, days_from_civil}
use Rattle.jiff_fmt.specs.Text.{pad2, pad4}
use Rattle.sea_moment.specs.Moment.{first_moment, last_moment}

-- the digits from `0` to `9`
abbrev pub is_digit : ℕ → Bool
is_digit byte = nat_le 48 byte && nat_le byte 57

-- A byte is as a pattern asks: some digit where the pattern has a `0`, and elsewhere the pattern's own byte.
abbrev pub is_as_asked : ℕ → ℕ → Bool
is_as_asked byte asked = if asked == 48 then is_digit byte else byte == asked

-- a text as long as the pattern, each byte of which is as the pattern asks
unfoldable pub has_form_of : List ℕ → List ℕ → Bool
has_form_of text pattern = (length text == length pattern) && list_all (λ pair. is_as_asked pair.0 pair.1) (zip text pattern)

-- the number that the two digits at a place write
unfoldable pub number_in : List ℕ → ℕ → ℕ
number_in text place = 10 * (slice_index text place - 48) + (slice_index text (place + 1) - 48)

-- The calendar has this day, in the years 1 to 9999.
unfoldable pub is_day : ℕ → ℕ → ℕ → Bool
is_day year month day = nat_le 1 year && (nat_le year 9999 && (nat_le 1 month && (nat_le month 12 && (nat_le 1 day && nat_le day (days_in_month (pos year) month)))))

-- the day number of a day that the calendar has: how many days it lies after 1970-01-01
unfoldable pub day_number_of : ℕ → ℕ → ℕ → Option ℤ
day_number_of year month day = if is_day year month day then Some (days_from_civil (pos year) month day) else None

-- the day that `YYYY-MM-DD` says at the beginning of a text
unfoldable pub day_in : List ℕ → Option ℤ
day_in text = day_number_of (100 * number_in text 0 + number_in text 2) (number_in text 5) (number_in text 8)

-- the minute of the day of a time from 00:00 to 23:59
unfoldable pub minute_of_day : ℕ → ℕ → Option ℕ
minute_of_day hour minute = if nat_lt hour 24 && nat_lt minute 60 then Some (60 * hour + minute) else None

-- the minute of the day that `HH:MM` says behind a date and one byte
unfoldable pub minute_in : List ℕ → Option ℕ
minute_in text = minute_of_day (number_in text 11) (number_in text 14)

-- the moment at a minute of a day
abbrev pub moment_at : ℤ → ℕ → ℤ
moment_at day minute = day *ℤ pos 1440 +ℤ pos minute

-- the moment that a text of a date and a time says
unfoldable pub timed_moment_of : List ℕ → Option ℤ
timed_moment_of text = option_and_then (λ day. option_map (λ minute. moment_at day minute) (minute_in text)) (day_in text)

-- The moment that a text says: a date, which is its 00:00, or a date, a space or `T`, and a time. No other text says one.
unfoldable pub moment_of : List ℕ → Option ℤ
moment_of text =
    if has_form_of text (codes "0000-00-00") then option_map (λ day. moment_at day 0) (day_in text)
    else (if has_form_of text (codes "0000-00-00 00:00") || has_form_of text (codes "0000-00-00T00:00")
    then timed_moment_of text else None)

-- the greatest number from 1 to n that passes a test, or 0 where none does
unfoldable pub last_where : (ℕ → Bool) → ℕ → ℕ
last_where passes zero = 0
last_where passes (suc n) = if passes (suc n) then suc n else last_where passes n

-- a month has begun by a day: its first is no later
unfoldable pub has_begun : ℤ → ℕ → ℕ → Bool
has_begun day year month = le_z (days_from_civil (pos year) month 1) day

-- the year of a day: the last of the years 1 to 9999 that has begun
unfoldable pub year_of : ℤ → ℕ
year_of day = last_where (λ year. has_begun day year 1) 9999

-- its month: the last of the year's months that has begun
unfoldable pub month_of : ℤ → ℕ
month_of day = last_where (λ month. has_begun day (year_of day) month) 12

-- its day of the month, where the first is 1
unfoldable pub day_of : ℤ → ℕ
day_of day = unsigned_abs (day +ℤ pos 1 -ℤ days_from_civil (pos (year_of day)) (month_of day) 1)

-- a day as `YYYY-MM-DD`
unfoldable pub day_text : ℤ → List ℕ
day_text day = pad4 (year_of day) ++ 45 ∷ [] ++ pad2 (month_of day) ++ 45 ∷ [] ++ pad2 (day_of day)

-- a minute of the day as ` HH:MM`, and as nothing at midnight
unfoldable pub clock_text : ℕ → List ℕ
clock_text minute = if minute == 0 then [] else 32 ∷ pad2 (minute / 60) ++ 58 ∷ pad2 (minute % 60)

-- the moment nearest to a number of minutes
unfoldable pub nearest_of : ℤ → ℤ
nearest_of minutes = int_max first_moment (int_min minutes last_moment)

-- How a moment is printed: its day, and its time where that isn't midnight. Beyond the range it's the nearer end.
unfoldable pub moment_text : ℤ → List ℕ
moment_text minutes = day_text (int_div_euclid (nearest_of minutes) (pos 1440)) ++ clock_text (unsigned_abs (int_rem_euclid (nearest_of minutes) (pos 1440)))

-- the day numbers from 0001-01-01 to 9999-12-31
abbrev pub IsDayNumber : ℤ → Type 0
IsDayNumber day = IsBetween (neg_ℤ (pos 719_162)) (pos 2_932_896) day
