-- A moment is what its text says.
use Rattle.std.proofs.Common.{◌≡◌, ℕ, zero, suc, ◌+◌, ◌-◌, ◌*◌, ◌/◌, ◌%◌, ◌<◌, ◌≤◌, Bool, true, false, ◌&&◌, refl, ap, ◌∙◌, arith, ℤ, pos, unsigned_abs, List, [], ◌∷◌, ◌++◌, codes, Some}
use Rattle.std.proofs.lemmas.Bool.Decides.{nat_tests}
use Rattle.std.proofs.lemmas.Int.{ints, clamps}
use Rattle.std.specs.Int.{int_div_euclid, int_rem_euclid}
use Rattle.jiff_core.specs.Calendar.{IsCivilDate}
use Rattle.jiff_core.proofs.CalendarLemmas.{days_in_month_bounds}
use Rattle.jiff_core.proofs.SignedLemmas.{signed_arith}
use Rattle.jiff_fmt.specs.Text.{pad2, pad4}
use Rattle.sea_moment.specs.Moment.{IsMoment}
use Rattle.sea_moment.specs.Dates.{is_digit, has_form_of, number_in, is_day, day_number_of, day_in, minute_of_day, minute_in, moment_at, timed_moment_of, moment_of, year_of, month_of, day_of, day_text, clock_text, nearest_of, moment_text, IsDayNumber}
use Rattle.sea_moment.proofs.DayNumbers.{IsDateOf, date_of_day}

both : (p q : Bool) → p ≡ true → q ≡ true → (p && q) ≡ true
both p q h k = rw (h, k) refl

digit : (n : ℕ) → n < 10 → is_digit (48 + n) ≡ true
digit n h = grind (arith, nat_tests)

-- two digits are both digits
pair : (n : ℕ) (rest : Bool) → n < 100 → rest ≡ true → (is_digit (48 + n / 10) && (is_digit (48 + n % 10) && rest)) ≡ true
pair n rest h e = both _ _ (digit (n / 10) (omega arith)) (both _ _ (digit (n % 10) (omega arith)) e)

-- `YYYY-MM-DD`, and the same before a time
abbrev date_with : ℕ → ℕ → ℕ → List ℕ → List ℕ
date_with y m d rest = (pad4 y ++ 45 ∷ [] ++ pad2 m ++ 45 ∷ [] ++ pad2 d) ++ rest

date_form : (y m d : ℕ) → y < 10000 → m < 100 → d < 100 → has_form_of (date_with y m d []) (codes "0000-00-00") ≡ true
unfolding has_form_of
date_form y m d yh mh dh =
    pair (y / 100) _ (omega arith) (pair (y % 100) _ (omega arith) (pair m _ mh (pair d _ dh refl)))

timed_form : (y m d h n : ℕ) → y < 10000 → m < 100 → d < 100 → h < 100 → n < 100 → has_form_of (date_with y m d (32 ∷ pad2 h ++ 58 ∷ pad2 n)) (codes "0000-00-00 00:00") ≡ true
unfolding has_form_of
timed_form y m d h n yh mh dh hh nh =
    pair (y / 100) _ (omega arith) (pair (y % 100) _ (omega arith) (pair m _ mh (pair d _ dh (pair h _ hh (pair n _ nh refl)))))

not_date_form : (y m d h n : ℕ) → has_form_of (date_with y m d (32 ∷ pad2 h ++ 58 ∷ pad2 n)) (codes "0000-00-00") ≡ false
unfolding has_form_of
not_date_form y m d h n = refl

-- the two digits of a number below 100 write it
digits_write : (n : ℕ) → n < 100 → 10 * (48 + n / 10 - 48) + (48 + n % 10 - 48) ≡ n
digits_write n h = omega arith

is_day-true : (y m d : ℕ) → 1 ≤ y → y ≤ 9999 → IsCivilDate (pos y) m d → is_day y m d ≡ true
unfolding is_day
is_day-true y m d low high h = grind (arith, nat_tests)

day_in-date : (y m d : ℕ) (rest : List ℕ) → y < 10000 → m < 100 → d < 100 → day_in (date_with y m d rest) ≡ day_number_of y m d
unfolding day_in number_in
day_in-date y m d rest yh mh dh =
    let century = digits_write (y / 100) (omega arith) in
    let year : 100 * (y / 100) + y % 100 ≡ y = omega arith in
    rw (century, digits_write (y % 100) (omega arith), year, digits_write m mh, digits_write d dh)

day_number_of-is : (day : ℤ) (y m d : ℕ) → IsDateOf day y m d → day_number_of y m d ≡ Some day
unfolding day_number_of
day_number_of-is day y m d h = rw (is_day-true y m d h.low h.high h.date, h.number)

-- a date is read again, whatever follows it
day_in-again : (day : ℤ) (y m d : ℕ) (rest : List ℕ) → IsDateOf day y m d → day_in (date_with y m d rest) ≡ Some day
day_in-again day y m d rest h =
    let long = days_in_month_bounds (pos y) m in
    let date = h.date in
    day_in-date y m d rest (omega (arith, h.high)) (omega arith) (omega arith) ∙ day_number_of-is day y m d h

minute_of_day-is : (minute : ℕ) → minute < 1440 → minute_of_day (minute / 60) (minute % 60) ≡ Some minute
unfolding minute_of_day
minute_of_day-is minute h =
    let hour : minute / 60 < 24 = omega arith in
    let left : minute % 60 < 60 = omega arith in
    let whole : 60 * (minute / 60) + minute % 60 ≡ minute = omega arith in
    grind (arith, nat_tests)

-- and so is a time
minute_in-again : (y m d minute : ℕ) → minute < 1440 → minute_in (date_with y m d (32 ∷ pad2 (minute / 60) ++ 58 ∷ pad2 (minute % 60))) ≡ Some minute
unfolding minute_in number_in
minute_in-again y m d minute h =
    rw (digits_write (minute / 60) (omega arith), digits_write (minute % 60) (omega arith)) (minute_of_day-is minute h)

clock_text-timed : (minute : ℕ) → 0 < minute → clock_text minute ≡ 32 ∷ pad2 (minute / 60) ++ 58 ∷ pad2 (minute % 60)
unfolding clock_text
clock_text-timed minute h = grind (arith, nat_tests)

midnight : (day : ℤ) (y m d : ℕ) → IsDateOf day y m d → moment_of (date_with y m d []) ≡ Some (moment_at day 0)
unfolding moment_of
midnight day y m d h =
    let long = days_in_month_bounds (pos y) m in
    let date = h.date in
    let form = date_form y m d (omega (arith, h.high)) (omega arith) (omega arith) in
    let again = day_in-again day y m d [] h in
    rw (form, again)

timed : (day : ℤ) (y m d minute : ℕ) → IsDateOf day y m d → minute < 1440 → moment_of (date_with y m d (32 ∷ pad2 (minute / 60) ++ 58 ∷ pad2 (minute % 60))) ≡ Some (moment_at day minute)
unfolding moment_of timed_moment_of
timed day y m d minute h small =
    let long = days_in_month_bounds (pos y) m in
    let date = h.date in
    let hour : minute / 60 < 100 = omega arith in
    let left : minute % 60 < 100 = omega arith in
    let form = timed_form y m d (minute / 60) (minute % 60) (omega (arith, h.high)) (omega arith) (omega arith) hour left in
    let other = not_date_form y m d (minute / 60) (minute % 60) in
    let again = day_in-again day y m d (32 ∷ pad2 (minute / 60) ++ 58 ∷ pad2 (minute % 60)) h in
    rw (other, form, again, minute_in-again y m d minute small)

again : (day : ℤ) (y m d minute : ℕ) → IsDateOf day y m d → minute < 1440 → moment_of (date_with y m d (clock_text minute)) ≡ Some (moment_at day minute)
unfolding clock_text
again day y m d zero h small = midnight day y m d h
again day y m d (suc minute) h small =
    let clock = clock_text-timed (suc minute) (omega arith) in
    rw clock (timed day y m d (suc minute) h small)

nearest_of-same : (minutes : ℤ) → IsMoment minutes → nearest_of minutes ≡ minutes
unfolding nearest_of
nearest_of-same minutes h = omega (arith, ints, clamps)

-- what is left of a moment at its day is a minute of the day
parts : (minutes : ℤ) → IsMoment minutes → IsDayNumber (int_div_euclid minutes (pos 1440)) × (unsigned_abs (int_rem_euclid minutes (pos 1440)) < 1440) × (moment_at (int_div_euclid minutes (pos 1440)) (unsigned_abs (int_rem_euclid minutes (pos 1440))) ≡ minutes)
parts minutes h = (omega (arith, signed_arith), omega (arith, signed_arith), omega (arith, signed_arith))

pub read_again : (minutes : ℤ) → IsMoment minutes → moment_of (moment_text minutes) ≡ Some minutes
unfolding moment_text day_text
read_again minutes h =
    let near = nearest_of-same minutes h in
    let part = parts minutes h in
    let day : ℤ = int_div_euclid minutes (pos 1440) in
    let found = again day (year_of day) (month_of day) (day_of day) (unsigned_abs (int_rem_euclid minutes (pos 1440))) (date_of_day day part.0) part.1 in
    rw near (found ∙ ap Some part.2)
