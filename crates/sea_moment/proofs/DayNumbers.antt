-- The year, month and day that a day number of the years 1 to 9999 is of.
use Rattle.std.proofs.Common.{◌≡◌, ℕ, zero, suc, ◌+◌, ◌<◌, ◌≤◌, inl, inr, Bool, true, false, cond, refl, sym, ap, ◌∙◌, subst, arith, ℤ, pos, ◌+ℤ◌, ◌-ℤ◌, ◌<ℤ◌, ◌≤ℤ◌, unsigned_abs}
use Rattle.std.proofs.lemmas.Bool.{cases_order}
use Rattle.std.proofs.lemmas.Int.{by_lt_z, ints}
use Rattle.jiff_core.specs.declared.civil.date.Date.{Date}
use Rattle.jiff_core.specs.Calendar.{days_in_month, day_count, days_from_civil, IsYear, IsCivilDate}
use Rattle.jiff_core.specs.Date.{epoch_day}
use Rattle.jiff_core.proofs.CalendarLemmas.{days_from_civil-day_count, day_count_bounds, day_count-day_of_year, day_count-day, day_count-next_month, day_count-next_year, day_count-later_year, day_count-last_of_year, day_count-end}
use Rattle.jiff_core.proofs.DateLemmas.{civil, days_from_civil-day, epoch_day_injective}
use Rattle.jiff_core.proofs.MarchLemmas.{day_count-early}
use Rattle.jiff_core.proofs.SignedLemmas.{signed_arith, one_part}
use Rattle.jiff_fmt.specs.Text.{date_text}
use Rattle.sea_moment.specs.Dates.{last_where, has_begun, year_of, month_of, day_of, day_text, IsDayNumber}

-- 0001-01-01 lies 3,652,791 days after the first day of the calendar's count
day_count-year_one : day_count (pos 1) 1 1 ≡ 3_652_791
day_count-year_one = day_count-early (pos 1) 10000 1 1 refl (omega arith) (omega arith) (omega arith)

-- no year from 1 on begins before it
day_count-low : (y : ℕ) → 1 ≤ y → 3_652_791 ≤ day_count (pos y) 1 1
day_count-low y h =
    by_lt_z (pos 1) (pos y)
    (λ lt. omega (arith, day_count-year_one, day_count-later_year (pos 1) (pos y) (omega (arith, signed_arith)) lt))
    (λ le. let e : y ≡ 1 = omega (arith, signed_arith) in rw e (omega (arith, day_count-year_one)))

-- a day of the years from 1 on has a day number of theirs
pub day_number-range : (y m d : ℕ) → 1 ≤ y → IsCivilDate (pos y) m d → IsDayNumber (days_from_civil (pos y) m d)
day_number-range y m d low h =
    let begun = day_count-low y low in
    let place = day_count-day_of_year (pos y) m d h.2.0 in
    let bounds = day_count_bounds (pos y) m d h in
    omega (arith, signed_arith, days_from_civil-day_count)

-- ---- the last number that passes

pub record IsLast (passes : ℕ → Bool) (n k : ℕ) : Type 0 where
  pub low : 1 ≤ k
  pub high : k ≤ n
  pub holds : passes k ≡ true
  pub none : (j : ℕ) → k < j → j ≤ n → passes j ≡ false

above_none : (passes : ℕ → Bool) (n k j : ℕ) → passes (suc n) ≡ false → ((i : ℕ) → k < i → i ≤ n → passes i ≡ false) → k < j → j ≤ suc n → passes j ≡ false
above_none passes n k j e none low high =
    elim (cases_order j (suc n)) [
      | inl same ↦ rw same e
      | inr (inl lt) ↦ none j low (omega arith)
      | inr (inr gt) ↦ absurd (omega arith)
    ]

last_step : (passes : ℕ → Bool) (n k : ℕ) (b : Bool) → passes (suc n) ≡ b → k ≤ suc n → passes k ≡ true → (k ≤ n → IsLast passes n (last_where passes n)) → IsLast passes (suc n) (cond b (suc n) (last_where passes n))
last_step passes n k true e high holds rest = record { low = omega arith; high = omega arith; holds = e; none = λ j lt le. absurd (omega arith) }
last_step passes n k false e high holds rest =
    let apart : k ≡ suc n → ⊥ = λ same. let clash : passes (suc n) ≡ true = subst (λ (i : ℕ). passes i ≡ true) same holds in cc in
    let found = rest (omega arith) in
    record { low = found.low; high = omega (arith, found.high); holds = found.holds; none = λ j lt le. above_none passes n (last_where passes n) j e found.none lt le }

pub last_where-is_last : (passes : ℕ → Bool) (n k : ℕ) → 1 ≤ k → k ≤ n → passes k ≡ true → IsLast passes n (last_where passes n)
unfolding last_where
last_where-is_last passes zero k low high holds = absurd (omega arith)
last_where-is_last passes (suc n) k low high holds =
    last_step passes n k (passes (suc n)) refl high holds (λ le. last_where-is_last passes n k low le holds)

-- ---- the year, the month and the day

begun-true : (day : ℤ) (y m : ℕ) → days_from_civil (pos y) m 1 ≤ℤ day → has_begun day y m ≡ true
unfolding has_begun
begun-true day y m h = grind (arith, ints)

true-begun : (day : ℤ) (y m : ℕ) → has_begun day y m ≡ true → days_from_civil (pos y) m 1 ≤ℤ day
unfolding has_begun
true-begun day y m h = grind (arith, ints)

false-begun : (day : ℤ) (y m : ℕ) → has_begun day y m ≡ false → day <ℤ days_from_civil (pos y) m 1
unfolding has_begun
false-begun day y m h = grind (arith, ints)

year-is_last : (day : ℤ) → IsDayNumber day → IsLast (λ year. has_begun day year 1) 9999 (year_of day)
unfolding year_of
year-is_last day h =
    let first : days_from_civil (pos 1) 1 1 ≤ℤ day = omega (arith, signed_arith, days_from_civil-day_count, day_count-year_one) in
    last_where-is_last (λ year. has_begun day year 1) 9999 1 (omega arith) (omega arith) (begun-true day 1 1 first)

month-is_last : (day : ℤ) → IsDayNumber day → IsLast (λ month. has_begun day (year_of day) month) 12 (month_of day)
unfolding month_of
month-is_last day h =
    last_where-is_last (λ month. has_begun day (year_of day) month) 12 1 (omega arith) (omega arith) (year-is_last day h).holds

-- the year of a day ends after it
year_ends : (day : ℤ) (y : ℕ) → IsDayNumber day → IsLast (λ year. has_begun day year 1) 9999 y → day <ℤ (days_from_civil (pos y) 12 31 +ℤ pos 1)
year_ends day y h last =
    let whole = day_count-last_of_year (pos y) in
    let next = day_count-next_year (pos y) (pos (y + 1)) (omega (arith, signed_arith)) refl in
    elim (cases_order y 9999) [
      | inl same ↦ let e : pos y ≡ pos 9999 = ap pos same in
          let final : day_count (pos (y + 1)) 1 1 ≡ 7_304_850 = rw same day_count-end in
          omega (arith, signed_arith, days_from_civil-day_count)
      | inr (inl lt) ↦ let later = false-begun day (y + 1) 1 (last.none (y + 1) (omega arith) (omega arith)) in
          omega (arith, signed_arith, days_from_civil-day_count)
      | inr (inr gt) ↦ absurd (omega (arith, last.high))
    ]

-- and so does its month
month_ends : (day : ℤ) (y m : ℕ) → IsLast (λ month. has_begun day y month) 12 m → day <ℤ (days_from_civil (pos y) 12 31 +ℤ pos 1) → day <ℤ (days_from_civil (pos y) m 1 +ℤ pos (days_in_month (pos y) m))
month_ends day y m last ends =
    elim (cases_order m 12) [
      | inl same ↦ rw same (omega (arith, signed_arith, days_from_civil-day_count, day_count-day (pos y) 12 31 1 (omega arith) (omega arith)))
      | inr (inl lt) ↦ let later = false-begun day y (m + 1) (last.none (m + 1) (omega arith) (omega arith)) in
          let next = day_count-next_month (pos y) m last.low in
          omega (arith, signed_arith, days_from_civil-day_count)
      | inr (inr gt) ↦ absurd (omega (arith, last.high))
    ]

-- a year, a month and a day that the calendar has, whose day number is this
pub record IsDateOf (day : ℤ) (y m d : ℕ) : Type 0 where
  pub low : 1 ≤ y
  pub high : y ≤ 9999
  pub date : IsCivilDate (pos y) m d
  pub number : days_from_civil (pos y) m d ≡ day

in_month : (day : ℤ) (y m d : ℕ) → 1 ≤ y → y ≤ 9999 → 1 ≤ m → m ≤ 12 → days_from_civil (pos y) m 1 ≤ℤ day → day <ℤ (days_from_civil (pos y) m 1 +ℤ pos (days_in_month (pos y) m)) → d ≡ unsigned_abs (day +ℤ pos 1 -ℤ days_from_civil (pos y) m 1) → IsDateOf day y m d
in_month day y m d low high m_low m_high begun ends e =
    let place : day +ℤ pos 1 ≡ days_from_civil (pos y) m 1 +ℤ pos d = omega (arith, signed_arith, one_part (day +ℤ pos 1 -ℤ days_from_civil (pos y) m 1)) in
    let d_low : 1 ≤ d = omega (arith, signed_arith) in
    let d_high : d ≤ days_in_month (pos y) m = omega (arith, signed_arith) in
    let moved = days_from_civil-day (pos y) m 1 d (omega arith) d_low in
    let year : IsYear (pos y) = omega (arith, signed_arith) in
    record { low = low; high = high; date = (year, (m_low, m_high), (d_low, d_high)); number = omega (arith, signed_arith) }

-- each day number of the years 1 to 9999 is of its year, month and day
pub date_of_day : (day : ℤ) → IsDayNumber day → IsDateOf day (year_of day) (month_of day) (day_of day)
unfolding day_of
date_of_day day h =
    let year = year-is_last day h in
    let month = month-is_last day h in
    let ends = month_ends day (year_of day) (month_of day) month (year_ends day (year_of day) h year) in
    in_month day (year_of day) (month_of day) (unsigned_abs (day +ℤ pos 1 -ℤ days_from_civil (pos (year_of day)) (month_of day) 1)) year.low year.high month.low month.high (true-begun day (year_of day) (month_of day) month.holds) ends refl

date_with : (y m d : ℕ) → IsCivilDate (pos y) m d → Date
date_with y m d h = record { year = pos y; month = m; day = d; year_in = h.0; month_in = h.1; day_in = h.2 }

same_text : (a b : Date) → a.year ≡ b.year → a.month ≡ b.month → a.day ≡ b.day → date_text a ≡ date_text b
same_text a b year month day = rw (year, month, day)

-- a date prints as its day number does
pub date_text-day_text : (date : Date) (day : ℤ) → IsDayNumber day → epoch_day date ≡ day → date_text date ≡ day_text day
unfolding day_text date_with
date_text-day_text date day h e =
    let is = date_of_day day h in
    let own = date_with (year_of day) (month_of day) (day_of day) is.date in
    let same = epoch_day_injective date own (e ∙ sym is.number) in
    same_text date own same.0 same.1 same.2

-- the same of a date
pub date-range : (date : Date) (y : ℕ) → date.year ≡ pos y → 1 ≤ y → IsDayNumber (epoch_day date)
date-range date y e low =
    let h = rw e at (civil date) in
    rw e (day_number-range y date.month date.day low h)
