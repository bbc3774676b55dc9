-- Faults that are known beforehand: which calls are to fail, and what each call leaves of them.
use Rattle.std.specs.Prelude.{◌≡◌, ℕ, ◌+◌, ◌==◌, min, Bool, List}
use Rattle.std.specs.List.{list_any}
use Rattle.sea_faults.specs.Counts.{last_count, one_more}
use Rattle.sea_faults.specs.declared.plan.FaultPlan.{FaultPlan}

-- the call of this number is one of those listed
abbrev pub is_listed : List ℕ → ℕ → Bool
is_listed calls number = list_any (λ call. call == number) calls

-- with one call more
abbrev pub after_call : FaultPlan → FaultPlan
after_call plan = record plan { made = one_more plan.made }

-- the call at this place among those to come is listed by its number
abbrev pub is_due : FaultPlan → ℕ → Bool
is_due plan place = is_listed plan.fails (min (plan.made + (place + 1)) last_count)

-- with each call those that come after it stand one place further to the front
abbrev pub AreNext : (ℕ → Bool) → (ℕ → Bool) → Type 0
AreNext old new = (place : ℕ) → new place ≡ old (place + 1)
