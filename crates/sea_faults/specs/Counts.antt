-- Counts of faults, by which a caller knows that the outside failed and not the callee.
use Rattle.std.specs.Prelude.{◌≡◌, ℕ, ◌+◌, ◌-◌, ◌^◌, ◌≤◌, min, Bool, true, false, Result, Ok, Err}

-- a count stands still here
abbrev pub last_count : ℕ
last_count = 2 ^ 64 - 1

-- the count after one more
abbrev pub one_more : ℕ → ℕ
one_more count = min (count + 1) last_count

-- The count rose from one moment to a later one. A count at its last value stays there, and has then risen all the same.
abbrev pub Rose : ℕ → ℕ → Type 0
Rose before now = (before ≤ now) × (one_more before ≤ now)

-- the count rose where a fault was met, and stands as it was where none was
abbrev pub IsCaused : Bool → ℕ → ℕ → Type 0
IsCaused true before now = Rose before now
IsCaused false before now = now ≡ before

-- a call fails exactly where the count of faults rose in it
abbrev pub HasCause : {T E : Type 0} → Result T E → ℕ → ℕ → Type 0
HasCause (Ok _) before now = now ≡ before
HasCause (Err _) before now = Rose before now

-- the count of faults after one call more, which met one or not
abbrev pub counted_on : Bool → ℕ → ℕ
counted_on true count = one_more count
counted_on false count = count

-- the count of faults after a call of this answer
abbrev pub faults_after : {T E : Type 0} → Result T E → ℕ → ℕ
faults_after (Ok _) faults = faults
faults_after (Err _) faults = one_more faults
