-- What the forms in memory do at each call.
use Rattle.std.specs.Prelude.{ℕ, Result, Ok, Err}

-- how many bytes a take placed
abbrev pub placed : {E : Type 0} → Result ℕ E → ℕ
placed (Ok count) = count
placed (Err _) = 0
