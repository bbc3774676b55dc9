-- What a call answers.
use Rattle.std.specs.Prelude.{◌≡◌, ◌≢◌, Result, Ok, Err, MatchResult}

-- A call's answer is the defined one, unless memory ran out.
abbrev pub Answers : {T E : Type 0} → E → Result T E → Result T E → Type 0
Answers memory result defined = MatchResult result (λ value. defined ≡ Ok value) (λ fault. fault ≢ memory → defined ≡ Err fault)
