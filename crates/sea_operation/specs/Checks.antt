-- What a check of an operation answers.
use Rattle.std.specs.Prelude.{◌≡◌, ◌≢◌, Option, Some, None, Result, MatchResult}
use Rattle.sea_operation.specs.declared.refusal.OpRefusal.{OpRefusal}
use Rattle.sea_operation.specs.declared.refusal.OpRefusal.TheVariants.{Memory}

-- A check passes only where there is no refusal, and fails with the refusal that there is, or for want of memory.
abbrev pub Checks : {T : Type 0} → Result T OpRefusal → Option OpRefusal → Type 0
Checks result refusal = MatchResult result (λ _. refusal ≡ None) (λ fault. fault ≢ Memory → refusal ≡ Some fault)
