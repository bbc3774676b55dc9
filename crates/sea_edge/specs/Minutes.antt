-- What a clock answers, where it tells that beforehand.
use Rattle.std.specs.Prelude.{◌≡◌, ℤ, Option, IfSome}

-- a clock that tells its answers gives this one
abbrev pub Tells : Option ℤ → ℤ → Type 0
Tells told minutes = IfSome told (λ answer. minutes ≡ answer)
