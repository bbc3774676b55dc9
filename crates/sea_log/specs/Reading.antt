-- What the parts of a scan read.
use Rattle.std.specs.Prelude.{◌≡◌, ◌≢◌, ℕ, ◌+◌, ◌^◌, ◌<◌, ◌≤◌, List, ◌∷◌, ◌++◌, length, get_or, take, drop, Option, Some, None}
use Rattle.std.specs.Int.{w32, to_be_bytes}
use Rattle.sea_fields.specs.Fields.{led}
use Rattle.sea_log.specs.declared.fault.LogFault.{LogFault}
use Rattle.sea_log.specs.declared.fault.LogFault.TheVariants.{Memory, DiskFault, BadLog, LogFull}

-- these bytes stand in a file from this place on
abbrev pub StandAt : List ℕ → ℕ → List ℕ → Type 0
StandAt bytes from content = bytes ≡ take (length bytes) (drop from content)

-- memory or the disk failed, and nothing is said of what the file holds
abbrev pub IsFromBelow : LogFault → Type 0
IsFromBelow Memory = Unit {0}
IsFromBelow DiskFault = Unit {0}
IsFromBelow BadLog = ⊥
IsFromBelow (LogFull _) = ⊥

-- the rest of a file begins with a gate that is open and has no record and no gate behind it
pub record IsNoRecord (rest : List ℕ) : Type 0 where
  pub opened : get_or rest 0 0 ≡ 1
  pub no_record : (payload : List ℕ) (gate : ℕ) (tail : List ℕ) → length payload < 2 ^ 32 → rest ≢ (1 ∷ led payload) ++ gate ∷ tail

-- The rest of a file begins with a closed gate, or with an open one, a length, and at least as many bytes and one more.
abbrev pub HasLength : Option ℕ → List ℕ → Type 0
HasLength None rest = get_or rest 0 0 ≢ 1
HasLength (Some count) rest = (take 5 rest ≡ 1 ∷ to_be_bytes w32 count) × (count + 6 ≤ length rest)

-- the rest of a file begins with a closed gate, or with the record of this payload
abbrev pub HasPayload : Option (List ℕ) → List ℕ → Type 0
HasPayload None rest = get_or rest 0 0 ≢ 1
HasPayload (Some payload) rest = (rest ≡ (1 ∷ led payload) ++ drop (5 + length payload) rest) × (length payload < 2 ^ 32)
