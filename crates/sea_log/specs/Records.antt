-- What the bytes of a log file stand for: a list of payloads, and the place of the gate that ends it.
use Rattle.std.specs.Prelude.{◌≡◌, ◌≢◌, ◌⊎◌, ℕ, ◌+◌, ◌-◌, ◌^◌, ◌<◌, min, List, [], ◌∷◌, ◌++◌, length}
use Rattle.std.specs.List.{AllByRecursion}
use Rattle.sea_fields.specs.Fields.{led}

-- records one behind another: an open gate, how many bytes the payload has, and its bytes
abbrev pub records : List (List ℕ) → List ℕ
records [] = []
records (payload ∷ payloads) = (1 ∷ led payload) ++ records payloads

-- each payload has a length that four bytes can tell
abbrev pub HaveLengths : List (List ℕ) → Type 0
HaveLengths payloads = AllByRecursion (λ payload. length payload < 2 ^ 32) payloads

-- The file has the records of these payloads and behind them, at this place, a gate that is closed, as any byte but 1
-- is. Whatever follows has no meaning.
pub record IsClosedAt (bytes : List ℕ) (payloads : List (List ℕ)) (end : ℕ) : Type 0 where
  pub gate : ℕ
  pub rest : List ℕ
  pub split : bytes ≡ records payloads ++ gate ∷ rest
  pub closed : gate ≢ 1
  pub place : end ≡ length (records payloads)
  pub lengths : HaveLengths payloads

-- a file of fewer bytes than the shortest record with the gate behind it
pub record IsShort (bytes : List ℕ) (payloads : List (List ℕ)) (end : ℕ) : Type 0 where
  pub short : length bytes < 6
  pub none : payloads ≡ []
  pub place : end ≡ 0

-- The file holds this list of payloads, and the gate that ends it is at this place. A short file holds none.
abbrev pub IsLog : List ℕ → List (List ℕ) → ℕ → Type 0
IsLog bytes payloads end = IsClosedAt bytes payloads end ⊎ IsShort bytes payloads end

-- the file holds this list of payloads
abbrev pub HoldsList : List (List ℕ) → List ℕ → Type 0
HoldsList payloads bytes = (end : ℕ) × IsLog bytes payloads end

-- the file holds this list of payloads, with one more at its end or without it
abbrev pub HoldsWithOrWithout : List (List ℕ) → List ℕ → List ℕ → Type 0
HoldsWithOrWithout payloads payload bytes = HoldsList payloads bytes ⊎ HoldsList (payloads ++ payload ∷ []) bytes

-- the file holds this list of payloads, or none
abbrev pub HoldsListOrNone : List (List ℕ) → List ℕ → Type 0
HoldsListOrNone payloads bytes = HoldsList payloads bytes ⊎ HoldsList [] bytes

-- how many bytes a log has whose last record is this payload behind a gate at this place, the closed gate behind it
-- included; a number past its last value stands there
abbrev pub size_with : ℕ → List ℕ → ℕ
size_with end payload = min (end + 6 + length payload) (2 ^ 64 - 1)
