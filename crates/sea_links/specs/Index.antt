-- Pairs by their numbers, and the numbers that an index has of each row.
use Rattle.std.specs.Prelude.{◌≡◌, ◌<◌, ℕ, ◌&&◌, ◌==◌, List, [], ◌∷◌, ◌++◌, filter, Bool, false, if◌then◌else◌, Option, Some, None, String}
use Rattle.std.specs.BTreeMap.{BTreeMap, get, get_by_text, is_at}
use Rattle.std.specs.BTreeSet.{BTreeSet, insert_key}
use Rattle.std.specs.Map.{keys_of, lookup}
use Rattle.std.specs.Option.{option_to_list}
use Rattle.std.specs.Ordering.{nat_cmp}
use Rattle.std.specs.Set.{remove_key}
use Rattle.std.specs.Str.{bytes_eq}
use Rattle.sea_cell.specs.declared.keys.RowId.{RowId}
use Rattle.sea_links.specs.declared.pair.LinkPair.{LinkPair}
use Rattle.sea_links.specs.Pairs.{is_of}

-- ---- pairs by number

-- each pair with its number, the first one added first
abbrev pub NumberedPairs : Type 0
NumberedPairs = List (ℕ × LinkPair)

-- the pair of a number
abbrev pub pair_at : NumberedPairs → ℕ → Option LinkPair
pair_at pairs number = lookup (is_at (nat_cmp number)) pairs

-- the pairs of these numbers
abbrev pub pairs_at : NumberedPairs → List ℕ → List LinkPair
pairs_at pairs [] = []
pairs_at pairs (number ∷ numbers) = option_to_list (pair_at pairs number) ++ pairs_at pairs numbers

-- a pair is there, and passes
abbrev pub passes : (LinkPair → Bool) → Option LinkPair → Bool
passes test None = false
passes test (Some pair) = test pair

-- no number reaches a bound
abbrev pub IsBelow : ℕ → NumberedPairs → Type 0
IsBelow bound [] = Unit {0}
IsBelow bound (pair ∷ pairs) = (pair.0 < bound) × IsBelow bound pairs

-- the numbers of the pairs of this link that have the row on this side
abbrev pub numbers_of : ℕ → Bool → RowId → NumberedPairs → List ℕ
numbers_of link first id pairs = keys_of (filter (λ pair. is_of link first id pair.1) pairs)

-- ---- the numbers that an index has

-- none, where there is no set
abbrev pub keys_in : Option (BTreeSet ℕ) → List ℕ
keys_in None = []
keys_in (Some numbers) = numbers.keys

-- the numbers under a row's id
abbrev pub numbers_under : {Y : Type 0} → BTreeMap (String Y) (BTreeSet ℕ) → List ℕ → List ℕ
numbers_under rows id = keys_in (get_by_text rows id)

-- the same, where the link has any rows
abbrev pub numbers_in : {Y : Type 0} → Option (BTreeMap (String Y) (BTreeSet ℕ)) → List ℕ → List ℕ
numbers_in None id = []
numbers_in (Some rows) id = numbers_under rows id

-- the numbers under a link and a row's id
abbrev pub numbers_at : {Y : Type 0} → BTreeMap ℕ (BTreeMap (String Y) (BTreeSet ℕ)) → ℕ → List ℕ → List ℕ
numbers_at side link id = numbers_in (get nat_cmp side link) id

-- ---- the changes of an index

-- the same numbers
abbrev pub HasSameNumbers : (ℕ → List ℕ → List ℕ) → (ℕ → List ℕ → List ℕ) → Type 0
HasSameNumbers old new = (link : ℕ) (id : List ℕ) → new link id ≡ old link id

-- one more number under a link and a row
abbrev pub HasOneMore : ℕ → RowId → ℕ → (ℕ → List ℕ → List ℕ) → (ℕ → List ℕ → List ℕ) → Type 0
HasOneMore link row number old new = (other : ℕ) (id : List ℕ) → new other id ≡ (if (link == other) && bytes_eq row.0 id then insert_key nat_cmp (old other id) number else old other id)

-- one number less under a link and a row
abbrev pub HasOneLess : ℕ → RowId → ℕ → (ℕ → List ℕ → List ℕ) → (ℕ → List ℕ → List ℕ) → Type 0
HasOneLess link row number old new = (other : ℕ) (id : List ℕ) → new other id ≡ (if (link == other) && bytes_eq row.0 id then remove_key (is_at (nat_cmp number)) (old other id) else old other id)

-- an index tells of each link and row the numbers of the pairs that have the row on this side of the link
abbrev pub TellsNumbers : Bool → (ℕ → List ℕ → List ℕ) → NumberedPairs → Type 0
TellsNumbers first numbers pairs = (link : ℕ) (id : RowId) → numbers link id.0 ≡ numbers_of link first id pairs
