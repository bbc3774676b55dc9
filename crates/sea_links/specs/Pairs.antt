-- Pairs of rows that links join, in the order in which they were added.
use Rattle.std.specs.Prelude.{◌≡◌, ℕ, ◌&&◌, ◌==◌, List, [], ◌∷◌, ◌++◌, map, filter, Bool, false, not, if◌then◌else◌}
use Rattle.std.specs.List.{list_any}
use Rattle.std.specs.Str.{bytes_eq}
use Rattle.sea_cell.specs.declared.keys.RowId.{RowId}
use Rattle.sea_links.specs.declared.pair.LinkPair.{LinkPair}

-- ---- one pair

-- the pair is of this link, and joins these rows on these sides
abbrev pub is_pair : ℕ → RowId → RowId → LinkPair → Bool
is_pair link first second pair = (pair.link == link) && (bytes_eq pair.first.0 first.0 && bytes_eq pair.second.0 second.0)

-- the row on the link's first side, or the one on its other side
abbrev pub side : Bool → LinkPair → RowId
side first pair = if first then pair.first else pair.second

-- the pair is of this link, and the row is on this side of it
abbrev pub is_of : ℕ → Bool → RowId → LinkPair → Bool
is_of link first id pair = (pair.link == link) && bytes_eq (side first pair).0 id.0

-- ---- what is read from pairs

-- the link joins these rows
abbrev pub has_pair : List LinkPair → ℕ → RowId → RowId → Bool
has_pair pairs link first second = list_any (is_pair link first second) pairs

-- the rows that the link joins to a row on this side, in the order in which they were added
abbrev pub others_of : ℕ → Bool → RowId → List LinkPair → List RowId
others_of link first id pairs = map (side (not first)) (filter (is_of link first id) pairs)

-- the row is one of these
abbrev pub is_id_among : List RowId → RowId → Bool
is_id_among ids id = list_any (λ one. bytes_eq one.0 id.0) ids

-- no pair stands again behind its place
abbrev pub IsWithoutRepeats : List LinkPair → Type 0
IsWithoutRepeats [] = Unit {0}
IsWithoutRepeats (pair ∷ pairs) = (has_pair pairs pair.link pair.first pair.second ≡ false) × IsWithoutRepeats pairs

-- ---- changes

-- the pairs with one more, at the end
abbrev pub with_pair : List LinkPair → ℕ → RowId → RowId → List LinkPair
with_pair pairs link first second = pairs ++ record { link = link; first = first; second = second } ∷ []

-- a pair of another link or of other rows
abbrev pub is_other_pair : ℕ → RowId → RowId → LinkPair → Bool
is_other_pair link first second pair = not (is_pair link first second pair)

-- the pairs without this one
abbrev pub without_pair : List LinkPair → ℕ → RowId → RowId → List LinkPair
without_pair pairs link first second = filter (is_other_pair link first second) pairs

-- a pair of another link, or with another row on this side
abbrev pub is_of_other : ℕ → Bool → RowId → LinkPair → Bool
is_of_other link first id pair = not (is_of link first id pair)

-- the pairs without those of this link that have the row on this side
abbrev pub without_row : ℕ → Bool → RowId → List LinkPair → List LinkPair
without_row link first id pairs = filter (is_of_other link first id) pairs

-- a pair of another link
abbrev pub is_of_other_link : ℕ → LinkPair → Bool
is_of_other_link link pair = not (pair.link == link)

-- the pairs without those of this link
abbrev pub without_link : ℕ → List LinkPair → List LinkPair
without_link link pairs = filter (is_of_other_link link) pairs
