-- The cells of a row, as a finite map from column key to value: by rising key, and without Empty values.
use Rattle.std.specs.Prelude.{◌≡◌, ℕ, ◌<◌, ◌≤◌, ◌==◌, List, [], ◌∷◌, ◌++◌, length, filter, nat_lt, Option, option_map, unwrap_or, slice_index_or}
use Rattle.std.specs.List.{find, AllByRecursion}
use Rattle.sea_cell.specs.declared.keys.ColKey.{ColKey}
use Rattle.sea_cell.specs.declared.values.CellValue.{CellValue}
use Rattle.sea_cell.specs.declared.values.CellValue.TheVariants.{Empty, Moment}
use Rattle.sea_cell.specs.declared.row.Cell.{Cell}
use Rattle.sea_cell.specs.declared.row.Row.{Row}
use Rattle.sea_cell.specs.declared.column.ColKind.{ColKind}
use Rattle.sea_cell.specs.declared.column.ColKind.TheVariants as kind
use Rattle.sea_cell.specs.declared.column.Column.{Column}

-- each key is above this one
abbrev pub IsAbove : ColKey → List Cell → Type 0
IsAbove key cells = AllByRecursion (λ cell. key.0 < cell.key.0) cells

-- each key is above the one before it
abbrev pub IsRising : List Cell → Type 0
IsRising [] = Unit {0}
IsRising (cell ∷ cells) = IsAbove cell.key cells × IsRising cells

-- a value that is stored
abbrev pub IsFilled : CellValue → Type 0
IsFilled Empty = ⊥
IsFilled _ = Unit {0}

pub record IsCells (cells : List Cell) : Type 0 where
  pub rising : IsRising cells
  pub filled : AllByRecursion (λ cell. IsFilled cell.value) cells

-- the value under a key
abbrev pub cell_under : List Cell → ColKey → Option CellValue
cell_under cells key = option_map (λ cell. cell.value) (find (λ cell. cell.key.0 == key.0) cells)

-- the one cell that stores a value, and none for Empty
abbrev pub stored : ColKey → CellValue → List Cell
stored key Empty = []
stored key value = record { key = key; value = value } ∷ []

-- the cells with keys below this one
abbrev pub below : ColKey → List Cell → List Cell
below key cells = filter (λ cell. nat_lt cell.key.0 key.0) cells

-- the cells with keys above it
abbrev pub above : ColKey → List Cell → List Cell
above key cells = filter (λ cell. nat_lt key.0 cell.key.0) cells

-- the cells with this value under the key, in the place of what stood there
abbrev pub with_cell : List Cell → ColKey → CellValue → List Cell
with_cell cells key value = below key cells ++ (stored key value ++ above key cells)

-- the key at a place
abbrev pub key_at : List Cell → ℕ → ℕ
key_at cells place = let cell = slice_index_or cells place (record { key = record { 0 = 0 }; value = Empty }) in cell.key.0

-- the cell at a place has the key
pub record IsAt (cells : List Cell) (key : ColKey) (place : ℕ) : Type 0 where
  pub within : place < length cells
  pub same : key_at cells place ≡ key.0

-- no cell has the key, which would stand at a place
pub record IsGap (cells : List Cell) (key : ColKey) (place : ℕ) : Type 0 where
  pub within : place ≤ length cells
  pub before : (i : ℕ) → i < place → key_at cells i < key.0
  pub after : (i : ℕ) → place ≤ i → i < length cells → key.0 < key_at cells i

-- The cell of a row under a column of a type: when the row was made or last changed, or what is stored under the key.
abbrev pub cell_of_type : ColKind → Row → ColKey → CellValue
cell_of_type kind.Made row key = Moment row.made
cell_of_type kind.Changed row key = Moment row.changed
cell_of_type _ row key = unwrap_or (cell_under row.cells key) Empty

abbrev pub cell_in : Row → Column → CellValue
cell_in row column = cell_of_type column.kind row column.key
