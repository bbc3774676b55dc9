-- The new column in each place, with its key.
use Rattle.std.proofs.Common.{◌≡◌, ℕ, zero, suc, ◌+◌, List, [], ◌∷◌, slice_get, Some, option_map, refl, ap, ◌∙◌, arith}
use Rattle.sea_cell.specs.declared.column.NewColumn.{NewColumn}
use Rattle.sea_schema.specs.Tables.{column_of, columns_of}

pub column-at : (key : ℕ) (columns : List NewColumn) (at : ℕ) → slice_get (columns_of key columns) at ≡ option_map (column_of (key + at)) (slice_get columns at)
column-at key [] at = refl
column-at key (column ∷ columns) zero = let first : key ≡ key + 0 = omega arith in ap (λ (it : ℕ). Some (column_of it column)) first
column-at key (column ∷ columns) (suc at) = let next : key + 1 + at ≡ key + suc at = omega arith in column-at (key + 1) columns at ∙ ap (λ (it : ℕ). option_map (column_of it) (slice_get columns at)) next
