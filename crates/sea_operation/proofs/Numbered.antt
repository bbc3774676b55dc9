-- The new row in each place, with its number.
use Rattle.std.proofs.Common.{◌≡◌, ℕ, zero, suc, ◌+◌, List, [], ◌∷◌, slice_get, Some, option_map, refl, ap, ◌∙◌, arith}
use Rattle.sea_cell.specs.declared.keys.Moment.{Moment}
use Rattle.sea_cell.specs.declared.column.Column.{Column}
use Rattle.sea_operation.specs.declared.operation.OpRow.{OpRow}
use Rattle.sea_operation.specs.RowsOf.{id_of, ids_of, row_of, rows_of}

pub row_at : (columns : List Column) (moment : Moment) (number : ℕ) (rows : List OpRow) (at : ℕ) → slice_get (rows_of columns moment number rows) at ≡ option_map (row_of columns moment (number + at)) (slice_get rows at)
row_at columns moment number [] at = refl
row_at columns moment number (row ∷ rows) zero = let first : number ≡ number + 0 = omega arith in ap (λ (it : ℕ). Some (row_of columns moment it row)) first
row_at columns moment number (row ∷ rows) (suc at) =
    let next : number + 1 + at ≡ number + suc at = omega arith in
    row_at columns moment (number + 1) rows at ∙ ap (λ (it : ℕ). option_map (row_of columns moment it) (slice_get rows at)) next

pub id_at : (number : ℕ) (rows : List OpRow) (at : ℕ) → slice_get (ids_of number rows) at ≡ option_map (id_of (number + at)) (slice_get rows at)
id_at number [] at = refl
id_at number (row ∷ rows) zero = let first : number ≡ number + 0 = omega arith in ap (λ (it : ℕ). Some (id_of it row)) first
id_at number (row ∷ rows) (suc at) = let next : number + 1 + at ≡ number + suc at = omega arith in id_at (number + 1) rows at ∙ ap (λ (it : ℕ). option_map (id_of it) (slice_get rows at)) next
