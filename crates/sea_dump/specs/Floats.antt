-- The JSON of cells has no float. Crates above cite these.
use Rattle.std.specs.Prelude.{◌≡◌, ℕ, ℤ, pos, negsuc, List, [], ◌∷◌, false, map}
use Rattle.std.proofs.Common.{refl}
use Rattle.serde_json.specs.Data.{number, string}
use Rattle.serde_json.specs.Find.{of_integer}
use Rattle.serde_json.specs.View.{items_of}
use Rattle.serde_json.specs.Written.{has_float, items_have_float}
use Rattle.sea_cell.specs.Conversion.{json_of}
use Rattle.sea_cell.specs.declared.keys.RowId.{RowId}
use Rattle.sea_cell.specs.declared.values.CellValue.{CellValue}
use Rattle.sea_cell.specs.declared.values.CellValue.TheVariants as cell

pub texts_float : (texts : List (List ℕ)) → items_have_float (items_of (map string texts)) ≡ false
texts_float [] = refl
texts_float (_ ∷ texts) = texts_float texts

ids_float : (ids : List RowId) → items_have_float (items_of (map (λ id. string id.0) ids)) ≡ false
ids_float [] = refl
ids_float (_ ∷ ids) = ids_float ids

units_float : (units : ℤ) → has_float (number (of_integer units)) ≡ false
units_float (pos n) = refl
units_float (negsuc n) = refl

pub cell_float : (value : CellValue) → has_float (json_of value) ≡ false
cell_float (cell.Text _) = refl
cell_float cell.Empty = refl
cell_float (cell.Number units) = units_float units
cell_float (cell.Check _) = refl
cell_float (cell.Moment _) = refl
cell_float (cell.Choice _) = refl
cell_float (cell.Choices options) = texts_float options
cell_float (cell.Names names) = texts_float names
cell_float (cell.Links ids) = ids_float ids
