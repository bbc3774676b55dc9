-- Without link columns no cell is filled in.
use Rattle.std.proofs.Common.{◌≡◌, List, [], ◌∷◌, fold, Bool, true, false, ◌||◌, is_some, Option, Some, None, refl, sym, ap, ◌∙◌}
use Rattle.std.specs.List.{list_any}
use Rattle.std.specs.Option.{option_map_or}
use Rattle.sea_cell.specs.declared.row.Cell.{Cell}
use Rattle.sea_cell.specs.declared.row.Row.{Row}
use Rattle.sea_cell.specs.declared.keys.RowId.{RowId}
use Rattle.sea_cell.specs.declared.column.Column.{Column}
use Rattle.sea_cell.specs.declared.column.LinkEnd.{LinkEnd}
use Rattle.sea_links.specs.declared.pair.LinkPair.{LinkPair}
use Rattle.sea_plain.specs.Linked.{with_links, row_shown}

neither : (one other : Bool) → (one || other) ≡ false → (one ≡ false) × (other ≡ false)
neither true other h = cc
neither false other h = (refl, h)

none_put : (put : LinkEnd → List Cell) (other : Option LinkEnd) (cells : List Cell) → is_some other ≡ false → option_map_or put other cells ≡ cells
none_put put None cells h = refl
none_put put (Some end) cells h = cc

no_links : (pairs : List LinkPair) (id : RowId) (cells : List Cell) (columns : List Column) → list_any (λ column. is_some column.other) columns ≡ false → fold (with_links pairs id) cells columns ≡ cells
no_links pairs id cells [] h = refl
no_links pairs id cells (column ∷ columns) h =
    let none = neither (is_some column.other) (list_any (λ it. is_some it.other) columns) h in
    ap (λ (it : List Cell). fold (with_links pairs id) it columns) (none_put _ column.other cells none.0)
    ∙ no_links pairs id cells columns none.1

pub same_cells : (pairs : List LinkPair) (columns : List Column) (row : Row) → list_any (λ column. is_some column.other) columns ≡ false → row ≡ row_shown pairs columns row
same_cells pairs columns row h = ap (λ (cells : List Cell). record row { cells = cells }) (sym (no_links pairs row.id row.cells columns h))
