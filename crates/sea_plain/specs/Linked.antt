-- The tables of a base as readers see them: the cells of link columns are filled in from the pairs of linked rows.
use Rattle.std.specs.Prelude.{List, [], ◌∷◌, fold, map}
use Rattle.std.specs.Option.{option_map_or}
use Rattle.sea_cell.specs.Cells.{with_cell}
use Rattle.sea_cell.specs.declared.row.Cell.{Cell}
use Rattle.sea_cell.specs.declared.row.Row.{Row}
use Rattle.sea_cell.specs.declared.keys.RowId.{RowId}
use Rattle.sea_cell.specs.declared.column.Column.{Column}
use Rattle.sea_cell.specs.declared.column.LinkEnd.{LinkEnd}
use Rattle.sea_cell.specs.declared.values.CellValue.{CellValue}
use Rattle.sea_cell.specs.declared.values.CellValue.TheVariants.{Empty, Links}
use Rattle.sea_links.specs.Pairs.{others_of}
use Rattle.sea_links.specs.declared.pair.LinkPair.{LinkPair}
use Rattle.sea_operation.specs.declared.base.Plain.{Plain}
use Rattle.sea_operation.specs.declared.base.PlainTable.{PlainTable}
use Rattle.sea_plain.specs.declared.linked.TableRows.{TableRows}

-- linked rows as a cell; it's empty where there are none
abbrev pub links_cell : List RowId → CellValue
links_cell [] = Empty
links_cell (id ∷ ids) = Links (id ∷ ids)

-- the cells of a row with those that it is linked to at this end, in the order in which they were linked
abbrev pub with_linked : List LinkPair → RowId → List Cell → Column → LinkEnd → List Cell
with_linked pairs id cells column end = with_cell cells column.key (links_cell (others_of end.link end.first id pairs))

-- the same where the column is a link column
abbrev pub with_links : List LinkPair → RowId → List Cell → Column → List Cell
with_links pairs id cells column = option_map_or (with_linked pairs id cells column) column.other cells

-- a row of a table with these columns, with the cells of its link columns
abbrev pub row_shown : List LinkPair → List Column → Row → Row
row_shown pairs columns row = record row { cells = fold (with_links pairs row.id) row.cells columns }

-- a table and its rows, in order of row number
abbrev pub table_shown : List LinkPair → PlainTable → TableRows
table_shown pairs plain = record { no = plain.table.no; name = plain.table.name; columns = plain.table.columns; rows = map (row_shown pairs plain.table.columns) plain.rows }

-- the tables in order of number
abbrev pub tables_of : Plain → List TableRows
tables_of base = map (table_shown base.pairs) base.tables
