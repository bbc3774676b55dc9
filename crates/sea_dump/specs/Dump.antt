-- The lines of a base: of each table in order of number one that names its columns, then one of each row in order of row
-- number. Each is compact JSON (RFC 8259) with its members in byte order, and ends with a newline.
use Rattle.std.specs.Prelude.{◌≡◌, ℕ, List, [], ◌∷◌, ◌++◌, map, fold, flat_map, Bool, true, false, Option, Result, Err, codes}
use Rattle.std.specs.Io.KnownBytes.{Appends}
use Rattle.serde_json.specs.Data.{Data, string, object, Members, no_members, member, put}
use Rattle.serde_json.specs.Written.{compact_text}
use Rattle.sea_cell.specs.Cells.{cell_in}
use Rattle.sea_cell.specs.Conversion.{json_of, texts_json}
use Rattle.sea_cell.specs.declared.row.Row.{Row}
use Rattle.sea_cell.specs.declared.column.Column.{Column}
use Rattle.sea_cell.specs.declared.values.CellValue.{CellValue}
use Rattle.sea_cell.specs.declared.values.CellValue.TheVariants.{Empty}
use Rattle.sea_plain.specs.Linked.{tables_of}
use Rattle.sea_operation.specs.declared.base.Plain.{Plain}
use Rattle.sea_plain.specs.declared.linked.TableRows.{TableRows}
use Rattle.sea_dump.specs.declared.output.DumpFault.{DumpFault}
use Rattle.sea_dump.specs.declared.output.DumpFault.TheVariants as fault

-- the members with a cell under this name, unless it is empty
abbrev pub with_filled : List ℕ → CellValue → Members → Members
with_filled name Empty members = members
with_filled name value members = put name (json_of value) members

-- the members with what a row has under a column
abbrev pub with_shown : Row → Members → Column → Members
with_shown row members column = with_filled column.name (cell_in row column) members

-- a row of a table with these columns: its id, and its cells that aren't empty by the names of their columns
abbrev pub row_json : List Column → Row → Data
row_json columns row = object (put (codes "_id") (string row.id.0) (fold (with_shown row) no_members columns))

-- a table: the names of its columns in their order, and its own
abbrev pub table_json : TableRows → Data
table_json table = object (member (codes "columns") (texts_json (map (λ column. column.name) table.columns)) (member (codes "table") (string table.name) no_members))

-- the text of some JSON, and a newline
abbrev pub json_line : Data → List ℕ
json_line json = compact_text json ++ 10 ∷ []

unfoldable pub row_line : List Column → Row → List ℕ
row_line columns row = json_line (row_json columns row)

unfoldable pub table_line : TableRows → List ℕ
table_line table = json_line (table_json table)

-- the line of a table, and those of its rows
abbrev pub table_lines : TableRows → List ℕ
table_lines table = table_line table ++ flat_map (row_line table.columns) table.rows

-- the lines of a base, in which the cells of link columns are filled in
abbrev pub dump_lines : Plain → List ℕ
dump_lines base = flat_map table_lines (tables_of base)

-- ---- while a base is dumped

-- the dump ended where the sink failed
abbrev pub met_sink_fault : {T : Type 0} → Result T DumpFault → Bool
met_sink_fault (Err fault.Sink) = true
met_sink_fault _ = false

-- Of some things the lines of those that aren't left were given.
pub record HasGiven {A : Type 0} (lines_of : A → List ℕ) (all left : List A) (taken given : Option (List ℕ)) : Type 0 where
  pub so_far : List ℕ
  pub split : so_far ++ flat_map lines_of left ≡ flat_map lines_of all
  pub written : Appends taken given so_far
