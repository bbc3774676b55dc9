-- What an accepted operation makes of a plain base.
use Rattle.std.specs.Prelude.{ℕ, ◌+◌, List, [], ◌∷◌, ◌++◌, map, filter, Bool, true, false, not, if◌then◌else◌, Option, Some, None, Result, Ok, Err}
use Rattle.std.specs.Str.{bytes_eq}
use Rattle.sea_cell.specs.declared.row.Row.{Row}
use Rattle.sea_cell.specs.declared.keys.Moment.{Moment}
use Rattle.sea_cell.specs.declared.column.Column.{Column}
use Rattle.sea_cell.specs.declared.column.NewColumn.{NewColumn}
use Rattle.sea_cell.specs.declared.column.NewEnd.{NewEnd}
use Rattle.sea_schema.specs.Layout.{if_table, end_towards, links_of_column, links_of_table}
use Rattle.sea_schema.specs.Tables.{key_named, table_of, with_name, with_column, with_link_column, with_column_name, with_options, without_column, with_view, without_view, without_links}
use Rattle.sea_schema.specs.declared.table.Table.{Table}
use Rattle.sea_operation.specs.declared.base.Plain.{Plain}
use Rattle.sea_operation.specs.declared.base.PlainTable.{PlainTable}
use Rattle.sea_operation.specs.declared.operation.Op.{Op}
use Rattle.sea_operation.specs.declared.operation.Op.TheVariants.{InsertTable, RenameTable, DeleteTable, InsertColumn, RenameColumn, DeleteColumn, AddOptions, AppendRows, ModifyRows, DeleteRows, InsertView, ModifyView, DeleteView}
use Rattle.sea_operation.specs.declared.operation.Entry.{Entry}
use Rattle.sea_operation.specs.declared.refusal.OpRefusal.{OpRefusal}
use Rattle.sea_operation.specs.Joined.{pairs_after}
use Rattle.sea_operation.specs.Makes.{table_name, columns_made, links_made, tables_made, rows_made}
use Rattle.sea_operation.specs.RowsOf.{after_changes, without_cell, has_other_id}
use Rattle.sea_operation.specs.Refusal.{new_rows, refusal_of}
use Rattle.sea_operation.specs.Schemas.{bare_tables, schema_of}
use Rattle.sea_operation.specs.Seen.{columns_in, seen_of}
use Rattle.sea_operation.specs.Viewed.{view_of}

-- The operation's table without its rows. New columns get their keys from this one on, and a view's filters are about
-- these columns.
abbrev pub table_after : ℕ → List Column → Op → Table → Table
table_after key columns (RenameTable _ to) table = with_name to table
table_after key columns (InsertColumn _ column) table = with_column key column table
table_after key columns (RenameColumn _ column to) table = with_column_name column to table
table_after key columns (DeleteColumn _ column) table = without_column column table
table_after key columns (AddOptions _ column options) table = with_options column options table
table_after key columns (InsertView _ view) table = with_view (view_of columns view) table
table_after key columns (ModifyView _ view) table = with_view (view_of columns view) table
table_after key columns (DeleteView _ view) table = without_view view table
table_after key columns _ table = table

-- the columns of the table that the operation names
abbrev pub columns_named : Plain → Op → List Column
columns_named base op = columns_in (seen_of base) (table_name op)

-- the rows of the operation's table, with the rows that it makes at the end
abbrev pub rows_after : Moment → List Row → Op → Table → List Row → List Row
rows_after moment new (DeleteColumn _ column) table rows = map (without_cell (key_named table.columns column)) rows
rows_after moment new (AppendRows _ _) table rows = rows ++ new
rows_after moment new (ModifyRows _ changes) table rows = map (after_changes table.columns moment changes) rows
rows_after moment new (DeleteRows _ ids) table rows = filter (has_other_id (map (λ id. id.0) ids)) rows
rows_after moment new _ table rows = rows

-- a table, after the operation if it is the one that the operation names
abbrev pub plain_after : Plain → Moment → Op → PlainTable → PlainTable
plain_after base moment op plain =
    if bytes_eq plain.table.name (table_name op)
    then record { table = table_after base.next_column (columns_named base op) op plain.table; rows = rows_after moment (new_rows (seen_of base) moment op) op plain.table plain.rows }
    else plain

-- each table, of which the one that the operation names is changed
abbrev pub named_after : Plain → Moment → Op → List PlainTable
named_after base moment op = map (plain_after base moment op) base.tables

-- a table of another name
abbrev pub has_other_name : List ℕ → PlainTable → Bool
has_other_name name plain = not (bytes_eq plain.table.name name)

-- a table without its ends of some links
abbrev pub without_ends_in : List ℕ → PlainTable → PlainTable
without_ends_in links plain = record plain { table = without_links links plain.table }

-- a table with a change, if it is the one of a name; its rows stay
abbrev pub in_plain : List ℕ → (Table → Table) → PlainTable → PlainTable
in_plain name change plain = record plain { table = if_table name change plain.table }

-- both columns of a new link
abbrev pub with_link_in : Plain → List ℕ → List ℕ → NewEnd → List PlainTable
with_link_in base table name other =
    map (in_plain other.table (with_link_column (base.next_column + 1) other.name (end_towards table false (schema_of base))))
    (map (in_plain table (with_link_column base.next_column name (end_towards other.table true (schema_of base)))) base.tables)

-- a new column, as a link column where it is to have another side
abbrev pub with_column_in : Option NewEnd → Plain → Moment → List ℕ → NewColumn → List PlainTable
with_column_in None base moment table column = named_after base moment (InsertColumn table column)
with_column_in (Some other) base moment table column = with_link_in base table column.name other

-- the links that end in what the operation takes away
abbrev pub links_gone : List Table → Op → List ℕ
links_gone tables (DeleteTable table) = links_of_table table tables
links_gone tables (DeleteColumn table column) = links_of_column table column tables
links_gone tables _ = []

-- The tables after an operation. With an end of a link its other end goes too.
abbrev pub tables_after : Plain → Moment → Op → List PlainTable
tables_after base moment (InsertTable name columns) = base.tables ++ record { table = table_of base.next_table base.next_column name columns; rows = [] } ∷ []
tables_after base moment (DeleteTable name) = map (without_ends_in (links_gone (bare_tables base) (DeleteTable name))) (filter (has_other_name name) base.tables)
tables_after base moment (InsertColumn table column) = with_column_in column.other base moment table column
tables_after base moment (DeleteColumn table column) = map (without_ends_in (links_gone (bare_tables base) (DeleteColumn table column))) (named_after base moment (DeleteColumn table column))
tables_after base moment op = named_after base moment op

-- The base after an accepted operation. The version rises by one, the next numbers by what the operation makes.
abbrev pub applied : Plain → Moment → Op → Plain
applied base moment op = record {
  version = base.version + 1;
  next_row = base.next_row + rows_made op;
  next_table = base.next_table + tables_made op;
  next_column = base.next_column + columns_made op;
  next_link = base.next_link + links_made op;
  tables = tables_after base moment op;
  pairs = pairs_after (columns_named base op) (links_gone (bare_tables base) op) op base.pairs;
}

-- the new base, unless there is a refusal
abbrev pub unless_refused : Option OpRefusal → Plain → Result Plain OpRefusal
unless_refused None base = Ok base
unless_refused (Some refusal) base = Err refusal

-- either the new base or the first refusal
abbrev pub apply : Plain → Entry → Result Plain OpRefusal
apply base entry = unless_refused (refusal_of base entry.moment entry.op) (applied base entry.moment entry.op)

-- on with the other entries, which are counted from here
abbrev pub after_result : (Plain → Result Plain (ℕ × OpRefusal)) → ℕ → Result Plain OpRefusal → Result Plain (ℕ × OpRefusal)
after_result rest count (Ok base) = rest base
after_result rest count (Err refusal) = Err (count, refusal)

-- the base after all entries, or the first entry that is refused, counted from `count`, with its refusal
abbrev pub after_from : ℕ → Plain → List Entry → Result Plain (ℕ × OpRefusal)
after_from count base [] = Ok base
after_from count base (entry ∷ entries) = after_result (λ next. after_from (count + 1) next entries) count (apply base entry)

abbrev pub after : Plain → List Entry → Result Plain (ℕ × OpRefusal)
after base entries = after_from 0 base entries
