-- What an operation makes of the schema of a base: its tables without their rows, and the numbers that come next.
use Rattle.std.specs.Prelude.{List, map}
use Rattle.sea_schema.specs.Layout.{Layout, in_table, with_table, without_table_of, with_new_column, without_column_of}
use Rattle.sea_schema.specs.Tables.{with_name, with_column_name, with_options, with_view, without_view}
use Rattle.sea_schema.specs.declared.table.Table.{Table}
use Rattle.sea_operation.specs.declared.base.Plain.{Plain}
use Rattle.sea_operation.specs.declared.operation.Op.{Op}
use Rattle.sea_operation.specs.declared.operation.Op.TheVariants.{InsertTable, RenameTable, DeleteTable, InsertColumn, RenameColumn, DeleteColumn, AddOptions, InsertView, ModifyView, DeleteView}
use Rattle.sea_operation.specs.Seen.{columns_among}
use Rattle.sea_operation.specs.Viewed.{view_of}

-- the tables of a base without their rows
abbrev pub bare_tables : Plain → List Table
bare_tables base = map (λ plain. plain.table) base.tables

-- the schema of a base
abbrev pub schema_of : Plain → Layout
schema_of base = record { tables = bare_tables base; next_table = base.next_table; next_column = base.next_column; next_link = base.next_link }

-- the schema after an operation, by the changes of schemas
abbrev pub schema_after : Op → Layout → Layout
schema_after (InsertTable name columns) schema = with_table name columns schema
schema_after (RenameTable table to) schema = in_table table (with_name to) schema
schema_after (DeleteTable table) schema = without_table_of table schema
schema_after (InsertColumn table column) schema = with_new_column table column schema
schema_after (RenameColumn table column to) schema = in_table table (with_column_name column to) schema
schema_after (DeleteColumn table column) schema = without_column_of table column schema
schema_after (AddOptions table column options) schema = in_table table (with_options column options) schema
schema_after (InsertView table view) schema = in_table table (with_view (view_of (columns_among schema.tables table) view)) schema
schema_after (ModifyView table view) schema = in_table table (with_view (view_of (columns_among schema.tables table) view)) schema
schema_after (DeleteView table view) schema = in_table table (without_view view) schema
schema_after _ schema = schema
