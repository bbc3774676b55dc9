-- What an operation names and what it makes, by its form.
use Rattle.std.specs.Prelude.{ℕ, List, [], length, map}
use Rattle.sea_schema.specs.Layout.{keys_of_new, links_of_new}
use Rattle.sea_operation.specs.declared.operation.NamedCell.{NamedCell}
use Rattle.sea_operation.specs.declared.operation.OpRow.{OpRow}
use Rattle.sea_operation.specs.declared.operation.Op.{Op}
use Rattle.sea_operation.specs.declared.operation.Op.TheVariants.{InsertTable, RenameTable, DeleteTable, InsertColumn, RenameColumn, DeleteColumn, AddOptions, AppendRows, ModifyRows, DeleteRows, AddLink, RemoveLink, InsertView, ModifyView, DeleteView}

-- the table that it names
abbrev pub table_name : Op → List ℕ
table_name (InsertTable table _) = table
table_name (RenameTable table _) = table
table_name (DeleteTable table) = table
table_name (InsertColumn table _) = table
table_name (RenameColumn table _ _) = table
table_name (DeleteColumn table _) = table
table_name (AddOptions table _ _) = table
table_name (AppendRows table _) = table
table_name (ModifyRows table _) = table
table_name (DeleteRows table _) = table
table_name (AddLink table _ _ _) = table
table_name (RemoveLink table _ _ _) = table
table_name (InsertView table _) = table
table_name (ModifyView table _) = table
table_name (DeleteView table _) = table

-- the rows that it changes or takes away, by their ids
abbrev pub ids_named : Op → List (List ℕ)
ids_named (ModifyRows _ changes) = map (λ change. change.id.0) changes
ids_named (DeleteRows _ ids) = map (λ id. id.0) ids
ids_named _ = []

-- the cells that it writes, row by row
abbrev pub cells_written : Op → List (List NamedCell)
cells_written (AppendRows _ rows) = map (λ row. row.cells) rows
cells_written (ModifyRows _ changes) = map (λ change. change.cells) changes
cells_written _ = []

-- how many columns it makes: a link column has another side
abbrev pub columns_made : Op → ℕ
columns_made (InsertTable _ columns) = length columns
columns_made (InsertColumn _ column) = keys_of_new column.other
columns_made _ = 0

-- how many links it makes
abbrev pub links_made : Op → ℕ
links_made (InsertColumn _ column) = links_of_new column.other
links_made _ = 0

-- how many tables it makes
abbrev pub tables_made : Op → ℕ
tables_made (InsertTable _ _) = 1
tables_made _ = 0

-- the rows that it makes, as it has them
abbrev pub rows_given : Op → List OpRow
rows_given (AppendRows _ rows) = rows
rows_given _ = []

-- how many rows it makes
abbrev pub rows_made : Op → ℕ
rows_made (AppendRows _ rows) = length rows
rows_made _ = 0
