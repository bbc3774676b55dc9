-- What each change of a table makes of it.
use Rattle.sea_schema.specs.declared.table.Table.{Table}
use Rattle.sea_schema.specs.declared.schema.Change.{Change}
use Rattle.sea_schema.specs.declared.schema.Change.TheVariants.{Name, Column, LinkColumn, ColumnName, Options, WithoutColumn, View, WithoutView}
use Rattle.sea_schema.specs.Tables.{with_name, with_column, with_link_column, with_column_name, with_options, without_column, with_view, without_view}

abbrev pub change_of : Change → Table → Table
change_of (Name to) = with_name to.now
change_of (Column key column) = with_column key.0 column.now
change_of (LinkColumn key name end) = with_link_column key.0 name.now end
change_of (ColumnName column to) = with_column_name column.now to.now
change_of (Options column options) = with_options column.now options.now
change_of (WithoutColumn column) = without_column column.now
change_of (View view) = with_view view.now
change_of (WithoutView view) = without_view view.now
