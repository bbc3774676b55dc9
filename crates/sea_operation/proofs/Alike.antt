-- The schema of a base after an operation is its schema with the operation's change.
use Rattle.std.proofs.Common.{◌≡◌, ℕ, ◌+◌, List, [], ◌∷◌, map, filter, Bool, true, false, cond, not, Option, Some, None, refl, ap, ◌∙◌, arith}
use Rattle.std.proofs.lemmas.List.{map-append}
use Rattle.std.specs.Str.{bytes_eq}
use Rattle.sea_cell.specs.declared.row.Row.{Row}
use Rattle.sea_cell.specs.declared.keys.Moment.{Moment}
use Rattle.sea_cell.specs.declared.column.NewColumn.{NewColumn}
use Rattle.sea_cell.specs.declared.column.NewEnd.{NewEnd}
use Rattle.sea_schema.specs.Layout.{Layout, if_table, is_other_table, end_towards, keys_of_new, links_of_new, with_new_column_towards, links_of_column, links_of_table}
use Rattle.sea_schema.specs.Tables.{table_of, with_link_column, without_links}
use Rattle.sea_schema.specs.declared.table.Table.{Table}
use Rattle.sea_operation.specs.declared.base.Plain.{Plain}
use Rattle.sea_operation.specs.declared.base.PlainTable.{PlainTable}
use Rattle.sea_operation.specs.declared.operation.Op.{Op}
use Rattle.sea_operation.specs.declared.operation.Op.TheVariants.{InsertTable, RenameTable, DeleteTable, InsertColumn, RenameColumn, DeleteColumn, AddOptions, AppendRows, ModifyRows, DeleteRows, AddLink, RemoveLink, InsertView, ModifyView, DeleteView}
use Rattle.sea_operation.specs.Apply.{applied, columns_named, rows_after, has_other_name, named_after, table_after, without_ends_in, in_plain, with_column_in}
use Rattle.sea_operation.specs.Makes.{table_name}
use Rattle.sea_operation.specs.Refusal.{new_rows}
use Rattle.sea_operation.specs.Seen.{seen_of}
use Rattle.sea_operation.specs.Schemas.{bare_tables, schema_of, schema_after}

-- a table without its rows
abbrev bare : PlainTable → Table
bare plain = plain.table

-- a table and its rows, changed if it is the one of a name
abbrev changed : List ℕ → (Table → Table) → (PlainTable → List Row) → PlainTable → PlainTable
changed name change rows plain = cond (bytes_eq plain.table.name name) (record { table = change plain.table; rows = rows plain }) plain

one_changed : (here : Bool) (change : Table → Table) (rows : PlainTable → List Row) (plain : PlainTable) → bare (cond here (record { table = change plain.table; rows = rows plain }) plain) ≡ cond here (change plain.table) plain.table
one_changed true change rows plain = refl
one_changed false change rows plain = refl

-- the changed tables without their rows are the tables without their rows, changed
tables_changed : (name : List ℕ) (change : Table → Table) (rows : PlainTable → List Row) (tables : List PlainTable) → map bare (map (changed name change rows) tables) ≡ map (if_table name change) (map bare tables)
tables_changed name change rows [] = refl
tables_changed name change rows (plain ∷ tables) =
    ap (λ (table : Table). table ∷ map bare (map (changed name change rows) tables)) (one_changed (bytes_eq plain.table.name name) change rows plain)
    ∙ ap (λ (rest : List Table). if_table name change plain.table ∷ rest) (tables_changed name change rows tables)

-- where a table stays as it was, so do all
same_one : (here : Bool) (table : Table) → cond here table table ≡ table
same_one true table = refl
same_one false table = refl

tables_same : (name : List ℕ) (tables : List Table) → map (if_table name (λ table. table)) tables ≡ tables
tables_same name [] = refl
tables_same name (table ∷ tables) =
    ap (λ (one : Table). one ∷ map (if_table name (λ it. it)) tables) (same_one (bytes_eq table.name name) table)
    ∙ ap (λ (rest : List Table). table ∷ rest) (tables_same name tables)

keep_bare : (kept : Bool) (plain : PlainTable) (rest : List PlainTable) (tables : List Table) → map bare rest ≡ tables → map bare (cond kept (plain ∷ rest) rest) ≡ cond kept (plain.table ∷ tables) tables
keep_bare true plain rest tables same = ap (λ (more : List Table). plain.table ∷ more) same
keep_bare false plain rest tables same = same

-- the tables of other names
tables_without : (name : List ℕ) (tables : List PlainTable) → map bare (filter (has_other_name name) tables) ≡ filter (is_other_table name) (map bare tables)
tables_without name [] = refl
tables_without name (plain ∷ tables) = keep_bare (not (bytes_eq plain.table.name name)) plain (filter (has_other_name name) tables) (filter (is_other_table name) (map bare tables)) (tables_without name tables)

-- tables without their ends of some links
ends_without : (links : List ℕ) (tables : List PlainTable) → map bare (map (without_ends_in links) tables) ≡ map (without_links links) (map bare tables)
ends_without links [] = refl
ends_without links (plain ∷ tables) = ap (λ (rest : List Table). without_links links plain.table ∷ rest) (ends_without links tables)

-- tables of which one is changed, whose rows stay
in_tables : (name : List ℕ) (change : Table → Table) (tables : List PlainTable) → map bare (map (in_plain name change) tables) ≡ map (if_table name change) (map bare tables)
in_tables name change [] = refl
in_tables name change (plain ∷ tables) = ap (λ (rest : List Table). if_table name change plain.table ∷ rest) (in_tables name change tables)

no_more : (n : ℕ) → n + 0 ≡ n
no_more n = omega arith

-- a schema of these tables and numbers
abbrev schema : List Table → ℕ → ℕ → ℕ → Layout
schema tables next_table next_column next_link = record { tables = tables; next_table = next_table; next_column = next_column; next_link = next_link }

same_schema : (one other : List Table) (table next_table column next_column link next_link : ℕ) → one ≡ other → table ≡ next_table → column ≡ next_column → link ≡ next_link
    → schema one table column link ≡ schema other next_table next_column next_link
same_schema one other table next_table column next_column link next_link same number key joint =
    ap (λ (it : List Table). schema it table column link) same
    ∙ ap (λ (it : ℕ). schema other it column link) number
    ∙ ap (λ (it : ℕ). schema other next_table it link) key
    ∙ ap (λ (it : ℕ). schema other next_table next_column it) joint

-- the tables after an operation that changes the one that it names
named_bare : (base : Plain) (moment : Moment) (op : Op) → map bare (named_after base moment op) ≡ map (if_table (table_name op) (table_after base.next_column (columns_named base op) op)) (map bare base.tables)
named_bare base moment op =
    tables_changed (table_name op) (table_after base.next_column (columns_named base op) op) (λ plain. rows_after moment (new_rows (seen_of base) moment op) op plain.table plain.rows) base.tables

-- an operation that makes nothing, and after which these are the tables
makes_none : (base : Plain) (one other : List Table) → one ≡ other
    → schema one (base.next_table + 0) (base.next_column + 0) (base.next_link + 0) ≡ schema other base.next_table base.next_column base.next_link
makes_none base one other same = same_schema one other _ _ _ _ _ _ same (no_more base.next_table) (no_more base.next_column) (no_more base.next_link)

-- one that changes one table and makes nothing
changes_one : (base : Plain) (moment : Moment) (op : Op)
    → schema (map bare (named_after base moment op)) (base.next_table + 0) (base.next_column + 0) (base.next_link + 0)
    ≡ schema (map (if_table (table_name op) (table_after base.next_column (columns_named base op) op)) (map bare base.tables)) base.next_table base.next_column base.next_link
changes_one base moment op = makes_none base _ _ (named_bare base moment op)

-- one that changes no schema
changes_none : (base : Plain) (moment : Moment) (op : Op) → table_after base.next_column (columns_named base op) op ≡ (λ table. table)
    → schema (map bare (named_after base moment op)) (base.next_table + 0) (base.next_column + 0) (base.next_link + 0) ≡ schema_of base
changes_none base moment op is =
    changes_one base moment op
    ∙ ap (λ (change : Table → Table). schema (map (if_table (table_name op) change) (map bare base.tables)) base.next_table base.next_column base.next_link) is
    ∙ ap (λ (tables : List Table). schema tables base.next_table base.next_column base.next_link) (tables_same (table_name op) (map bare base.tables))

-- a new column, as a link column or not
column_alike : (base : Plain) (moment : Moment) (table : List ℕ) (column : NewColumn) (other : Option NewEnd)
    → schema (map bare (with_column_in other base moment table column)) (base.next_table + 0) (base.next_column + keys_of_new other) (base.next_link + links_of_new other)
    ≡ with_new_column_towards other table column (schema_of base)
column_alike base moment table column None =
    same_schema _ _ _ _ _ _ _ _ (named_bare base moment (InsertColumn table column)) (no_more base.next_table) refl (no_more base.next_link)
column_alike base moment table column (Some other) =
    let first = with_link_column base.next_column column.name (end_towards other.table true (schema_of base)) in
    let second = with_link_column (base.next_column + 1) other.name (end_towards table false (schema_of base)) in
    same_schema _ _ _ _ _ _ _ _
    (in_tables other.table second (map (in_plain table first) base.tables) ∙ ap (map (if_table other.table second)) (in_tables table first base.tables))
    (no_more base.next_table) refl refl

pub alike : (base : Plain) (moment : Moment) (op : Op) → schema_of (applied base moment op) ≡ schema_after op (schema_of base)
alike base moment (InsertTable name columns) =
    same_schema _ _ _ _ _ _ _ _
    (map-append bare base.tables (record { table = table_of base.next_table base.next_column name columns; rows = [] } ∷ []))
    refl refl (no_more base.next_link)
alike base moment (RenameTable table to) = changes_one base moment (RenameTable table to)
alike base moment (DeleteTable table) =
    let links = links_of_table table (bare_tables base) in
    makes_none base _ _ (ends_without links (filter (has_other_name table) base.tables) ∙ ap (map (without_links links)) (tables_without table base.tables))
alike base moment (InsertColumn table column) = column_alike base moment table column column.other
alike base moment (RenameColumn table column to) = changes_one base moment (RenameColumn table column to)
alike base moment (DeleteColumn table column) =
    let links = links_of_column table column (bare_tables base) in
    makes_none base _ _ (ends_without links (named_after base moment (DeleteColumn table column)) ∙ ap (map (without_links links)) (named_bare base moment (DeleteColumn table column)))
alike base moment (AddOptions table column options) = changes_one base moment (AddOptions table column options)
alike base moment (AppendRows table rows) = changes_none base moment (AppendRows table rows) refl
alike base moment (ModifyRows table rows) = changes_none base moment (ModifyRows table rows) refl
alike base moment (DeleteRows table ids) = changes_none base moment (DeleteRows table ids) refl
alike base moment (AddLink table column row others) = changes_none base moment (AddLink table column row others) refl
alike base moment (RemoveLink table column row others) = changes_none base moment (RemoveLink table column row others) refl
alike base moment (InsertView table view) = changes_one base moment (InsertView table view)
alike base moment (ModifyView table view) = changes_one base moment (ModifyView table view)
alike base moment (DeleteView table view) = changes_one base moment (DeleteView table view)
