-- A link that is added, and whose column goes again, leaves the tables as they were.
use Rattle.std.proofs.Common.{◌≡◌, ℕ, ◌+◌, List, [], ◌∷◌, ◌++◌, map, filter, Bool, true, false, not, ◌||◌, cond, Option, Some, None, option_map, refl, sym, ap, ◌∙◌, append_assoc, append-nil}
use Rattle.std.specs.Prelude.{◌==◌}
use Rattle.std.specs.List.{list_any, cons_option}
use Rattle.std.specs.Option.{option_map_or}
use Rattle.std.specs.Str.{bytes_eq}
use Rattle.std.specs.Cmp.Lexicographic.{nat_list_eq_equiv}
use Rattle.std.proofs.lemmas.List.Elements.{filter-append}
use Rattle.sea_cell.specs.declared.keys.ColKey.{ColKey}
use Rattle.sea_cell.specs.declared.column.Column.{Column}
use Rattle.sea_cell.specs.declared.column.NewEnd.{NewEnd}
use Rattle.sea_cell.specs.declared.view.Filter.{Filter}
use Rattle.sea_cell.specs.declared.view.View.{View}
use Rattle.sea_schema.specs.declared.table.Table.{Table}
use Rattle.sea_schema.specs.Tables.{table_named, column_named, key_named, without_filters, has_name, has_other_name, without_column, link_column, link_of, links_of, links_named, is_link_among, is_end_of, is_of_no_link, without_links}
use Rattle.sea_schema.specs.Layout.{Layout, if_table, with_link, end_towards, links_of_column, without_column_of}
use Rattle.sea_schema.specs.Ends.{is_named, columns_of_all, have_ends, have_column, have_filters}
use Rattle.sea_schema.proofs.LinksLaws.{all-kept}
use Rattle.sea_schema.proofs.EndsLaws.{or-first, or-rest, none-first, none-rest, plus, one_if, name-plus, columns-both, same-link}

-- the table after a column is added to the tables of a name, and then another to those of another
abbrev pub step : List ℕ → List ℕ → Column → Column → Table → Table
step one two c d table = if_table two (plus d) (if_table one (plus c) table)

name-step : (one two : List ℕ) (c d : Column) (table : Table) → (step one two c d table).name ≡ table.name
name-step one two c d table = name-plus (bytes_eq (if_table one (plus c) table).name two) d (if_table one (plus c) table) ∙ name-plus (is_named one table) c table

none-pass : {X : Type 0} (test : X → Bool) (xs : List X) → list_any test xs ≡ false → filter test xs ≡ []
none-pass test [] none = refl
none-pass test (x ∷ xs) none =
    ap (λ (b : Bool). cond b (x ∷ filter test xs) (filter test xs)) (or-first (test x) (list_any test xs) none)
    ∙ none-pass test xs (or-rest (test x) (list_any test xs) none)

-- ---- the links that go

or-again : (b : Bool) → (b || (b || false)) ≡ (b || false)
or-again true = refl
or-again false = refl

last-link : (v : Bool) (d : Column) (link m : ℕ) → link_of d ≡ Some link → is_link_among (link ∷ links_of (cond v (d ∷ []) [])) m ≡ is_link_among (link ∷ []) m
last-link true d link m is_d = ap (λ (o : Option ℕ). is_link_among (link ∷ cons_option o []) m) is_d ∙ or-again (link == m)
last-link false d link m is_d = refl

second-link : (name : List ℕ) (b : Bool) (d : Column) (link m : ℕ) → link_of d ≡ Some link → is_link_among (link ∷ links_named name (one_if b d)) m ≡ is_link_among (link ∷ []) m
second-link name true d link m is_d = last-link (has_name name d) d link m is_d
second-link name false d link m is_d = refl

-- the column that was added is the one of its name, and both have one link
one-link : (name : List ℕ) (c d : Column) (link m : ℕ) (b : Bool) → has_name name c ≡ true → link_of c ≡ Some link → link_of d ≡ Some link
    → (columns : List Column) → list_any (has_name name) columns ≡ false
    → is_link_among (links_named name ((columns ++ c ∷ []) ++ one_if b d)) m ≡ is_link_among (link ∷ []) m
one-link name c d link m b named is_c is_d columns none =
    ap (λ (all : List Column). is_link_among (links_named name all) m) (append_assoc columns (c ∷ []) (one_if b d))
    ∙ ap (λ (all : List Column). is_link_among (links_of all) m) (filter-append (has_name name) columns (c ∷ one_if b d))
    ∙ ap (λ (all : List Column). is_link_among (links_of (all ++ filter (has_name name) (c ∷ one_if b d))) m) (none-pass (has_name name) columns none)
    ∙ ap (λ (v : Bool). is_link_among (links_of (cond v (c ∷ filter (has_name name) (one_if b d)) (filter (has_name name) (one_if b d)))) m) named
    ∙ ap (λ (o : Option ℕ). is_link_among (cons_option o (links_named name (one_if b d))) m) is_c
    ∙ second-link name b d link m is_d

have-first : (a : Bool) (name : List ℕ) (table : Table) (tables : List Table) → a ≡ true → list_any (has_name name) (columns_of_all (cond a (table ∷ tables) tables)) ≡ false → list_any (has_name name) table.columns ≡ false
have-first true name table tables is none = none-first (has_name name) table.columns (columns_of_all tables) none
have-first false name table tables is none = absurd cc

have-rest : (a : Bool) (name : List ℕ) (table : Table) (tables : List Table) → list_any (has_name name) (columns_of_all (cond a (table ∷ tables) tables)) ≡ false → list_any (has_name name) (columns_of_all tables) ≡ false
have-rest true name table tables none = none-rest (has_name name) table.columns (columns_of_all tables) none
have-rest false name table tables none = none

links-at : (one two name : List ℕ) (c d : Column) (link m : ℕ) → has_name name c ≡ true → link_of c ≡ Some link → link_of d ≡ Some link
    → (table : Table) (tables more : List Table) (a : Bool) → is_named one table ≡ a
    → have_column one name (table ∷ tables) ≡ false
    → (a ≡ false → is_link_among (links_of_column one name more) m ≡ is_link_among (link ∷ []) m)
    → is_link_among (option_map_or (λ (found : Table). links_named name found.columns) (cond a (Some (step one two c d table)) (table_named more one)) []) m ≡ is_link_among (link ∷ []) m
links-at one two name c d link m named is_c is_d table tables more true is none rest =
    ap (λ (columns : List Column). is_link_among (links_named name columns) m) (columns-both one two c d table)
    ∙ ap (λ (a : Bool). is_link_among (links_named name ((table.columns ++ one_if a c) ++ one_if (is_named two table) d)) m) is
    ∙ one-link name c d link m (is_named two table) named is_c is_d table.columns (have-first (is_named one table) name table (filter (is_named one) tables) is none)
links-at one two name c d link m named is_c is_d table tables more false is none rest = rest refl

-- the links that end in the column that was added are the link that was added
links-found : (one two name : List ℕ) (c d : Column) (link m : ℕ) → has_name name c ≡ true → link_of c ≡ Some link → link_of d ≡ Some link
    → (tables : List Table) → list_any (is_named one) tables ≡ true → have_column one name tables ≡ false
    → is_link_among (links_of_column one name (map (if_table two (plus d)) (map (if_table one (plus c)) tables))) m ≡ is_link_among (link ∷ []) m
links-found one two name c d link m named is_c is_d [] some none = absurd cc
links-found one two name c d link m named is_c is_d (table ∷ tables) some none =
    ap (λ (found : List ℕ). is_link_among (option_map_or (λ (table : Table). links_named name table.columns) (cond (bytes_eq found one) (Some (step one two c d table)) (table_named (map (if_table two (plus d)) (map (if_table one (plus c)) tables)) one)) []) m) (name-step one two c d table)
    ∙ links-at one two name c d link m named is_c is_d table tables (map (if_table two (plus d)) (map (if_table one (plus c)) tables)) (is_named one table) refl none
    (λ other. links-found one two name c d link m named is_c is_d tables (ap (λ (b : Bool). b || list_any (is_named one) tables) (sym other) ∙ some) (have-rest (is_named one table) name table (filter (is_named one) tables) none))

ends-alike : (links : List ℕ) (link : ℕ) → ((m : ℕ) → is_link_among links m ≡ is_link_among (link ∷ []) m) → (o : Option ℕ) → option_map_or (is_link_among links) o false ≡ option_map_or (is_link_among (link ∷ [])) o false
ends-alike links link same None = refl
ends-alike links link same (Some m) = same m

any-alike : {X : Type 0} (p q : X → Bool) → ((x : X) → p x ≡ q x) → (xs : List X) → list_any p xs ≡ list_any q xs
any-alike p q same [] = refl
any-alike p q same (x ∷ xs) = ap (λ b. b || list_any p xs) (same x) ∙ ap (λ rest. q x || rest) (any-alike p q same xs)

-- ---- one table

found-named : (name : List ℕ) (c : Column) (more columns : List Column) → has_name name c ≡ true → list_any (has_name name) columns ≡ false → column_named (columns ++ c ∷ more) name ≡ Some c
found-named name c more [] named none = ap (λ (b : Bool). cond b (Some c) (column_named more name)) named
found-named name c more (column ∷ columns) named none =
    ap (λ (b : Bool). cond b (Some column) (column_named (columns ++ c ∷ more) name)) (or-first (has_name name column) (list_any (has_name name) columns) none)
    ∙ found-named name c more columns named (or-rest (has_name name column) (list_any (has_name name) columns) none)

-- views whose filters ask for other columns stay
same-views : (key : ColKey) (views : List View) → list_any (λ (view : View). list_any (λ (one : Filter). one.column.0 == key.0) view.filters) views ≡ false → map (without_filters (Some key)) views ≡ views
same-views key [] none = refl
same-views key (view ∷ views) none =
    ap (λ (filters : List Filter). record view { filters = filters } ∷ map (without_filters (Some key)) views) (all-kept (λ (one : Filter). one.column.0 == key.0) view.filters (or-first (list_any (λ (one : Filter). one.column.0 == key.0) view.filters) (list_any (λ (one : View). list_any (λ (it : Filter). it.column.0 == key.0) one.filters) views) none))
    ∙ ap (λ (rest : List View). view ∷ rest) (same-views key views (or-rest (list_any (λ (one : Filter). one.column.0 == key.0) view.filters) (list_any (λ (one : View). list_any (λ (it : Filter). it.column.0 == key.0) one.filters) views) none))

end-goes : (links : List ℕ) (d : Column) (v : Bool) → is_end_of links d ≡ true → filter (is_of_no_link links) (cond v (d ∷ []) []) ≡ []
end-goes links d true is = ap (λ (b : Bool). cond (not b) (d ∷ []) []) is
end-goes links d false is = refl

end-goes_too : (links : List ℕ) (name : List ℕ) (d : Column) (b : Bool) → is_end_of links d ≡ true → filter (is_of_no_link links) (filter (has_other_name name) (one_if b d)) ≡ []
end-goes_too links name d true is = end-goes links d (has_other_name name d) is
end-goes_too links name d false is = refl

-- the columns of a table without the other end
columns-unlinked : (links : List ℕ) (columns more : List Column) → list_any (is_end_of links) columns ≡ false → filter (is_of_no_link links) more ≡ [] → filter (is_of_no_link links) (columns ++ more) ≡ columns
columns-unlinked links columns more none gone =
    filter-append (is_of_no_link links) columns more
    ∙ ap (λ (kept : List Column). kept ++ filter (is_of_no_link links) more) (all-kept (is_end_of links) columns none)
    ∙ ap (λ (kept : List Column). columns ++ kept) gone
    ∙ append-nil columns

-- the columns of the table that has the column, without it and without the other end
columns-back : (links name : List ℕ) (columns more : List Column) (c : Column) → has_name name c ≡ true → list_any (is_end_of links) columns ≡ false → list_any (has_name name) columns ≡ false
    → filter (is_of_no_link links) (filter (has_other_name name) more) ≡ []
    → filter (is_of_no_link links) (filter (has_other_name name) (columns ++ c ∷ more)) ≡ columns
columns-back links name columns more c named none free gone =
    ap (λ (kept : List Column). filter (is_of_no_link links) kept) (filter-append (has_other_name name) columns (c ∷ more))
    ∙ ap (λ (kept : List Column). filter (is_of_no_link links) (kept ++ filter (has_other_name name) (c ∷ more))) (all-kept (has_name name) columns free)
    ∙ ap (λ (b : Bool). filter (is_of_no_link links) (columns ++ cond (not b) (c ∷ filter (has_other_name name) more) (filter (has_other_name name) more))) named
    ∙ columns-unlinked links columns (filter (has_other_name name) more) none gone

plus-is : (b : Bool) (column : Column) (table : Table) → cond b (plus column table) table ≡ record table { columns = table.columns ++ one_if b column }
plus-is true column table = refl
plus-is false column table = ap (λ (columns : List Column). record table { columns = columns }) (sym (append-nil table.columns))

-- a table with the columns that were added
abbrev pub grown : Bool → Bool → Column → Column → Table → Table
grown a b c d table = record table { columns = (table.columns ++ one_if a c) ++ one_if b d }

step-is : (one two : List ℕ) (c d : Column) (table : Table) → step one two c d table ≡ grown (is_named one table) (is_named two table) c d table
step-is one two c d table =
    plus-is (bytes_eq (if_table one (plus c) table).name two) d (if_table one (plus c) table)
    ∙ ap (λ (found : Table). record found { columns = found.columns ++ one_if (bytes_eq (if_table one (plus c) table).name two) d }) (plus-is (is_named one table) c table)
    ∙ ap (λ (name : List ℕ). grown (is_named one table) (bytes_eq name two) c d table) (name-plus (is_named one table) c table)

grown-back : (a b : Bool) (links name : List ℕ) (c d : Column) (table : Table) → has_name name c ≡ true → is_end_of links d ≡ true
    → list_any (is_end_of links) table.columns ≡ false → (a ≡ true → list_any (has_name name) table.columns ≡ false)
    → list_any (λ (view : View). list_any (λ (one : Filter). one.column.0 == c.key.0) view.filters) table.views ≡ false
    → without_links links (cond a (without_column name (grown a b c d table)) (grown a b c d table)) ≡ table
grown-back false b links name c d table named is_d none free unasked =
    ap (λ (columns : List Column). record table { columns = filter (is_of_no_link links) (columns ++ one_if b d) }) (append-nil table.columns)
    ∙ ap (λ (columns : List Column). record table { columns = columns }) (columns-unlinked links table.columns (one_if b d) none (end-goes links d b is_d))
grown-back true b links name c d table named is_d none free unasked =
    ap (λ (columns : List Column). without_links links (without_column name (record table { columns = columns }))) (append_assoc table.columns (c ∷ []) (one_if b d))
    ∙ ap (λ (columns : List Column). record table { columns = columns; views = map (without_filters (key_named (table.columns ++ c ∷ one_if b d) name)) table.views }) (columns-back links name table.columns (one_if b d) c named none (free refl) (end-goes_too links name d b is_d))
    ∙ ap (λ (found : Option Column). record table { views = map (without_filters (option_map (λ (column : Column). column.key) found)) table.views }) (found-named name c (one_if b d) table.columns named (free refl))
    ∙ ap (λ (views : List View). record table { views = views }) (same-views c.key table.views unasked)

-- a table is as it was
table-back : (one two links name : List ℕ) (c d : Column) (table : Table) → has_name name c ≡ true → is_end_of links d ≡ true
    → list_any (is_end_of links) table.columns ≡ false → (is_named one table ≡ true → list_any (has_name name) table.columns ≡ false)
    → list_any (λ (view : View). list_any (λ (it : Filter). it.column.0 == c.key.0) view.filters) table.views ≡ false
    → without_links links (if_table one (without_column name) (step one two c d table)) ≡ table
table-back one two links name c d table named is_d none free unasked =
    ap (λ (found : List ℕ). without_links links (cond (bytes_eq found one) (without_column name (step one two c d table)) (step one two c d table))) (name-step one two c d table)
    ∙ ap (λ (found : Table). without_links links (cond (is_named one table) (without_column name found) found)) (step-is one two c d table)
    ∙ grown-back (is_named one table) (is_named two table) links name c d table named is_d none free unasked

-- ---- all tables

tables-back : (one two links name : List ℕ) (c d : Column) → has_name name c ≡ true → is_end_of links d ≡ true
    → (tables : List Table) → have_ends links tables ≡ false → have_column one name tables ≡ false → have_filters c.key.0 tables ≡ false
    → map (without_links links) (map (if_table one (without_column name)) (map (if_table two (plus d)) (map (if_table one (plus c)) tables))) ≡ tables
tables-back one two links name c d named is_d [] none free unasked = refl
tables-back one two links name c d named is_d (table ∷ tables) none free unasked =
    ap (λ (found : Table). found ∷ map (without_links links) (map (if_table one (without_column name)) (map (if_table two (plus d)) (map (if_table one (plus c)) tables))))
    (table-back one two links name c d table named is_d (none-first (is_end_of links) table.columns (columns_of_all tables) none)
    (λ is. have-first (is_named one table) name table (filter (is_named one) tables) is free)
    (or-first (list_any (λ (view : View). list_any (λ (it : Filter). it.column.0 == c.key.0) view.filters) table.views) (have_filters c.key.0 tables) unasked))
    ∙ ap (λ (rest : List Table). table ∷ rest)
    (tables-back one two links name c d named is_d tables (none-rest (is_end_of links) table.columns (columns_of_all tables) none)
    (have-rest (is_named one table) name table (filter (is_named one) tables) free)
    (or-rest (list_any (λ (view : View). list_any (λ (it : Filter). it.column.0 == c.key.0) view.filters) table.views) (have_filters c.key.0 tables) unasked))

own-end : (link : ℕ) (o : Option ℕ) → o ≡ Some link → option_map_or (is_link_among (link ∷ [])) o false ≡ true
own-end link o is = ap (λ (found : Option ℕ). option_map_or (is_link_among (link ∷ [])) found false) is ∙ ap (λ (b : Bool). b || false) (same-link link)

-- for columns that are both ends of a link of a new number
columns-taken : (one two name : List ℕ) (c d : Column) (link : ℕ) → has_name name c ≡ true → link_of c ≡ Some link → link_of d ≡ Some link
    → (tables : List Table) → list_any (is_named one) tables ≡ true → have_column one name tables ≡ false → have_ends (link ∷ []) tables ≡ false → have_filters c.key.0 tables ≡ false
    → (links : List ℕ) → links ≡ links_of_column one name (map (if_table two (plus d)) (map (if_table one (plus c)) tables))
    → map (without_links links) (map (if_table one (without_column name)) (map (if_table two (plus d)) (map (if_table one (plus c)) tables))) ≡ tables
columns-taken one two name c d link named is_c is_d tables some free none unasked links are =
    let only : (m : ℕ) → is_link_among links m ≡ is_link_among (link ∷ []) m =
    λ m. ap (λ (found : List ℕ). is_link_among found m) are ∙ links-found one two name c d link m named is_c is_d tables some free in
    tables-back one two links name c d named
    (ends-alike links link only (link_of d) ∙ own-end link (link_of d) is_d)
    tables
    (any-alike (is_end_of links) (is_end_of (link ∷ [])) (λ column. ends-alike links link only (link_of column)) (columns_of_all tables) ∙ none)
    free unasked

same-name : (name : List ℕ) → bytes_eq name name ≡ true
same-name name = nat_list_eq_equiv.refl name

-- a link that is added, and whose column goes again, leaves the tables as they were
pub taken-back : (layout : Layout) (table name : List ℕ) (other : NewEnd) → list_any (is_named table) layout.tables ≡ true → have_column table name layout.tables ≡ false
    → have_ends (layout.next_link ∷ []) layout.tables ≡ false → have_filters layout.next_column layout.tables ≡ false
    → (without_column_of table name (with_link table name other layout)).tables ≡ layout.tables
taken-back layout table name other some free none unasked =
    columns-taken table other.table name (link_column layout.next_column name (end_towards other.table true layout)) (link_column (layout.next_column + 1) other.name (end_towards table false layout)) layout.next_link
    (same-name name) refl refl layout.tables some free none unasked (links_of_column table name (with_link table name other layout).tables) refl
