-- How many ends a link has, and where none is left.
use Rattle.std.proofs.Common.{◌≡◌, ℕ, ◌+◌, List, [], ◌∷◌, ◌++◌, map, filter, length, Bool, true, false, not, ◌||◌, ◌&&◌, cond, Option, Some, None, option_map, refl, sym, ap, ◌∙◌, arith, length-append, append-nil}
use Rattle.std.specs.Prelude.{◌==◌}
use Rattle.std.specs.List.{list_any}
use Rattle.std.specs.Option.{option_map_or}
use Rattle.std.specs.Str.{bytes_eq}
use Rattle.std.proofs.lemmas.Bool.Decides.{nat_tests}
use Rattle.std.proofs.lemmas.List.Elements.{filter-append}
use Rattle.std.proofs.lemmas.List.Folds.{list_any-append}
use Rattle.sea_cell.specs.declared.column.Column.{Column}
use Rattle.sea_cell.specs.declared.column.LinkEnd.{LinkEnd}
use Rattle.sea_cell.specs.declared.column.NewEnd.{NewEnd}
use Rattle.sea_schema.specs.declared.table.Table.{Table}
use Rattle.sea_schema.specs.Tables.{link_column, is_link_among, is_end_of, is_of_no_link, without_links}
use Rattle.sea_schema.specs.Layout.{Layout, if_table, with_link, end_towards}
use Rattle.sea_schema.specs.Ends.{is_named, count_named, columns_of_all, have_ends, is_end_on, count_ends}

pub or-first : (a b : Bool) → (a || b) ≡ false → a ≡ false
or-first true b none = none
or-first false b none = refl

pub or-rest : (a b : Bool) → (a || b) ≡ false → b ≡ false
or-rest true b none = absurd cc
or-rest false b none = none

-- where none of two lists passes, none of the first does, and none of the second
pub none-first : {X : Type 0} (test : X → Bool) (xs ys : List X) → list_any test (xs ++ ys) ≡ false → list_any test xs ≡ false
none-first test xs ys none = or-first (list_any test xs) (list_any test ys) (sym (list_any-append test xs ys) ∙ none)

pub none-rest : {X : Type 0} (test : X → Bool) (xs ys : List X) → list_any test (xs ++ ys) ≡ false → list_any test ys ≡ false
none-rest test xs ys none = or-rest (list_any test xs) (list_any test ys) (sym (list_any-append test xs ys) ∙ none)

-- ---- none is left

none-cond : {X : Type 0} (test : X → Bool) (x : X) (xs : List X) (b : Bool) → test x ≡ b → list_any test xs ≡ false → list_any test (cond (not b) (x ∷ xs) xs) ≡ false
none-cond test x xs true passes none = none
none-cond test x xs false passes none = rw (passes, none) refl

none-left : {X : Type 0} (test : X → Bool) (xs : List X) → list_any test (filter (λ x. not (test x)) xs) ≡ false
none-left test [] = refl
none-left test (x ∷ xs) = none-cond test x (filter (λ y. not (test y)) xs) (test x) refl (none-left test xs)

-- tables without their ends of these links have none
pub no-ends-left : (links : List ℕ) (tables : List Table) → have_ends links (map (without_links links) tables) ≡ false
no-ends-left links [] = refl
no-ends-left links (table ∷ tables) =
    list_any-append (is_end_of links) (filter (is_of_no_link links) table.columns) (columns_of_all (map (without_links links) tables))
    ∙ ap (λ (b : Bool). b || have_ends links (map (without_links links) tables)) (none-left (is_end_of links) table.columns)
    ∙ no-ends-left links tables

-- ---- tables with one column more each

-- the table with this column, at the end
abbrev pub plus : Column → Table → Table
plus column table = record table { columns = table.columns ++ column ∷ [] }

-- the column, or none
abbrev pub one_if : Bool → Column → List Column
one_if b column = cond b (column ∷ []) []

pub name-plus : (b : Bool) (column : Column) (table : Table) → (cond b (plus column table) table).name ≡ table.name
name-plus true column table = refl
name-plus false column table = refl

columns-plus : (b : Bool) (column : Column) (table : Table) → (cond b (plus column table) table).columns ≡ table.columns ++ one_if b column
columns-plus true column table = refl
columns-plus false column table = sym (append-nil table.columns)

-- the columns of a table after a column is added to the tables of a name, and then another to those of another
pub columns-both : (one two : List ℕ) (c d : Column) (table : Table) → (if_table two (plus d) (if_table one (plus c) table)).columns ≡ (table.columns ++ one_if (is_named one table) c) ++ one_if (is_named two table) d
columns-both one two c d table =
    columns-plus (bytes_eq (if_table one (plus c) table).name two) d (if_table one (plus c) table)
    ∙ ap (λ (columns : List Column). columns ++ one_if (bytes_eq (if_table one (plus c) table).name two) d) (columns-plus (is_named one table) c table)
    ∙ ap (λ (name : List ℕ). (table.columns ++ one_if (is_named one table) c) ++ one_if (bytes_eq name two) d) (name-plus (is_named one table) c table)

-- ---- how many

count-if : (b : Bool) (column : Column) → length (one_if b column) ≡ cond b 1 0
count-if true column = refl
count-if false column = refl

count-one : (p : Column → Bool) (b passes : Bool) (column : Column) → p column ≡ passes → length (filter p (one_if b column)) ≡ cond (b && passes) 1 0
count-one p true passes column is = ap (λ (v : Bool). length (one_if v column)) is ∙ count-if passes column
count-one p false passes column is = refl

-- how many of the columns of a table pass, where none did before the two were added
count-in : (p : Column → Bool) (one two : List ℕ) (c d : Column) (first second : Bool) → p c ≡ first → p d ≡ second → (table : Table) → filter p table.columns ≡ []
    → length (filter p (if_table two (plus d) (if_table one (plus c) table)).columns) ≡ cond (is_named one table && first) 1 0 + cond (is_named two table && second) 1 0
count-in p one two c d first second is_c is_d table none =
    ap (λ (columns : List Column). length (filter p columns)) (columns-both one two c d table)
    ∙ ap (λ (columns : List Column). length columns) (filter-append p (table.columns ++ one_if (is_named one table) c) (one_if (is_named two table) d))
    ∙ length-append (filter p (table.columns ++ one_if (is_named one table) c)) (filter p (one_if (is_named two table) d))
    ∙ ap (λ (columns : List Column). length columns + length (filter p (one_if (is_named two table) d))) (filter-append p table.columns (one_if (is_named one table) c))
    ∙ ap (λ (columns : List Column). length (columns ++ filter p (one_if (is_named one table) c)) + length (filter p (one_if (is_named two table) d))) none
    ∙ ap (λ (n : ℕ). n + length (filter p (one_if (is_named two table) d))) (count-one p (is_named one table) first c is_c)
    ∙ ap (λ (n : ℕ). cond (is_named one table && first) 1 0 + n) (count-one p (is_named two table) second d is_d)

count-step : (b v : Bool) (table : Table) (tables : List Table) → cond (b && v) 1 0 + cond v (length tables) 0 ≡ cond v (length (cond b (table ∷ tables) tables)) 0
count-step true true table tables = omega arith
count-step true false table tables = refl
count-step false true table tables = omega arith
count-step false false table tables = refl

-- how many of the columns of all tables pass, where those that do are ends of a link that none was an end of
count-all : (p : Column → Bool) (link : ℕ) (one two : List ℕ) (c d : Column) (first second : Bool) → p c ≡ first → p d ≡ second
    → ((columns : List Column) → list_any (is_end_of (link ∷ [])) columns ≡ false → filter p columns ≡ [])
    → (tables : List Table) → have_ends (link ∷ []) tables ≡ false
    → length (filter p (columns_of_all (map (if_table two (plus d)) (map (if_table one (plus c)) tables)))) ≡ cond first (count_named one tables) 0 + cond second (count_named two tables) 0
count-all p link one two c d true true is_c is_d none-on [] none = refl
count-all p link one two c d true false is_c is_d none-on [] none = refl
count-all p link one two c d false true is_c is_d none-on [] none = refl
count-all p link one two c d false false is_c is_d none-on [] none = refl
count-all p link one two c d first second is_c is_d none-on (table ∷ tables) none =
    let rest : _ = map (if_table two (plus d)) (map (if_table one (plus c)) tables) in
    let here : length (filter p (if_table two (plus d) (if_table one (plus c) table)).columns) ≡ cond (is_named one table && first) 1 0 + cond (is_named two table && second) 1 0 =
    count-in p one two c d first second is_c is_d table (none-on table.columns (none-first (is_end_of (link ∷ [])) table.columns (columns_of_all tables) none)) in
    let there : length (filter p (columns_of_all rest)) ≡ cond first (count_named one tables) 0 + cond second (count_named two tables) 0 =
    count-all p link one two c d first second is_c is_d none-on tables (none-rest (is_end_of (link ∷ [])) table.columns (columns_of_all tables) none) in
    let by_one : cond (is_named one table && first) 1 0 + cond first (count_named one tables) 0 ≡ cond first (count_named one (table ∷ tables)) 0 =
    count-step (is_named one table) first table (filter (is_named one) tables) in
    let by_two : cond (is_named two table && second) 1 0 + cond second (count_named two tables) 0 ≡ cond second (count_named two (table ∷ tables)) 0 =
    count-step (is_named two table) second table (filter (is_named two) tables) in
    ap (λ (columns : List Column). length columns) (filter-append p (if_table two (plus d) (if_table one (plus c) table)).columns (columns_of_all rest))
    ∙ length-append (filter p (if_table two (plus d) (if_table one (plus c) table)).columns) (filter p (columns_of_all rest))
    ∙ omega arith

eq-swapped : (m n : ℕ) → (m == n) ≡ false → (n == m) ≡ false
eq-swapped m n differ = grind (arith, nat_tests)

not-on : (link : ℕ) (is_first : Bool) (other : Option LinkEnd) → option_map_or (is_link_among (link ∷ [])) (option_map (λ (end : LinkEnd). end.link) other) false ≡ false
    → option_map_or (λ (end : LinkEnd). (end.link == link) && cond is_first end.first (not end.first)) other false ≡ false
not-on link is_first None none = refl
not-on link is_first (Some end) none = ap (λ (b : Bool). b && cond is_first end.first (not end.first)) (eq-swapped link end.link (or-first (link == end.link) false none))

no-ends-on : (link : ℕ) (is_first : Bool) (columns : List Column) → list_any (is_end_of (link ∷ [])) columns ≡ false → filter (is_end_on link is_first) columns ≡ []
no-ends-on link is_first [] none = refl
no-ends-on link is_first (column ∷ columns) none =
    ap (λ (b : Bool). cond b (column ∷ filter (is_end_on link is_first) columns) (filter (is_end_on link is_first) columns)) (not-on link is_first column.other (or-first (is_end_of (link ∷ []) column) (list_any (is_end_of (link ∷ [])) columns) none))
    ∙ no-ends-on link is_first columns (or-rest (is_end_of (link ∷ []) column) (list_any (is_end_of (link ∷ [])) columns) none)

pub same-link : (link : ℕ) → (link == link) ≡ true
same-link link = grind (arith, nat_tests)

-- a link that is added has as many first ends as tables have the one name
pub first-ends : (layout : Layout) (table name : List ℕ) (other : NewEnd) → have_ends (layout.next_link ∷ []) layout.tables ≡ false → count_ends layout.next_link true (with_link table name other layout).tables ≡ count_named table layout.tables
first-ends layout table name other none =
    count-all (is_end_on layout.next_link true) layout.next_link table other.table (link_column layout.next_column name (end_towards other.table true layout)) (link_column (layout.next_column + 1) other.name (end_towards table false layout)) true false
    (ap (λ (b : Bool). b && true) (same-link layout.next_link)) (ap (λ (b : Bool). b && false) (same-link layout.next_link)) (no-ends-on layout.next_link true) layout.tables none
    ∙ omega arith

-- and as many other ends as tables have the other name
pub second-ends : (layout : Layout) (table name : List ℕ) (other : NewEnd) → have_ends (layout.next_link ∷ []) layout.tables ≡ false → count_ends layout.next_link false (with_link table name other layout).tables ≡ count_named other.table layout.tables
second-ends layout table name other none =
    count-all (is_end_on layout.next_link false) layout.next_link table other.table (link_column layout.next_column name (end_towards other.table true layout)) (link_column (layout.next_column + 1) other.name (end_towards table false layout)) false true
    (ap (λ (b : Bool). b && false) (same-link layout.next_link)) (ap (λ (b : Bool). b && true) (same-link layout.next_link)) (no-ends-on layout.next_link false) layout.tables none
    ∙ omega arith
