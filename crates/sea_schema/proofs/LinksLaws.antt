-- What stays where no link goes.
use Rattle.std.proofs.Common.{◌≡◌, ℕ, List, [], ◌∷◌, map, filter, length, Bool, true, false, not, ◌||◌, cond, Option, Some, None, option_map, refl, sym, ap, ◌∙◌, arith}
use Rattle.std.specs.Bool.{OnFalse}
use Rattle.std.specs.List.{list_any}
use Rattle.std.specs.Option.{option_map_or}
use Rattle.sea_cell.specs.declared.column.Column.{Column}
use Rattle.sea_cell.specs.declared.column.LinkEnd.{LinkEnd}
use Rattle.sea_schema.specs.declared.table.Table.{Table}
use Rattle.sea_schema.specs.Tables.{is_link_among, is_end_of, without_links}

kept-cons : {X : Type 0} (b rest : Bool) (x : X) (xs kept : List X) → (b || rest) ≡ false → (rest ≡ false → kept ≡ xs) → cond (not b) (x ∷ kept) kept ≡ x ∷ xs
kept-cons true rest x xs kept none same = absurd cc
kept-cons false rest x xs kept none same = ap (λ (ys : List _). x ∷ ys) (same none)

-- where none passes a test, those that don't pass it are all of them
pub all-kept : {X : Type 0} (test : X → Bool) (xs : List X) → list_any test xs ≡ false → filter (λ x. not (test x)) xs ≡ xs
all-kept test [] none = refl
all-kept test (x ∷ xs) none = kept-cons (test x) (list_any test xs) x xs (filter (λ y. not (test y)) xs) none (all-kept test xs)

-- a table with no end of these links is the same without them
pub same-without : (links : List ℕ) (table : Table) → list_any (is_end_of links) table.columns ≡ false → without_links links table ≡ table
same-without links table none = ap (λ (columns : List Column). record table { columns = columns }) (all-kept (is_end_of links) table.columns none)

-- the same, by a test that tells whether it has one
pub same-where : (links : List ℕ) (table : Table) (b : Bool) → b ≡ list_any (is_end_of links) table.columns → OnFalse b (without_links links table ≡ table)
same-where links table true is = tt
same-where links table false is = same-without links table (sym is)

none-at : (end : Option LinkEnd) → option_map_or (is_link_among []) (option_map (λ (one : LinkEnd). one.link) end) false ≡ false
none-at None = refl
none-at (Some end) = refl

no-ends : (columns : List Column) → list_any (is_end_of []) columns ≡ false
no-ends [] = refl
no-ends (column ∷ columns) = ap (λ (b : Bool). b || list_any (is_end_of []) columns) (none-at column.other) ∙ no-ends columns

same-map : {X : Type 0} (f : X → X) → ((x : X) → f x ≡ x) → (xs : List X) → map f xs ≡ xs
same-map f same [] = refl
same-map f same (x ∷ xs) = ap (λ (y : _). y ∷ map f xs) (same x) ∙ ap (λ (ys : List _). x ∷ ys) (same-map f same xs)

-- where no link goes, the tables are the same
pub same-tables : (links : List ℕ) (tables : List Table) → length links ≡ 0 → map (without_links links) tables ≡ tables
same-tables [] tables none = same-map (without_links []) (λ table. same-without [] table (no-ends table.columns)) tables
same-tables (link ∷ links) tables none = absurd (omega arith)
