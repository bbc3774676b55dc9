-- A table that is found by name, with its rows and without.
use Rattle.std.proofs.Common.{◌≡◌, ℕ, List, [], ◌∷◌, Bool, true, false, cond, map, Option, Some, option_map, refl, sym}
use Rattle.std.specs.Str.{bytes_eq}
use Rattle.sea_schema.specs.Tables.{table_named}
use Rattle.sea_schema.specs.declared.table.Table.{Table}
use Rattle.sea_operation.specs.Base.{plain_named}
use Rattle.sea_operation.specs.declared.base.PlainTable.{PlainTable}

pick : (here : Bool) (plain : PlainTable) (rest : Option PlainTable) (tables : Option Table) → option_map (λ it. it.table) rest ≡ tables → option_map (λ (it : PlainTable). it.table) (cond here (Some plain) rest) ≡ cond here (Some plain.table) tables
pick true plain rest tables same = refl
pick false plain rest tables same = same

-- it is the same table
pub found_without_rows : (tables : List PlainTable) (name : List ℕ) → table_named (map (λ plain. plain.table) tables) name ≡ option_map (λ plain. plain.table) (plain_named tables name)
found_without_rows [] name = refl
found_without_rows (plain ∷ tables) name = sym (pick (bytes_eq plain.table.name name) plain (plain_named tables name) (table_named (map (λ it. it.table) tables) name) (sym (found_without_rows tables name)))
