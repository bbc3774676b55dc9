-- The plain base, and how its tables are found by name.
use Rattle.std.specs.Prelude.{ℕ, List, [], Option}
use Rattle.std.specs.List.{find}
use Rattle.std.specs.Str.{bytes_eq}
use Rattle.sea_operation.specs.declared.base.Plain.{Plain}
use Rattle.sea_operation.specs.declared.base.PlainTable.{PlainTable}

-- the base that has taken no operation
abbrev pub empty_base : Plain
empty_base = record { version = 0; next_row = 1; next_table = 1; next_column = 1; next_link = 1; tables = []; pairs = [] }

-- the table of a name, with its rows
abbrev pub plain_named : List PlainTable → List ℕ → Option PlainTable
plain_named tables name = find (λ plain. bytes_eq plain.table.name name) tables
