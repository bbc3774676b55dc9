-- What is seen of a base whose schema and rows stand apart.
use Rattle.std.specs.Prelude.{◌≡◌, ℕ, List, Bool, map}
use Rattle.sea_cell.specs.declared.keys.TableNo.{TableNo}
use Rattle.sea_schema.specs.Layout.{Layout}
use Rattle.sea_operation.specs.declared.base.Plain.{Plain}
use Rattle.sea_operation.specs.declared.seen.Counters.{Counters}
use Rattle.sea_operation.specs.Seen.{Seen, seen_of}

-- the tables of the schema, the numbers, the ids that rows have, which rows are linked, and how many pairs there are
abbrev pub seen_beside : Layout → Counters → (TableNo → List ℕ → Bool) → (ℕ → List ℕ → List ℕ → Bool) → ℕ → Seen
seen_beside schema counters has linked count = record { tables = schema.tables; counters = counters; has = has; linked = linked; pair_count = count }

-- the schema, the numbers, the ids and the links are those of a plain base
pub record Shows (schema : Layout) (counters : Counters) (has : TableNo → List ℕ → Bool) (linked : ℕ → List ℕ → List ℕ → Bool) (count : ℕ) (base : Plain) : Type 0 where
  pub tables : schema.tables ≡ map (λ plain. plain.table) base.tables
  pub numbers : counters ≡ (seen_of base).counters
  pub ids : (table : TableNo) (id : List ℕ) → has table id ≡ (seen_of base).has table id
  pub links : (link : ℕ) (first second : List ℕ) → linked link first second ≡ (seen_of base).linked link first second
  pub pairs : count ≡ (seen_of base).pair_count
