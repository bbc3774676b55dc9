-- What the refusals of an operation depend on: of a base, all but what stands in its cells.
use Rattle.std.specs.Prelude.{ℕ, ◌&&◌, ◌==◌, List, [], length, map, Bool, false}
use Rattle.std.specs.List.{list_any}
use Rattle.std.specs.Option.{option_map_or}
use Rattle.std.specs.Str.{bytes_eq}
use Rattle.sea_cell.specs.declared.keys.TableNo.{TableNo}
use Rattle.sea_cell.specs.declared.column.Column.{Column}
use Rattle.sea_cell.specs.declared.view.View.{View}
use Rattle.sea_links.specs.Pairs.{has_pair}
use Rattle.sea_links.specs.declared.pair.LinkPair.{LinkPair}
use Rattle.sea_schema.specs.Tables.{table_named}
use Rattle.sea_schema.specs.declared.table.Table.{Table}
use Rattle.sea_operation.specs.declared.base.Plain.{Plain}
use Rattle.sea_operation.specs.declared.base.PlainTable.{PlainTable}
use Rattle.sea_operation.specs.declared.seen.Counters.{Counters}

-- The tables without their rows, the numbers, which ids the rows of a table have, which rows a link joins by their ids,
-- and how many pairs of linked rows there are.
pub record Seen : Type 0 where
  pub tables : List Table
  pub counters : Counters
  pub has : TableNo → List ℕ → Bool
  pub linked : ℕ → List ℕ → List ℕ → Bool
  pub pair_count : ℕ

-- a row of the table of this number has the id
abbrev pub has_row : List PlainTable → TableNo → List ℕ → Bool
has_row tables number id = list_any (λ plain. (plain.table.no.0 == number.0) && list_any (λ row. bytes_eq row.id.0 id) plain.rows) tables

-- the link joins the rows of these ids
abbrev pub joins : List LinkPair → ℕ → List ℕ → List ℕ → Bool
joins pairs link first second = has_pair pairs link (record { 0 = first }) (record { 0 = second })

-- what there is of a plain base
abbrev pub seen_of : Plain → Seen
seen_of base = record {
  tables = map (λ plain. plain.table) base.tables;
  counters = record { version = base.version; row = base.next_row; table = base.next_table; column = base.next_column; link = base.next_link };
  has = has_row base.tables;
  linked = joins base.pairs;
  pair_count = length base.pairs;
}

-- the columns of the table of a name among these, and none where there is no such table
abbrev pub columns_among : List Table → List ℕ → List Column
columns_among tables name = option_map_or (λ table. table.columns) (table_named tables name) []

abbrev pub columns_in : Seen → List ℕ → List Column
columns_in seen name = columns_among seen.tables name

-- the views of the table of a name, and none where there is no such table
abbrev pub views_in : Seen → List ℕ → List View
views_in seen name = option_map_or (λ table. table.views) (table_named seen.tables name) []

-- a row of the table of a name has the id
abbrev pub has_id : Seen → List ℕ → List ℕ → Bool
has_id seen name id = option_map_or (λ table. seen.has table.no id) (table_named seen.tables name) false
