-- Two tables that get the ends of a link one after another have a link.
use Rattle.std.proofs.Common.{◌≡◌, ℕ, ◌+◌, List, map, true, false, ap, ◌∙◌}
use Rattle.sea_cell.specs.declared.column.LinkEnd.{LinkEnd}
use Rattle.sea_cell.specs.declared.column.NewEnd.{NewEnd}
use Rattle.sea_schema.specs.Layout.{end_towards}
use Rattle.sea_schema.specs.Tables.{with_link_column}
use Rattle.sea_operation.specs.declared.base.Plain.{Plain}
use Rattle.sea_operation.specs.declared.base.PlainTable.{PlainTable}
use Rattle.sea_operation.specs.Apply.{in_plain, with_link_in}
use Rattle.sea_operation.specs.Schemas.{schema_of}

-- the tables with an end in the one of a name
abbrev with_end : List ℕ → ℕ → List ℕ → LinkEnd → List PlainTable → List PlainTable
with_end table key name end tables = map (in_plain table (with_link_column key name end)) tables

pub linked : (base : Plain) (table name : List ℕ) (other : NewEnd) (towards to to_name : List ℕ) (first second : LinkEnd) (start tables middle new : List PlainTable)
    → towards ≡ other.table → to ≡ other.table → to_name ≡ other.name
    → first ≡ end_towards towards true (schema_of base) → second ≡ end_towards table false (schema_of base)
    → start ≡ base.tables → tables ≡ with_end table base.next_column name first start
    → middle ≡ tables → new ≡ with_end to (base.next_column + 1) to_name second middle
    → new ≡ with_link_in base table name other
linked base table name other towards to to_name first second start tables middle new towards_is to_is name_is first_is second_is start_is tables_is middle_is new_is =
    let key = base.next_column + 1 in
    let begun = with_end table base.next_column name (end_towards other.table true (schema_of base)) base.tables in
    let all = middle_is ∙ tables_is
    ∙ ap (λ (it : List PlainTable). with_end table base.next_column name first it) start_is
    ∙ ap (λ (it : LinkEnd). with_end table base.next_column name it base.tables) (first_is ∙ ap (λ (it : List ℕ). end_towards it true (schema_of base)) towards_is) in
    new_is
    ∙ ap (λ (it : List PlainTable). with_end to key to_name second it) all
    ∙ ap (λ (it : List ℕ). with_end it key to_name second begun) to_is
    ∙ ap (λ (it : List ℕ). with_end other.table key it second begun) name_is
    ∙ ap (λ (it : LinkEnd). with_end other.table key other.name it begun) second_is
