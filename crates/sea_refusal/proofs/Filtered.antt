-- The columns of a view's filters are those that its operation names.
use Rattle.std.proofs.Common.{◌≡◌, ℕ, List, sym, ap, ◌∙◌}
use Rattle.sea_cell.specs.declared.column.Column.{Column}
use Rattle.sea_operation.specs.declared.operation.NewView.{NewView}
use Rattle.sea_operation.specs.declared.operation.Op.{Op}
use Rattle.sea_operation.specs.declared.operation.Op.TheVariants.{InsertView, ModifyView}
use Rattle.sea_operation.specs.Makes.{table_name}
use Rattle.sea_operation.specs.Refusal.{first_at, missing_filtered, no_column}
use Rattle.sea_operation.specs.Seen.{Seen, columns_in}

pub of_insert : (seen : Seen) (columns : List Column) (table : List ℕ) (view : NewView) (op : Op) → columns ≡ columns_in seen (table_name op) → op ≡ InsertView table view → first_at (missing_filtered columns) view.filters ≡ no_column seen op
of_insert seen columns table view op columns_is is =
    ap (λ (it : List Column). first_at (missing_filtered it) view.filters) (columns_is ∙ ap (λ (it : Op). columns_in seen (table_name it)) is)
    ∙ sym (ap (no_column seen) is)

pub of_modify : (seen : Seen) (columns : List Column) (table : List ℕ) (view : NewView) (op : Op) → columns ≡ columns_in seen (table_name op) → op ≡ ModifyView table view → first_at (missing_filtered columns) view.filters ≡ no_column seen op
of_modify seen columns table view op columns_is is =
    ap (λ (it : List Column). first_at (missing_filtered it) view.filters) (columns_is ∙ ap (λ (it : Op). columns_in seen (table_name it)) is)
    ∙ sym (ap (no_column seen) is)
