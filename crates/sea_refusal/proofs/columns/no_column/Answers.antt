use Rattle.std.proofs.Common.{ℕ, List, Option, subst, ap, ◌∙◌}
use Rattle.sea_text.specs.Named.{listed}
use Rattle.sea_operation.specs.declared.refusal.OpRefusal.{OpRefusal}
use Rattle.sea_operation.specs.Checks.{Checks}
use Rattle.sea_operation.specs.Seen.{columns_in}
use Rattle.sea_refusal.proofs.Filtered.{of_insert, of_modify}
use Rattle.sea_refusal.proofs.columns.no_column.Goals as goal

pub returns-in-InsertView : goal.returns-in-InsertView
returns-in-InsertView g c =
    let seen = g.S.SeenBase.seen c.args.seen.now in
    let columns = c.columns_in-columns.ensures ∙ ap (λ (name : List ℕ). columns_in seen name) (c.as_str.ensures ∙ c.table_name.ensures) in
    subst (λ (refusal : Option OpRefusal). Checks c.is_view_of.result refusal)
    (of_insert seen (listed c.columns_in-columns.result) c.in-InsertView.table c.in-InsertView.view c.args.op.now columns c.in-InsertView.is)
    c.is_view_of.ensures

pub returns-in-ModifyView : goal.returns-in-ModifyView
returns-in-ModifyView g c =
    let seen = g.S.SeenBase.seen c.args.seen.now in
    let columns = c.columns_in-columns.ensures ∙ ap (λ (name : List ℕ). columns_in seen name) (c.as_str.ensures ∙ c.table_name.ensures) in
    subst (λ (refusal : Option OpRefusal). Checks c.is_view_of-in-ModifyView.result refusal)
    (of_modify seen (listed c.columns_in-columns.result) c.in-ModifyView.table c.in-ModifyView.view c.args.op.now columns c.in-ModifyView.is)
    c.is_view_of-in-ModifyView.ensures
