use Rattle.std.proofs.Common.{ℕ, List, Option, sym, ap, ◌∙◌}
use Rattle.std.proofs.lemmas.Result.{IfOk-weaker}
use Rattle.sea_cell.specs.declared.column.NewEnd.{NewEnd}
use Rattle.sea_operation.specs.Apply.{with_link_in, with_column_in}
use Rattle.sea_plain.proofs.tables.with_column.Goals as goal

pub returns-in-Some : goal.returns-in-Some
returns-in-Some c =
    let base = c.args.base.now in
    let column = c.args.column.now in
    let other = c.in-Some.other in
    let same = ap (λ (table : List ℕ). with_link_in base table c.as_str-in-Some.result.now other) c.as_str.ensures
    ∙ ap (λ (name : List ℕ). with_link_in base c.args.table.now name other) c.as_str-in-Some.ensures
    ∙ ap (λ (end : Option NewEnd). with_column_in end base c.args.moment c.args.table.now column) (sym c.in-Some.is) in
    IfOk-weaker c.with_link.result _ _ (λ tables is. is ∙ same) c.with_link.ensures
