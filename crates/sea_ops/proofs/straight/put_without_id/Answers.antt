use Rattle.std.proofs.Common.{sym, ◌∙◌}
use Rattle.serde_json.specs.Data.{no_members}
use Rattle.sea_ops.specs.Straight.{members_of}
use Rattle.sea_ops.specs.Texts.{with_cells}
use Rattle.sea_ops.proofs.InOrder.{in_order}
use Rattle.sea_ops.proofs.StraightTexts.{row_written}
use Rattle.sea_ops.proofs.straight.put_without_id.Goals as goal

pub returns-clause-row : goal.returns-clause-row
returns-clause-row c done =
    let cells = c.args.cells.now in
    let order = in_order cells (sym c.are_in_order.ensures ∙ c.if-not-are_in_order.false) in
    row_written _ _ _ (with_cells cells no_members) (members_of cells) c.in_ok-begin_object.ensures.ok c.in_ok-put_cells.ensures.cells order
