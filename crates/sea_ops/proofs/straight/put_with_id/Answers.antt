use Rattle.std.proofs.Common.{sym, ap, ◌∙◌, codes}
use Rattle.serde_json.specs.Data.{string, no_members, put}
use Rattle.sea_ops.specs.Straight.{members_of}
use Rattle.sea_ops.specs.Texts.{with_cells}
use Rattle.sea_ops.proofs.InOrder.{in_order}
use Rattle.sea_ops.proofs.StraightTexts.{row_written}
use Rattle.sea_ops.proofs.straight.put_with_id.Goals as goal

pub returns-clause-row : goal.returns-clause-row
returns-clause-row c done =
    let id = string c.args.id.now in
    let cells = c.args.cells.now in
    let order = in_order cells (sym c.are_in_order.ensures ∙ c.if-not-are_in_order.false) in
    row_written _ _ _ (put (codes "_id") id (with_cells cells no_members)) (put (codes "_id") id (members_of cells))
    c.in_ok-begin_object.ensures.ok c.in_ok-put_cells_with_id.ensures.cells (ap (put (codes "_id") id) order)
