use Rattle.std.proofs.Common.{◌∙◌}
use Rattle.sea_cell.proofs.CellsLaws.{with_cell-none, with_cell-inserted}
use Rattle.sea_cell.proofs.row.insert_at.Goals as goal

pub returns-in-Empty-clause-ok : goal.returns-in-Empty-clause-ok
returns-in-Empty-clause-ok c = with_cell-none c.args.cells.now.items c.args.key c.args.at c.requires c.args.value c.in-Empty.is

pub returns-clause-ok : goal.returns-clause-ok
returns-clause-ok c = c.in_ok-insert.ensures.items ∙ with_cell-inserted c.args.cells.now.items c.args.key c.args.at c.requires c.args.value c.in_default.not-Empty
