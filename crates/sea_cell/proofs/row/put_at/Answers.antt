use Rattle.std.proofs.Common.{◌∙◌}
use Rattle.sea_cell.proofs.CellsLaws.{with_cell-removed, with_cell-set}
use Rattle.sea_cell.proofs.row.put_at.Goals as goal

pub returns-in-Empty : goal.returns-in-Empty
returns-in-Empty c = c.remove.ensures.items ∙ with_cell-removed c.args.cells.now.items c.requires.rising c.args.key c.args.at c.requires.place c.args.value c.in-Empty.is

pub returns : goal.returns
returns c = with_cell-set c.args.cells.now.items c.requires.rising c.args.key c.args.at c.requires.place c.args.value c.in_default.not-Empty
