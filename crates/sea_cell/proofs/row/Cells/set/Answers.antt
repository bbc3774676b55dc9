use Rattle.sea_cell.proofs.CellsLaws.{cells-put}
use Rattle.sea_cell.proofs.row.Cells.set.Goals as goal

pub invariant_of-self : goal.invariant_of-self
invariant_of-self c = cells-put c.put.result _ _ c.args.key c.args.value c.put.ensures.ok c.put.ensures.err c.self.invariant
