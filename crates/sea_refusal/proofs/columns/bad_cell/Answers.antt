use Rattle.std.proofs.Common.{rules}
use Rattle.sea_operation.specs.Refusal.{refused_in}
use Rattle.sea_refusal.proofs.columns.bad_cell.Goals as goal

-- other operations write no cells
pub returns-in_default : goal.returns-in_default
unfolding refused_in
returns-in_default g c = search rules
