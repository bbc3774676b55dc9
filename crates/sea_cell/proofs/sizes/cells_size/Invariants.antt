use Rattle.std.proofs.Common.{◌≡◌, ◌+◌, ◌*◌, ◌^◌, ◌≤◌, drop, option_map}
use Rattle.sea_cell.specs.Sizes.{cells_size}
use Rattle.sea_cell.proofs.sizes.cells_size.Given as goal

-- the size so far and that of what is left are that of all
abbrev pub invariant-loop-cell : goal.invariant-loop-cell
invariant-loop-cell l = (option_map (λ more. l.total + more) (cells_size (drop l.cell-index l.cells)) ≡ cells_size l.cells) × (l.total ≤ l.cell-index * 2 ^ 41)
