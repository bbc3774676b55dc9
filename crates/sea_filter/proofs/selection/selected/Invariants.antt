use Rattle.std.proofs.Common.{◌≡◌, ◌++◌, drop}
use Rattle.sea_filter.specs.Selection.{selected}
use Rattle.sea_filter.proofs.selection.selected.Given as goal

-- what is selected so far and of what is left is selected of all
abbrev pub invariant-loop-row : goal.invariant-loop-row
invariant-loop-row l = l.ids ++ selected l.view l.columns (drop l.row-index l.row-items) ≡ selected l.view l.columns l.row-items
