use Rattle.std.proofs.Common.{◌≡◌, drop, map}
use Rattle.sea_text.specs.Named.{listed}
use Rattle.sea_operation.specs.Refusal.{first_at, refused_cell}
use Rattle.sea_refusal.proofs.columns.bad_cell_in_changes.Given as goal

abbrev pub invariant-loop-change : goal.invariant-loop-change
invariant-loop-change l = first_at (λ cells. first_at (refused_cell (listed l.columns)) cells) (map (λ change. change.cells) (drop l.change-index l.changes)) ≡ first_at (λ cells. first_at (refused_cell (listed l.columns)) cells) (map (λ change. change.cells) l.changes)
