use Rattle.std.proofs.Common.{◌≡◌, ◌+◌, ◌++◌, drop, map}
use Rattle.sea_text.specs.Named.{listed}
use Rattle.sea_operation.specs.Refusal.{first_at, refused_cell, some_moment}
use Rattle.sea_operation.specs.RowsOf.{rows_of}
use Rattle.sea_operation.proofs.made.rows_of.Given as goal

abbrev pub invariant-loop-row : goal.invariant-loop-row
invariant-loop-row l =
    (l.next ≡ l.number + l.row-index)
    × (l.made.items ++ rows_of (listed l.columns) some_moment l.next (drop l.row-index l.rows) ≡ rows_of (listed l.columns) some_moment l.number l.rows)
    × (first_at (λ cells. first_at (refused_cell (listed l.columns)) cells) (map (λ row. row.cells) (drop l.row-index l.rows)) ≡ first_at (λ cells. first_at (refused_cell (listed l.columns)) cells) (map (λ row. row.cells) l.rows))
