use Rattle.std.proofs.Common.{◌≡◌, drop}
use Rattle.sea_dump.specs.Dump.{row_line, HasGiven}
use Rattle.sea_dump.proofs.output.write_rows.Given as goal

-- the lines of the rows before were given
abbrev pub invariant-loop-row : goal.invariant-loop-row
invariant-loop-row g l = record {
  given : HasGiven (row_line l.columns) l.rows (drop l.row-index l.rows) (g.K.Sink.taken l.fn.sink) (g.K.Sink.taken l.sink);
  faults : g.K.Sink.faults l.sink ≡ g.K.Sink.faults l.fn.sink;
}
