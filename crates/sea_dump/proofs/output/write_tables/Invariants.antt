use Rattle.std.proofs.Common.{◌≡◌, drop}
use Rattle.sea_dump.specs.Dump.{table_lines, HasGiven}
use Rattle.sea_dump.proofs.output.write_tables.Given as goal

-- the lines of the tables before were given
abbrev pub invariant-loop-table : goal.invariant-loop-table
invariant-loop-table g l = record {
  given : HasGiven table_lines l.tables (drop l.table-index l.tables) (g.K.Sink.taken l.fn.sink) (g.K.Sink.taken l.sink);
  faults : g.K.Sink.faults l.sink ≡ g.K.Sink.faults l.fn.sink;
}
