use Rattle.std.proofs.Common.{flat_map}
use Rattle.sea_dump.specs.Dump.{row_line, table_line}
use Rattle.sea_dump.proofs.DumpLaws.{gives_both}
use Rattle.sea_dump.proofs.output.write_table.Goals as goal

pub returns-clause-gives : goal.returns-clause-gives
returns-clause-gives g c =
    let table = c.args.table.now in
    gives_both (g.K.Sink.taken c.args.sink.now) (g.K.Sink.taken c.write_head.new.sink) (g.K.Sink.taken c.write_rows.new.sink) c.write_rows.result (table_line table) (flat_map (row_line table.columns) table.rows) c.in_ok-write_head.ensures.gives (rw (c.as_slice.ensures, c.as_slice-2.ensures) at c.write_rows.ensures.gives)
