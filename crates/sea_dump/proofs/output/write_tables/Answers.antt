use Rattle.std.proofs.Common.{◌+◌, List, drop, subst, ◌∙◌}
use Rattle.std.proofs.lemmas.Result.{err_from_is_err_and}
use Rattle.sea_plain.specs.declared.linked.TableRows.{TableRows}
use Rattle.sea_dump.specs.Dump.{table_lines, HasGiven}
use Rattle.sea_dump.proofs.DumpLaws.{next_left, given_more, given_cut}
use Rattle.sea_dump.proofs.output.write_tables.Goals as goal

-- a front of the lines of the next was given
pub returns-in_err-write_table-clause-gives : goal.returns-in_err-write_table-clause-gives
returns-in_err-write_table-clause-gives g c =
    let tables = c.args.tables.now in
    let table = c.table-item.result in
    let place = c.loop-table.table-index in
    let taken = g.K.Sink.taken c.args.sink.now in
    let given = g.K.Sink.taken c.loop-table.sink in
    let now = g.K.Sink.taken c.write_table.new.sink in
    let begins = next_left tables place table c.loop-table-test.true c.table-item.is in
    let before = subst (λ (left : List TableRows). HasGiven table_lines tables left taken given) begins c.loop-table.invariant.given in
    let failed = err_from_is_err_and c.from_residual.result c.from_residual.ensures.1 in
    given_cut table_lines tables table (drop (place + 1) tables) taken given now failed.0 c.write_table.result c.from_residual.result failed.1 (cc (c.in_err-write_table.was, failed.1, failed.2)) before c.write_table.ensures.gives

-- the lines of the next were given
pub loop-table-preserved : goal.loop-table-preserved
loop-table-preserved g c =
    let tables = c.args.tables.now in
    let table = c.table-item.result in
    let place = c.loop-table.table-index in
    let taken = g.K.Sink.taken c.args.sink.now in
    let given = g.K.Sink.taken c.loop-table.sink in
    let now = g.K.Sink.taken c.write_table.new.sink in
    let begins = next_left tables place table c.loop-table-test.true c.table-item.is in
    let before = subst (λ (left : List TableRows). HasGiven table_lines tables left taken given) begins c.loop-table.invariant.given in
    record {
      given = given_more table_lines tables table (drop (place + 1) tables) taken given now before c.in_ok-write_table.ensures.gives;
      faults = c.in_ok-write_table.ensures.sink ∙ c.loop-table.invariant.faults;
    }
