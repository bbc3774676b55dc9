use Rattle.std.proofs.Common.{◌+◌, List, drop, subst, ◌∙◌}
use Rattle.std.proofs.lemmas.Result.{err_from_is_err_and}
use Rattle.sea_cell.specs.declared.row.Row.{Row}
use Rattle.sea_dump.specs.Dump.{row_line, HasGiven}
use Rattle.sea_dump.proofs.DumpLaws.{next_left, given_more, given_cut}
use Rattle.sea_dump.proofs.output.write_rows.Goals as goal

-- a front of the lines of the next was given
pub returns-in_err-write_row-clause-gives : goal.returns-in_err-write_row-clause-gives
returns-in_err-write_row-clause-gives g c =
    let rows = c.args.rows.now in
    let row = c.row-item.result in
    let place = c.loop-row.row-index in
    let taken = g.K.Sink.taken c.args.sink.now in
    let given = g.K.Sink.taken c.loop-row.sink in
    let now = g.K.Sink.taken c.write_row.new.sink in
    let begins = next_left rows place row c.loop-row-test.true c.row-item.is in
    let before = subst (λ (left : List Row). HasGiven (row_line c.args.columns.now) rows left taken given) begins c.loop-row.invariant.given in
    let failed = err_from_is_err_and c.from_residual.result c.from_residual.ensures.1 in
    given_cut (row_line c.args.columns.now) rows row (drop (place + 1) rows) taken given now failed.0 c.write_row.result c.from_residual.result failed.1 (cc (c.in_err-write_row.was, failed.1, failed.2)) before (rw c.get.ensures at c.write_row.ensures.gives)

-- the lines of the next were given
pub loop-row-preserved : goal.loop-row-preserved
loop-row-preserved g c =
    let rows = c.args.rows.now in
    let row = c.row-item.result in
    let place = c.loop-row.row-index in
    let taken = g.K.Sink.taken c.args.sink.now in
    let given = g.K.Sink.taken c.loop-row.sink in
    let now = g.K.Sink.taken c.write_row.new.sink in
    let begins = next_left rows place row c.loop-row-test.true c.row-item.is in
    let before = subst (λ (left : List Row). HasGiven (row_line c.args.columns.now) rows left taken given) begins c.loop-row.invariant.given in
    record {
      given = given_more (row_line c.args.columns.now) rows row (drop (place + 1) rows) taken given now before (rw c.get.ensures at c.in_ok-write_row.ensures.gives);
      faults = c.in_ok-write_row.ensures.sink ∙ c.loop-row.invariant.faults;
    }
