use Rattle.std.proofs.Common.{sym, ap, ◌∙◌, Some, arith}
use Rattle.std.proofs.lemmas.List.{get_or_default}
use Rattle.sea_cell.proofs.CellsLaws.{cell_under-at, cell_under-none, rising_at, no_cell}
use Rattle.sea_cell.proofs.row.find.Goals as goal

pub returns-in-Ok : goal.returns-in-Ok
returns-in-Ok c =
    let at = c.in-Ok.ensures.found in
    let value = cell_under-at c.args.cells.now c.args.key c.in-Ok.at (λ i lt. omega (arith, rising_at c.args.cells.now c.requires i c.in-Ok.at lt at.within, at.same)) at in
    let read = get_or_default c.args.cells.now c.in-Ok.at c.index-cells-at.result no_cell at.within in
    ap (λ cell. Some cell.value) read ∙ sym value

pub returns-in-Err : goal.returns-in-Err
returns-in-Err c =
    let gap = c.in-Err.ensures.absent in
    sym (cell_under-none c.args.cells.now c.args.key (λ i lt same. grind (arith, gap.before i, gap.after i)))
