use Rattle.std.proofs.Common.{◌<◌, length, sym, ◌∙◌, arith}
use Rattle.std.proofs.lemmas.List.{take_rest}
use Rattle.sea_ops.proofs.InOrder.{later_in_order}
use Rattle.sea_ops.proofs.straight.are_in_order.Goals as goal

-- the first two of what is left are in order
pub loop-at-preserved : goal.loop-at-preserved
loop-at-preserved c =
    let within : c.loop-at.at < length c.args.cells.now = search arith in
    let order = sym c.begin_in_order.ensures ∙ c.if-not-begin_in_order.false in
    (omega (arith, within), later_in_order c.args.cells.now c.loop-at.at within (rw take_rest at order) ∙ c.loop-at.invariant.1)
