use Rattle.std.proofs.Common.{◌<◌, length, sym, ◌∙◌, arith}
use Rattle.std.proofs.lemmas.List.{take_rest}
use Rattle.sea_filter.proofs.Parts.{later_part}
use Rattle.sea_filter.proofs.comparison.has_part.Goals as goal

-- the part doesn't stand here
pub loop-at-preserved : goal.loop-at-preserved
loop-at-preserved c =
    let within : c.loop-at.at < length c.args.text.now = search arith in
    let none = sym c.starts_with.ensures.value ∙ c.if-starts_with.false in
    (omega (arith, within), later_part c.args.part.now c.args.text.now c.loop-at.at within (rw take_rest at none) ∙ c.loop-at.invariant.1)
