-- A day of the calendar in the years 1 to 9999 has a day number of theirs.
use Rattle.std.proofs.Common.{◌≡◌, pos, arith, ◌∙◌}
use Rattle.std.proofs.lemmas.Int.{ints}
use Rattle.jiff_core.proofs.SignedLemmas.{signed_arith}
use Rattle.sea_moment.proofs.DayNumbers.{date-range}
use Rattle.sea_moment.proofs.dates.day_number.Goals as goal

pub returns-in-Ok-clause-range : goal.returns-in-Ok-clause-range
returns-in-Ok-clause-range c =
    let year : c.in-Ok.date.year ≡ pos c.args.year = c.in-Ok.ensures.value.0 ∙ omega (arith, ints) in
    let range = date-range c.in-Ok.date c.args.year year (omega arith) in
    omega (arith, signed_arith)
