-- A date is printed as its day number is.
use Rattle.std.proofs.Common.{rules, ◌∙◌, FitsSigned, w64, to_z-of_z}
use Rattle.sea_moment.proofs.DayNumbers.{date_text-day_text}
use Rattle.sea_moment.proofs.dates.push_day.Goals as goal

pub returns : goal.returns
returns c =
    let fits : FitsSigned w64 c.args.day = c.ranges.day in
    let same = date_text-day_text c.date_of.result c.args.day c.requires (c.date_of.ensures ∙ to_z-of_z fits) in
    let shown = c.as_str.ensures.value ∙ c.date_text-shown.ensures ∙ same in
    let bytes = rw shown at c.push_str.ensures.bytes in
    search rules
