use Rattle.sea_lines.proofs.LinesOf.{place_found, place_none}
use Rattle.sea_lines.proofs.reader.length_of_line.Goals as goal

pub returns-in-Some-clause-place : goal.returns-in-Some-clause-place
returns-in-Some-clause-place c = place_found c.args.bytes.now c.in-Some.place c.in-Some.ensures

pub returns-in-None-clause-place : goal.returns-in-None-clause-place
returns-in-None-clause-place c = place_none c.args.bytes.now c.in-None.ensures
