use Rattle.std.proofs.Common.{Err, ap}
use Rattle.sea_core.proofs.base.Core.start.Goals as goal

pub returns-in-Err : goal.returns-in-Err
returns-in-Err g c = record {
  no_base = λ told bad. c.in-Err.ensures.none told (ap Err bad);
  any_moment = λ told. c.in-Err.ensures.leaves told;
  arch = λ told. c.in-Err.ensures.arch told;
  faults = c.in-Err.ensures.faults;
  failed = c.in-Err.ensures.failed;
}
