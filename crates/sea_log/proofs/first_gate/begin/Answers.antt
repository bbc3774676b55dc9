use Rattle.sea_log.proofs.Moments.{begin_gate}
use Rattle.sea_log.proofs.first_gate.begin.Goals as goal

pub returns-in_err-write_through-clause-any_moment : goal.returns-in_err-write_through-clause-any_moment
returns-in_err-write_through-clause-any_moment g c told short = begin_gate short (c.write_through.ensures.works told)

pub returns-clause-any_moment : goal.returns-clause-any_moment
returns-clause-any_moment g c told short = begin_gate short (c.write_through.ensures.works told)
