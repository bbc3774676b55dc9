use Rattle.sea_moment.proofs.ReadAgain.{read_again}
use Rattle.sea_moment.proofs.dates.shown_moments_are_read_again.Goals as goal

pub returns : goal.returns
returns c = read_again
