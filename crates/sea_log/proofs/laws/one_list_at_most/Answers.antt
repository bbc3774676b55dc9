use Rattle.sea_log.proofs.Uniqueness.{same_log}
use Rattle.sea_log.proofs.laws.one_list_at_most.Goals as goal

pub returns : goal.returns
returns c = λ bytes one other end place first second. same_log bytes one other end place first second
