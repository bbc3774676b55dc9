use Rattle.sea_operation.proofs.Firsts.{first_bad, all_fit}
use Rattle.sea_operation.proofs.laws.a_bad_filter_is_the_first.Goals as goal

pub returns-clause-told : goal.returns-clause-told
returns-clause-told c = first_bad

pub returns-clause-none : goal.returns-clause-none
returns-clause-none c = all_fit 0
