use Rattle.sea_operation.proofs.Firsts.{first_repeats, none_repeats}
use Rattle.sea_operation.proofs.laws.a_repeat_is_the_first.Goals as goal

pub returns-clause-told : goal.returns-clause-told
returns-clause-told c = first_repeats

pub returns-clause-none : goal.returns-clause-none
returns-clause-none c = none_repeats
