use Rattle.sea_operation.proofs.Firsts.{first_refused, last_taken, versions}
use Rattle.sea_operation.proofs.laws.entries_are_taken_in_turn.Goals as goal

pub returns-clause-refused : goal.returns-clause-refused
returns-clause-refused c = first_refused

pub returns-clause-taken : goal.returns-clause-taken
returns-clause-taken c = last_taken

pub returns-clause-counted : goal.returns-clause-counted
returns-clause-counted c = versions
