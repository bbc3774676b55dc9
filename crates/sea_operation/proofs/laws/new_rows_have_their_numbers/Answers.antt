use Rattle.sea_operation.proofs.Numbered.{row_at, id_at}
use Rattle.sea_operation.proofs.laws.new_rows_have_their_numbers.Goals as goal

pub returns-clause-rows : goal.returns-clause-rows
returns-clause-rows c = row_at

pub returns-clause-ids : goal.returns-clause-ids
returns-clause-ids c = id_at
