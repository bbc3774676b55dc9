use Rattle.sea_operation.proofs.Alike.{alike}
use Rattle.sea_operation.proofs.laws.schemas_change_alike.Goals as goal

pub returns : goal.returns
returns c = alike
