use Rattle.sea_ops.proofs.TextsLaws.{has_float-json_of}
use Rattle.sea_ops.proofs.laws.operations_have_no_float.Goals as goal

pub returns : goal.returns
returns c op = has_float-json_of op
