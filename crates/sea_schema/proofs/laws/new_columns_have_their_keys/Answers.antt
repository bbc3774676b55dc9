use Rattle.sea_schema.proofs.KeysLaws.{column-at}
use Rattle.sea_schema.proofs.laws.new_columns_have_their_keys.Goals as goal

pub returns : goal.returns
returns c = column-at
