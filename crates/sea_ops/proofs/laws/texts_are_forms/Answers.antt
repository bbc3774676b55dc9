use Rattle.sea_ops.proofs.FormsLaws.{op_of-text_of}
use Rattle.sea_ops.proofs.laws.texts_are_forms.Goals as goal

pub returns : goal.returns
returns c = op_of-text_of
