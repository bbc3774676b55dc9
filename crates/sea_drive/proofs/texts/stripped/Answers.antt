use Rattle.sea_drive.proofs.TextsLaws.{stripped-from}
use Rattle.sea_drive.proofs.texts.stripped.Goals as goal

pub returns : goal.returns
returns c = stripped-from c.args.front.now c.args.text.now c.strip_prefix.result c.strip_prefix.ensures.cases
