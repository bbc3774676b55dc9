use Rattle.sea_record.proofs.Entries.{one_entry}
use Rattle.sea_record.proofs.laws.records_have_one_entry.Goals as goal

pub returns : goal.returns
returns c = one_entry
