use Rattle.sea_core.proofs.Standing.{one_standing}
use Rattle.sea_core.proofs.laws.one_base_at_most.Goals as goal

pub returns : goal.returns
returns c = one_standing c.one_list_at_most.ensures c.records_have_one_entry.ensures
