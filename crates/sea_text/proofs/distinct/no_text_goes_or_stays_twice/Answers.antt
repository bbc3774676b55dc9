use Rattle.sea_text.proofs.DistinctLaws.{is_among-once, count-once}
use Rattle.sea_text.proofs.distinct.no_text_goes_or_stays_twice.Goals as goal

pub returns-clause-same : goal.returns-clause-same
returns-clause-same c = is_among-once

pub returns-clause-single : goal.returns-clause-single
returns-clause-single c = count-once
