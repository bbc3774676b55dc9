use Rattle.sea_core.proofs.Counting.{counted, edit_places, feed_gives, feed_counts}
use Rattle.sea_core.proofs.laws.each_version_has_its_entry.Goals as goal

pub returns-clause-counted : goal.returns-clause-counted
returns-clause-counted g c = counted

pub returns-clause-fed : goal.returns-clause-fed
returns-clause-fed g c = feed_counts

pub returns-clause-placed : goal.returns-clause-placed
returns-clause-placed g c = edit_places

pub returns-clause-given : goal.returns-clause-given
returns-clause-given g c = feed_gives
