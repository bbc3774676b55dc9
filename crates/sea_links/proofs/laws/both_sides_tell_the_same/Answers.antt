use Rattle.sea_links.proofs.SidesLaws.{has-added, has-removed, told-from-first, told-from-second}
use Rattle.sea_links.proofs.laws.both_sides_tell_the_same.Goals as goal

pub returns-clause-added : goal.returns-clause-added
returns-clause-added c = has-added

pub returns-clause-removed : goal.returns-clause-removed
returns-clause-removed c = has-removed

pub returns-clause-from_first : goal.returns-clause-from_first
returns-clause-from_first c = told-from-first

pub returns-clause-from_second : goal.returns-clause-from_second
returns-clause-from_second c = told-from-second
