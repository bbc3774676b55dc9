use Rattle.std.proofs.Common.{[], sym}
use Rattle.sea_links.proofs.LookLaws.{pair-by-first, pair-by-second}
use Rattle.sea_links.proofs.pair_index.PairIndex.number_of.Goals as goal

pub returns-in_default-clause-none : goal.returns-in_default-clause-none
returns-in_default-clause-none c = sym (pair-by-first c.args.link c.args.first.now c.args.second.now c.args.self.now.pairs c.requires.ordered [] c.in_default.ensures)

pub returns-in_default-numbers-clause-none : goal.returns-in_default-numbers-clause-none
returns-in_default-numbers-clause-none c = sym (pair-by-second c.args.link c.args.first.now c.args.second.now c.args.self.now.pairs c.requires.ordered [] c.in_default-numbers.ensures)

pub returns-then-len-clause-none : goal.returns-then-len-clause-none
returns-then-len-clause-none c = rw (pair-by-first c.args.link c.args.first.now c.args.second.now c.args.self.now.pairs c.requires.ordered c.in-Some.of_first.now.keys c.in-Some.ensures) at c.found.ensures.none

pub returns-clause-none : goal.returns-clause-none
returns-clause-none c = rw (pair-by-second c.args.link c.args.first.now c.args.second.now c.args.self.now.pairs c.requires.ordered c.in-Some-numbers.of_second.now.keys c.in-Some-numbers.ensures) at c.found-2.ensures.none
