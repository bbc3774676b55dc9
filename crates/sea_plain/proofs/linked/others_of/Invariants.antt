use Rattle.std.proofs.Common.{◌≡◌, ◌++◌, drop}
use Rattle.sea_links.specs.Pairs.{others_of}
use Rattle.sea_plain.proofs.linked.others_of.Given as goal

-- those found so far and those of what is left are all
abbrev pub invariant-loop-pair : goal.invariant-loop-pair
invariant-loop-pair l = l.others ++ others_of l.link l.first l.id (drop l.pair-index l.pairs) ≡ others_of l.link l.first l.id l.pairs
