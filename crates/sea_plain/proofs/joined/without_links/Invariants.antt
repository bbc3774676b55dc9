use Rattle.std.proofs.Common.{◌≡◌, ◌++◌, drop, filter}
use Rattle.sea_operation.specs.Joined.{is_of_others}
use Rattle.sea_plain.proofs.joined.without_links.Given as goal

-- what is kept so far and of what is left is kept of all
abbrev pub invariant-loop-pair : goal.invariant-loop-pair
invariant-loop-pair l = l.kept ++ filter (is_of_others l.links) (drop l.pair-index l.pairs) ≡ filter (is_of_others l.links) l.pairs
