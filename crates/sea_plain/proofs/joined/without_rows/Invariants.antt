use Rattle.std.proofs.Common.{◌≡◌, ◌++◌, drop, filter}
use Rattle.sea_operation.specs.Joined.{has_no_row, texts_of_ids}
use Rattle.sea_plain.proofs.joined.without_rows.Given as goal

-- what is kept so far and of what is left is kept of all
abbrev pub invariant-loop-pair : goal.invariant-loop-pair
invariant-loop-pair l = l.kept ++ filter (has_no_row l.ends (texts_of_ids l.ids)) (drop l.pair-index l.pairs) ≡ filter (has_no_row l.ends (texts_of_ids l.ids)) l.pairs
