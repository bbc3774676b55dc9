use Rattle.std.proofs.Common.{◌≡◌, ◌≤◌, length, drop}
use Rattle.sea_filter.specs.Comparison.{has_part}
use Rattle.sea_filter.proofs.comparison.has_part.Given as goal

-- what is left has the part where the whole has
abbrev pub invariant-loop-at : goal.invariant-loop-at
invariant-loop-at l = (l.at ≤ length l.text) × (has_part l.part (drop l.at l.text) ≡ has_part l.part l.text)
