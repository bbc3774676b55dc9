use Rattle.std.proofs.Common.{◌≡◌, ◌++◌, drop}
use Rattle.std.specs.List.{filter_map}
use Rattle.sea_text.specs.Named.{listed}
use Rattle.sea_operation.specs.Viewed.{filter_of}
use Rattle.sea_operation.proofs.viewed.filters_of.Given as goal

-- what is made so far and of what is left is made of all
abbrev pub invariant-loop-filter : goal.invariant-loop-filter
invariant-loop-filter l = l.made ++ filter_map (filter_of (listed l.columns)) (drop l.filter-index l.filters) ≡ filter_map (filter_of (listed l.columns)) l.filters
