use Rattle.std.proofs.Common.{◌≡◌, ◌+◌, ◌*◌, ◌^◌, ◌≤◌, drop, option_map}
use Rattle.sea_cell.specs.Sizes.{texts_size}
use Rattle.sea_cell.proofs.sizes.texts_size.Given as goal

-- the size so far and that of what is left are that of all
abbrev pub invariant-loop-text : goal.invariant-loop-text
invariant-loop-text l = (option_map (λ more. l.total + more) (texts_size (drop l.text-index l.texts)) ≡ texts_size l.texts) × (l.total ≤ l.text-index * (2 ^ 32 + 8))
