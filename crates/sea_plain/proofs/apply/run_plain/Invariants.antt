use Rattle.std.proofs.Common.{◌≡◌, drop}
use Rattle.sea_operation.specs.Apply.{after, after_from}
use Rattle.sea_plain.proofs.apply.run_plain.Given as goal

-- what the entries that are left make of the base so far is what all make of the first
abbrev pub invariant-loop-entry : goal.invariant-loop-entry
invariant-loop-entry l = (l.count ≡ l.entry-index) × (after_from l.count l.new (drop l.entry-index l.entry-items) ≡ after l.fn.base l.entry-items)
