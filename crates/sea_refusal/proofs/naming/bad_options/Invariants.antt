use Rattle.std.proofs.Common.{◌≡◌, drop}
use Rattle.sea_operation.specs.Refusal.{first_at, bad_option}
use Rattle.sea_refusal.proofs.naming.bad_options.Given as goal

abbrev pub invariant-loop-option : goal.invariant-loop-option
invariant-loop-option l = first_at bad_option (drop l.option-index l.options) ≡ first_at bad_option l.options
