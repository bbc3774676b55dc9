use Rattle.std.proofs.Common.{◌≡◌, ◌++◌, map, drop}
use Rattle.sea_ops.specs.Straight.{all_tokens}
use Rattle.sea_ops.specs.Texts.{change_json}
use Rattle.sea_ops.proofs.straight.put_changes.Given as goal

abbrev pub invariant-loop-change : goal.invariant-loop-change
invariant-loop-change l = (l.out.before ≡ l.initial.out.before) × (l.out.tokens ++ all_tokens (map change_json (drop l.change-index l.changes)) ≡ l.initial.out.tokens ++ all_tokens (map change_json l.changes))
