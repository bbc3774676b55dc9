use Rattle.std.proofs.Common.{◌≡◌, ◌++◌, map, drop}
use Rattle.sea_ops.specs.Straight.{all_tokens}
use Rattle.sea_ops.specs.Texts.{row_json}
use Rattle.sea_ops.proofs.straight.put_rows.Given as goal

abbrev pub invariant-loop-row : goal.invariant-loop-row
invariant-loop-row l = (l.out.before ≡ l.initial.out.before) × (l.out.tokens ++ all_tokens (map row_json (drop l.row-index l.rows)) ≡ l.initial.out.tokens ++ all_tokens (map row_json l.rows))
