use Rattle.std.proofs.Common.{◌≡◌, ◌++◌, map, drop}
use Rattle.serde_json.specs.Data.{string}
use Rattle.sea_ops.specs.Straight.{all_tokens}
use Rattle.sea_ops.proofs.straight.put_texts.Given as goal

abbrev pub invariant-loop-text : goal.invariant-loop-text
invariant-loop-text l = (l.out.before ≡ l.initial.out.before) × (l.out.tokens ++ all_tokens (map string (drop l.text-index l.texts)) ≡ l.initial.out.tokens ++ all_tokens (map string l.texts))
