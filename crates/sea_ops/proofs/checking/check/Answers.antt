use Rattle.std.proofs.Common.{subst}
use Rattle.sea_operation.specs.Checks.{Checks}
use Rattle.sea_operation.specs.Refusal.{seen_refusal}
use Rattle.sea_ops.proofs.Besides.{same_seen}
use Rattle.sea_ops.proofs.checking.check.Goals as goal

-- what is shown of a plain base is what is seen of it
pub returns-clause-plain : goal.returns-clause-plain
returns-clause-plain g c = λ base shows. subst (λ seen. Checks c.check_beside.result (seen_refusal seen c.args.op.now)) (same_seen _ _ _ _ _ base shows) c.check_beside.ensures
