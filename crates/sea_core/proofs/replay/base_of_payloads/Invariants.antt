use Rattle.std.proofs.Common.{drop}
use Rattle.sea_core.proofs.Making.{IsReplayed}
use Rattle.sea_core.proofs.replay.base_of_payloads.Given as goal

abbrev pub invariant-loop-payload : goal.invariant-loop-payload
invariant-loop-payload l = IsReplayed l.payloads l.base (drop l.payload-index l.payloads)
