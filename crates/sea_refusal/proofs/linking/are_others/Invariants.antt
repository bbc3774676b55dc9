use Rattle.std.proofs.Common.{◌≡◌, drop}
use Rattle.sea_operation.specs.Refusal.{first_at, missing_in_table}
use Rattle.sea_refusal.proofs.linking.are_others.Given as goal

abbrev pub invariant-loop-other : goal.invariant-loop-other
invariant-loop-other g l = first_at (missing_in_table (g.S.SeenBase.seen l.seen) l.end.table) (drop l.other-index l.others) ≡ first_at (missing_in_table (g.S.SeenBase.seen l.seen) l.end.table) l.others
