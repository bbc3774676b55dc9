use Rattle.std.proofs.Common.{◌≡◌, drop, fold}
use Rattle.sea_text.specs.Named.{listed}
use Rattle.sea_operation.specs.RowsOf.{with_member}
use Rattle.sea_operation.proofs.made.put_members.Given as goal

abbrev pub invariant-loop-member : goal.invariant-loop-member
invariant-loop-member l = fold (with_member (listed l.columns)) l.cells (drop l.member-index l.members) ≡ fold (with_member (listed l.columns)) l.initial.cells l.members
