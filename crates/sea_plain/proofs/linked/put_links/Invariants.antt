use Rattle.std.proofs.Common.{◌≡◌, drop, fold}
use Rattle.sea_plain.specs.Linked.{with_links}
use Rattle.sea_plain.proofs.linked.put_links.Given as goal

abbrev pub invariant-loop-column : goal.invariant-loop-column
invariant-loop-column l = fold (with_links l.pairs l.id) l.cells (drop l.column-index l.columns) ≡ fold (with_links l.pairs l.id) l.initial.cells l.columns
