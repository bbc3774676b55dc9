use Rattle.std.proofs.Common.{sym, arith}
use Rattle.std.proofs.lemmas.Bool.Decides.{nat_tests}
use Rattle.sea_schema.proofs.LinksLaws.{same-tables}
use Rattle.sea_schema.proofs.links.without_ends.Goals as goal

pub returns-then-is_empty : goal.returns-then-is_empty
returns-then-is_empty c = sym (same-tables c.args.links.now c.args.tables (grind (arith, nat_tests)))
