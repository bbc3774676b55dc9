use Rattle.sea_schema.proofs.LinksLaws.{same-where}
use Rattle.sea_schema.proofs.table.Table.has_link_of.Goals as goal

pub returns-clause-same : goal.returns-clause-same
returns-clause-same c = same-where c.args.links.now c.args.self.now c.has_end_of.result (rw c.as_slice.ensures at c.has_end_of.ensures)
