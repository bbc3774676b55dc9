use Rattle.std.proofs.Common.{rules}
use Rattle.sea_ops.specs.Texts.{text_of}
use Rattle.sea_ops.proofs.straight.rows_text.Goals as goal

pub returns-in-AppendRows : goal.returns-in-AppendRows
unfolding text_of
returns-in-AppendRows c = search rules

pub returns-in-ModifyRows : goal.returns-in-ModifyRows
unfolding text_of
returns-in-ModifyRows c = search rules
