use Rattle.std.proofs.Common.{ap, ◌∙◌}
use Rattle.serde_json.specs.Written.{has_float}
use Rattle.sea_dump.specs.Dump.{json_line, row_line}
use Rattle.sea_dump.proofs.DumpLaws.{row_float}
use Rattle.sea_dump.proofs.base_lines.row_line.Goals as goal

pub json_line-requires : goal.json_line-requires
json_line-requires c = ap has_float c.in_ok-json.ensures ∙ row_float c.args.columns.now c.args.row.now

pub returns : goal.returns
unfolding row_line
returns c = c.in_ok-line.ensures ∙ ap json_line c.in_ok-json.ensures
