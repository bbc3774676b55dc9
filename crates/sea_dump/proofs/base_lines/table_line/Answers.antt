use Rattle.std.proofs.Common.{ap, ◌∙◌}
use Rattle.serde_json.specs.Written.{has_float}
use Rattle.sea_dump.specs.Dump.{json_line, table_line}
use Rattle.sea_dump.proofs.DumpLaws.{table_float}
use Rattle.sea_dump.proofs.base_lines.table_line.Goals as goal

pub json_line-requires : goal.json_line-requires
json_line-requires c = ap has_float c.in_ok-json.ensures ∙ table_float c.args.table.now

pub returns : goal.returns
unfolding table_line
returns c = c.in_ok-line.ensures ∙ ap json_line c.in_ok-json.ensures
