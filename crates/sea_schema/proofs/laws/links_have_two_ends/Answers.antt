use Rattle.sea_schema.specs.Tables.{without_column}
use Rattle.sea_schema.specs.Layout.{in_table, without_table, links_of_column, links_of_table}
use Rattle.sea_schema.proofs.BackLaws.{taken-back}
use Rattle.sea_schema.proofs.EndsLaws.{first-ends, second-ends, no-ends-left}
use Rattle.sea_schema.proofs.laws.links_have_two_ends.Goals as goal

pub returns-clause-first : goal.returns-clause-first
returns-clause-first c = first-ends

pub returns-clause-second : goal.returns-clause-second
returns-clause-second c = second-ends

pub returns-clause-gone_with_column : goal.returns-clause-gone_with_column
returns-clause-gone_with_column c = λ layout table column. no-ends-left (links_of_column table column layout.tables) (in_table table (without_column column) layout).tables

pub returns-clause-gone_with_table : goal.returns-clause-gone_with_table
returns-clause-gone_with_table c = λ layout table. no-ends-left (links_of_table table layout.tables) (without_table table layout).tables

pub returns-clause-taken_back : goal.returns-clause-taken_back
returns-clause-taken_back c = taken-back
