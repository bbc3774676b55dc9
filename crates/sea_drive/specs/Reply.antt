-- The line that is written for an outcome: compact JSON with its members in byte order, and a newline.
use Rattle.std.specs.Prelude.{ℕ, List, [], ◌∷◌, ◌++◌, map, Option, Some, None, codes}
use Rattle.serde_json.specs.Data.{Data, null, number, unsigned, array, object, member, no_members}
use Rattle.serde_json.specs.View.{items_of}
use Rattle.serde_json.specs.Written.{compact_text}
use Rattle.sea_cell.specs.Conversion.{json_of, texts_json}
use Rattle.sea_cell.specs.declared.values.CellValue.{CellValue}
use Rattle.sea_drive.specs.declared.outcome.LineOutcome.{LineOutcome}
use Rattle.sea_drive.specs.declared.outcome.LineOutcome.TheVariants.{Silent, Version, Reopened, Rows, Fed, Refused, NotABase, BadLine, NotYet}
use Rattle.sea_drive.specs.Fed.{feed_json}
use Rattle.sea_drive.specs.Refused.{error_json, fault_json}

-- an array of the cells of a row
abbrev pub row_json : List CellValue → Data
row_json cells = array (items_of (map json_of cells))

-- an array of rows
abbrev pub rows_json : List (List CellValue) → Data
rows_json rows = array (items_of (map row_json rows))

-- an object with one number
abbrev pub number_json : List ℕ → ℕ → Data
number_json name value = object (member name (number (unsigned value)) no_members)

-- the JSON of an outcome
abbrev pub outcome_json : LineOutcome → Data
outcome_json Silent = null
outcome_json (Version version) = number_json (codes "version") version
outcome_json (Reopened version) = number_json (codes "reopened") version
outcome_json (Rows answer) =
    object (member (codes "columns") (texts_json answer.columns) (member (codes "rows") (rows_json answer.rows) no_members))
outcome_json (Fed feed) = feed_json feed
outcome_json (Refused fault) = fault_json fault
outcome_json NotABase = error_json (codes "NotABase")
outcome_json BadLine = error_json (codes "BadLine")
outcome_json NotYet = error_json (codes "NotYet")

-- the line of an outcome, and none for a line that asks for no reply
abbrev pub outcome_line : LineOutcome → List ℕ
outcome_line Silent = []
outcome_line outcome = compact_text (outcome_json outcome) ++ 10 ∷ []

-- the same, where None is want of memory
unfoldable pub reply_line : Option LineOutcome → List ℕ
reply_line (Some outcome) = outcome_line outcome
reply_line None = codes "{\"error\":\"Memory\"}\n"
