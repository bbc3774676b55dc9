-- No outcome has a float in its JSON, so its text is that of its JSON.
use Rattle.std.proofs.Common.{◌≡◌, ◌≢◌, ℕ, ◌+◌, List, [], ◌∷◌, ◌++◌, false, map, refl}
use Rattle.serde_json.specs.View.{items_of}
use Rattle.serde_json.specs.Written.{has_float, items_have_float, compact_text}
use Rattle.sea_cell.specs.Conversion.{json_of}
use Rattle.sea_cell.specs.declared.values.CellValue.{CellValue}
use Rattle.sea_cell.specs.declared.values.CellValue.TheVariants as cell
use Rattle.sea_operation.specs.declared.refusal.OpRefusal.{OpRefusal}
use Rattle.sea_operation.specs.declared.refusal.OpRefusal.TheVariants as op
use Rattle.sea_operation.specs.declared.operation.Op.{Op}
use Rattle.sea_ops.specs.Texts.{json_of as op_json}
use Rattle.sea_operation.specs.declared.operation.Entry.{Entry}
use Rattle.sea_core.specs.declared.fault.CoreFault.{CoreFault}
use Rattle.sea_core.specs.declared.fault.CoreFault.TheVariants as core
use Rattle.sea_dump.specs.Floats.{texts_float, cell_float}
use Rattle.sea_drive.specs.Fed.{entries_json}
use Rattle.sea_drive.specs.Refused.{refusal_json, fault_json}
use Rattle.sea_drive.specs.Reply.{row_json, outcome_json, outcome_line}
use Rattle.sea_drive.specs.declared.outcome.LineOutcome.{LineOutcome}
use Rattle.sea_drive.specs.declared.outcome.LineOutcome.TheVariants.{Silent, Version, Reopened, Rows, Fed, Refused, NotABase, BadLine, NotYet}

cells_float : (cells : List CellValue) → items_have_float (items_of (map json_of cells)) ≡ false
cells_float [] = refl
cells_float (value ∷ cells) = rw (cell_float value) (cells_float cells)

rows_float : (rows : List (List CellValue)) → items_have_float (items_of (map row_json rows)) ≡ false
rows_float [] = refl
rows_float (row ∷ rows) = rw (cells_float row) (rows_float rows)

refusal_float : (refusal : OpRefusal) → has_float (refusal_json refusal) ≡ false
refusal_float op.Memory = refl
refusal_float op.BadOperation = refl
refusal_float (op.NumbersSpent _) = refl
refusal_float (op.NoTable _) = refl
refusal_float (op.NoColumn _) = refl
refusal_float (op.NoView _) = refl
refusal_float (op.NoRow _) = refl
refusal_float (op.BadName _) = refl
refusal_float (op.NameTaken _) = refl
refusal_float (op.BadFilter _) = refl
refusal_float (op.BadCell _ _) = refl
refusal_float (op.DuplicateRow _) = refl
refusal_float (op.TooMany _) = refl
refusal_float (op.RowTooBig _) = refl
refusal_float (op.NotLink _) = refl
refusal_float (op.NotSelect _) = refl
refusal_float (op.LinkExists _) = refl
refusal_float (op.NoLink _) = refl
refusal_float (op.FirstColumn _) = refl

-- the value of an operation has none
abbrev pub NoFloatInOps : Type 0
NoFloatInOps = (op : Op) → has_float (op_json op) ≡ false

entries_float : NoFloatInOps → (version : ℕ) (entries : List Entry) → items_have_float (items_of (entries_json version entries)) ≡ false
entries_float ops version [] = refl
entries_float ops version (entry ∷ entries) = rw (ops entry.op, entries_float ops (version + 1) entries) refl

fault_float : (fault : CoreFault) → has_float (fault_json fault) ≡ false
fault_float core.Memory = refl
fault_float (core.Op refusal) = refusal_float refusal
fault_float (core.BaseFailed _) = refl
fault_float (core.LogFull _) = refl
fault_float core.DiskFault = refl
fault_float (core.FeedGone _) = refl
fault_float (core.FeedAhead _) = refl

pub outcome_float : NoFloatInOps → (outcome : LineOutcome) → has_float (outcome_json outcome) ≡ false
outcome_float ops Silent = refl
outcome_float ops (Version _) = refl
outcome_float ops (Rows answer) = rw (texts_float answer.columns, rows_float answer.rows) refl
outcome_float ops (Fed feed) = rw (entries_float ops feed.first feed.entries) refl
outcome_float ops (Refused fault) = fault_float fault
outcome_float ops (Reopened _) = refl
outcome_float ops NotABase = refl
outcome_float ops BadLine = refl
outcome_float ops NotYet = refl

-- an outcome with a reply
pub line-shown : (outcome : LineOutcome) → outcome ≢ Silent → outcome_line outcome ≡ compact_text (outcome_json outcome) ++ 10 ∷ []
line-shown Silent h = absurd (h refl)
line-shown (Version _) h = refl
line-shown (Rows _) h = refl
line-shown (Fed _) h = refl
line-shown (Refused _) h = refl
line-shown (Reopened _) h = refl
line-shown NotABase h = refl
line-shown BadLine h = refl
line-shown NotYet h = refl
