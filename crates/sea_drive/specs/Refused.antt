-- The JSON of a refusal: an object with its name and its fields, with the members in byte order.
use Rattle.std.specs.Prelude.{ℕ, List, codes}
use Rattle.serde_json.specs.Data.{Data, number, unsigned, string, object, member, no_members}
use Rattle.sea_cell.specs.declared.conversion.CellFault.{CellFault}
use Rattle.sea_cell.specs.declared.conversion.CellFault.TheVariants as fault
use Rattle.sea_operation.specs.declared.refusal.Counter.{Counter}
use Rattle.sea_operation.specs.declared.refusal.Counter.TheVariants as counter
use Rattle.sea_operation.specs.declared.refusal.OpRefusal.{OpRefusal}
use Rattle.sea_operation.specs.declared.refusal.OpRefusal.TheVariants as refusal
use Rattle.sea_core.specs.declared.fault.CoreFault.{CoreFault}
use Rattle.sea_core.specs.declared.fault.CoreFault.TheVariants as core

-- an object that names an error
abbrev pub error_json : List ℕ → Data
error_json error = object (member (codes "error") (string error) no_members)

-- an error with a text behind it
abbrev pub error_with_text : List ℕ → List ℕ → List ℕ → Data
error_with_text error field text = object (member (codes "error") (string error) (member field (string text) no_members))

-- an error with the name of a column in front of it
abbrev pub column_error : List ℕ → List ℕ → Data
column_error column error = object (member (codes "column") (string column) (member (codes "error") (string error) no_members))

-- the word for a number that has a last value
abbrev pub counter_word : Counter → List ℕ
counter_word counter.Version = codes "version"
counter_word counter.NextRow = codes "next_row"
counter_word counter.NextTable = codes "next_table"
counter_word counter.NextColumn = codes "next_column"
counter_word counter.NextLink = codes "next_link"
counter_word counter.Lsn = codes "lsn"

-- the word for why a column takes no such cell
abbrev pub fault_word : CellFault → List ℕ
fault_word fault.Memory = codes "Memory"
fault_word fault.NotWritable = codes "NotWritable"
fault_word fault.NotText = codes "NotText"
fault_word fault.NotWhole = codes "NotWhole"
fault_word fault.OutOfRange = codes "OutOfRange"
fault_word fault.NotCheck = codes "NotCheck"
fault_word fault.BadDate = codes "BadDate"
fault_word fault.NotList = codes "NotList"
fault_word fault.TooLong = codes "TooLong"
fault_word fault.NoOption = codes "NoOption"

-- the JSON of a refusal of an operation
abbrev pub refusal_json : OpRefusal → Data
refusal_json refusal.Memory = error_json (codes "Memory")
refusal_json refusal.BadOperation = error_json (codes "BadOperation")
refusal_json (refusal.NumbersSpent name) = object (member (codes "counter") (string (counter_word name)) (member (codes "error") (string (codes "NumbersSpent")) no_members))
refusal_json (refusal.NoTable name) = error_with_text (codes "NoTable") (codes "name") name
refusal_json (refusal.NoColumn name) = error_with_text (codes "NoColumn") (codes "name") name
refusal_json (refusal.NoView name) = error_with_text (codes "NoView") (codes "name") name
refusal_json (refusal.NoRow id) = error_with_text (codes "NoRow") (codes "id") id
refusal_json (refusal.BadName name) = error_with_text (codes "BadName") (codes "name") name
refusal_json (refusal.NameTaken name) = error_with_text (codes "NameTaken") (codes "name") name
refusal_json (refusal.BadFilter index) = object (member (codes "error") (string (codes "BadFilter")) (member (codes "index") (number (unsigned index)) no_members))
refusal_json (refusal.BadCell column why) = object (member (codes "column") (string column) (member (codes "error") (string (codes "BadCell")) (member (codes "fault") (string (fault_word why)) no_members)))
refusal_json (refusal.DuplicateRow id) = error_with_text (codes "DuplicateRow") (codes "id") id
refusal_json (refusal.TooMany limit) = object (member (codes "error") (string (codes "TooMany")) (member (codes "limit") (number (unsigned limit)) no_members))
refusal_json (refusal.RowTooBig bytes) = object (member (codes "bytes") (number (unsigned bytes)) (member (codes "error") (string (codes "RowTooBig")) no_members))
refusal_json (refusal.NotLink column) = column_error column (codes "NotLink")
refusal_json (refusal.NotSelect column) = column_error column (codes "NotSelect")
refusal_json (refusal.LinkExists id) = error_with_text (codes "LinkExists") (codes "id") id
refusal_json (refusal.NoLink id) = error_with_text (codes "NoLink") (codes "id") id
refusal_json (refusal.FirstColumn column) = column_error column (codes "FirstColumn")

-- an error with a number behind it
abbrev pub error_with_number : List ℕ → List ℕ → ℕ → Data
error_with_number error field value = object (member (codes "error") (string error) (member field (number (unsigned value)) no_members))

-- the JSON of what the core answers in place of what was asked for
abbrev pub fault_json : CoreFault → Data
fault_json core.Memory = error_json (codes "Memory")
fault_json (core.Op why) = refusal_json why
fault_json (core.BaseFailed count) = object (member (codes "count") (number (unsigned count)) (member (codes "error") (string (codes "BaseFailed")) no_members))
fault_json (core.LogFull size) = error_with_number (codes "LogFull") (codes "size") size
fault_json core.DiskFault = error_json (codes "DiskFault")
fault_json (core.FeedGone opening) = error_with_number (codes "FeedGone") (codes "opening") opening
fault_json (core.FeedAhead version) = error_with_number (codes "FeedAhead") (codes "version") version
