-- The JSON of an operation has no float, and nests little.
use Rattle.std.proofs.Common.{◌≡◌, ℕ, ◌≤◌, ℤ, pos, negsuc, List, [], ◌∷◌, Bool, true, false, cond, map, Option, Some, None, Ordering, Less, Equal, Greater, nat_cmp, refl, arith}
use Rattle.std.proofs.lemmas.Bool.{or_parts}
use Rattle.std.specs.Cmp.Lexicographic.{slice_cmp}
use Rattle.std.specs.Ordering.{match_ordering}
use Rattle.serde_json.specs.Data.{Data, number, string, Members, no_members, member, put, depth, items_depth, members_depth}
use Rattle.serde_json.specs.Find.{of_integer}
use Rattle.serde_json.specs.View.{items_of}
use Rattle.serde_json.specs.Written.{has_float, items_have_float, members_have_float}
use Rattle.sea_cell.specs.declared.keys.RowId.{RowId}
use Rattle.sea_cell.specs.declared.column.ColKind.{ColKind}
use Rattle.sea_cell.specs.declared.column.ColKind.TheVariants as kind
use Rattle.sea_cell.specs.declared.column.NewColumn.{NewColumn}
use Rattle.sea_cell.specs.declared.column.NewEnd.{NewEnd}
use Rattle.sea_cell.specs.declared.words.CellWord.{CellWord}
use Rattle.sea_cell.specs.declared.words.CellWord.TheVariants.{Null, Check, Whole, Text, List as TextList, Odd}
use Rattle.sea_operation.specs.declared.operation.NamedCell.{NamedCell}
use Rattle.sea_operation.specs.declared.operation.NewFilter.{NewFilter}
use Rattle.sea_operation.specs.declared.operation.NewView.{NewView}
use Rattle.sea_operation.specs.declared.operation.OpRow.{OpRow}
use Rattle.sea_operation.specs.declared.operation.RowChange.{RowChange}
use Rattle.sea_operation.specs.declared.operation.Op.{Op}
use Rattle.sea_operation.specs.declared.operation.Op.TheVariants as op
use Rattle.sea_ops.specs.Texts.{is_whole, odd, json_of_word, with_cells, with_id, row_json, change_json, column_of_kind_json, column_json, filter_json, view_json, json_of}

-- ---- no float

-- a member that is put among others brings no float
float-put : (k : List ℕ) (d : Data) (ms : Members) → has_float d ≡ false → members_have_float ms ≡ false → members_have_float (put k d ms) ≡ false
float-put k d no_members h n = rw h refl
float-put k d (member l e ms) h n =
    let parts = or_parts (has_float e) _ n in
    place (slice_cmp nat_cmp k l) parts.0 parts.1 (float-put k d ms h parts.1)
  where
    place : (o : Ordering) → has_float e ≡ false → members_have_float ms ≡ false → members_have_float (put k d ms) ≡ false
        → members_have_float (match_ordering o (member k d (member l e ms)) (member l d ms) (member l e (put k d ms))) ≡ false
    place Less first rest more = rw (h, first) rest
    place Equal first rest more = rw h rest
    place Greater first rest more = rw first more

texts_float : (texts : List (List ℕ)) → items_have_float (items_of (map string texts)) ≡ false
texts_float [] = refl
texts_float (_ ∷ texts) = texts_float texts

whole_float : (b : Bool) (z : ℤ) → has_float (cond b (number (of_integer z)) odd) ≡ false
whole_float true (pos n) = refl
whole_float true (negsuc n) = refl
whole_float false z = refl

word_float : (word : CellWord) → has_float (json_of_word word) ≡ false
word_float Null = refl
word_float (Check _) = refl
word_float (Whole z) = whole_float (is_whole z) z
word_float (Text _) = refl
word_float (TextList texts) = texts_float texts
word_float Odd = refl

cells_float : (cells : List NamedCell) (ms : Members) → members_have_float ms ≡ false → members_have_float (with_cells cells ms) ≡ false
cells_float [] ms h = h
cells_float (cell ∷ cells) ms h = cells_float cells _ (float-put cell.name (json_of_word cell.word) ms (word_float cell.word) h)

id_float : (id : Option (List ℕ)) (ms : Members) → members_have_float ms ≡ false → members_have_float (with_id id ms) ≡ false
id_float None ms h = h
id_float (Some id) ms h = float-put _ (string id) ms refl h

rows_float : (rows : List OpRow) → items_have_float (items_of (map row_json rows)) ≡ false
rows_float [] = refl
rows_float (row ∷ rows) = rw (id_float row.id _ (cells_float row.cells no_members refl)) (rows_float rows)

changes_float : (changes : List RowChange) → items_have_float (items_of (map change_json changes)) ≡ false
changes_float [] = refl
changes_float (change ∷ changes) = rw (id_float (Some change.id.0) _ (cells_float change.cells no_members refl)) (changes_float changes)

ids_float : (ids : List RowId) → items_have_float (items_of (map (λ id. string id.0) ids)) ≡ false
ids_float [] = refl
ids_float (_ ∷ ids) = ids_float ids

other_float : (other : Option NewEnd) (name : List ℕ) (unit : List ℕ) (options : List (List ℕ)) → has_float (column_of_kind_json kind.Link (record { name = name; kind = kind.Link; unit = unit; options = options; other = other })) ≡ false
unfolding column_of_kind_json
other_float None name unit options = refl
other_float (Some end) name unit options = refl

kind_float : (kind : ColKind) (column : NewColumn) → has_float (column_of_kind_json kind column) ≡ false
unfolding column_of_kind_json
kind_float kind.Text column = refl
kind_float kind.LongText column = refl
kind_float kind.Number column = refl
kind_float kind.Check column = refl
kind_float kind.Date column = refl
kind_float kind.Select column = rw (texts_float column.options) refl
kind_float kind.Multi column = rw (texts_float column.options) refl
kind_float kind.People column = refl
kind_float kind.Link column = other_float column.other column.name column.unit column.options
kind_float kind.Made column = refl
kind_float kind.Changed column = refl

columns_float : (columns : List NewColumn) → items_have_float (items_of (map column_json columns)) ≡ false
columns_float [] = refl
columns_float (column ∷ columns) = rw (kind_float column.kind column) (columns_float columns)

filters_float : (filters : List NewFilter) → items_have_float (items_of (map filter_json filters)) ≡ false
filters_float [] = refl
filters_float (filter ∷ filters) = rw (word_float filter.term) (filters_float filters)

view_float : (view : NewView) → has_float (view_json view) ≡ false
view_float view = rw (filters_float view.filters) refl

-- the JSON of an operation has no float
pub has_float-json_of : (it : Op) → has_float (json_of it) ≡ false
has_float-json_of (op.InsertTable table columns) = rw (columns_float columns) refl
has_float-json_of (op.RenameTable table to) = refl
has_float-json_of (op.DeleteTable table) = refl
has_float-json_of (op.InsertColumn table column) = rw (kind_float column.kind column) refl
has_float-json_of (op.RenameColumn table column to) = refl
has_float-json_of (op.DeleteColumn table column) = refl
has_float-json_of (op.AddOptions table column options) = rw (texts_float options) refl
has_float-json_of (op.AppendRows table rows) = rw (rows_float rows) refl
has_float-json_of (op.ModifyRows table rows) = rw (changes_float rows) refl
has_float-json_of (op.DeleteRows table ids) = rw (ids_float ids) refl
has_float-json_of (op.AddLink table column row others) = rw (ids_float others) refl
has_float-json_of (op.RemoveLink table column row others) = rw (ids_float others) refl
has_float-json_of (op.InsertView table view) = rw (view_float view) refl
has_float-json_of (op.ModifyView table view) = rw (view_float view) refl
has_float-json_of (op.DeleteView table view) = refl

-- ---- how deep it nests

-- a member that is put among others nests no deeper than they and it do
depth-put : (k : List ℕ) (d : Data) (ms : Members) (n : ℕ) → depth d ≤ n → members_depth ms ≤ n → members_depth (put k d ms) ≤ n
depth-put k d no_members n h m = omega arith
depth-put k d (member l e ms) n h m = place (slice_cmp nat_cmp k l) (depth-put k d ms n h (omega arith))
  where
    place : (o : Ordering) → members_depth (put k d ms) ≤ n → members_depth (match_ordering o (member k d (member l e ms)) (member l d ms) (member l e (put k d ms))) ≤ n
    place Less more = omega arith
    place Equal more = omega arith
    place Greater more = omega arith

texts_depth : (texts : List (List ℕ)) → items_depth (items_of (map string texts)) ≤ 0
texts_depth [] = omega arith
texts_depth (_ ∷ texts) = omega (arith, texts_depth texts)

whole_depth : (b : Bool) (z : ℤ) → depth (cond b (number (of_integer z)) odd) ≤ 1
whole_depth true z = omega arith
whole_depth false z = omega arith

word_depth : (word : CellWord) → depth (json_of_word word) ≤ 1
word_depth Null = omega arith
word_depth (Check _) = omega arith
word_depth (Whole z) = whole_depth (is_whole z) z
word_depth (Text _) = omega arith
word_depth (TextList texts) = omega (arith, texts_depth texts)
word_depth Odd = omega arith

cells_depth : (cells : List NamedCell) (ms : Members) → members_depth ms ≤ 1 → members_depth (with_cells cells ms) ≤ 1
cells_depth [] ms h = h
cells_depth (cell ∷ cells) ms h = cells_depth cells _ (depth-put cell.name (json_of_word cell.word) ms 1 (word_depth cell.word) h)

id_depth : (id : Option (List ℕ)) (ms : Members) → members_depth ms ≤ 1 → members_depth (with_id id ms) ≤ 1
id_depth None ms h = h
id_depth (Some id) ms h = depth-put _ (string id) ms 1 (omega arith) h

rows_depth : (rows : List OpRow) → items_depth (items_of (map row_json rows)) ≤ 2
rows_depth [] = omega arith
rows_depth (row ∷ rows) = omega (arith, id_depth row.id _ (cells_depth row.cells no_members (omega arith)), rows_depth rows)

changes_depth : (changes : List RowChange) → items_depth (items_of (map change_json changes)) ≤ 2
changes_depth [] = omega arith
changes_depth (change ∷ changes) = omega (arith, id_depth (Some change.id.0) _ (cells_depth change.cells no_members (omega arith)), changes_depth changes)

ids_depth : (ids : List RowId) → items_depth (items_of (map (λ id. string id.0) ids)) ≤ 0
ids_depth [] = omega arith
ids_depth (_ ∷ ids) = omega (arith, ids_depth ids)

other_depth : (other : Option NewEnd) (name : List ℕ) (unit : List ℕ) (options : List (List ℕ)) → depth (column_of_kind_json kind.Link (record { name = name; kind = kind.Link; unit = unit; options = options; other = other })) ≤ 2
unfolding column_of_kind_json
other_depth None name unit options = omega arith
other_depth (Some end) name unit options = omega arith

kind_depth : (kind : ColKind) (column : NewColumn) → depth (column_of_kind_json kind column) ≤ 2
unfolding column_of_kind_json
kind_depth kind.Text column = omega arith
kind_depth kind.LongText column = omega arith
kind_depth kind.Number column = omega arith
kind_depth kind.Check column = omega arith
kind_depth kind.Date column = omega arith
kind_depth kind.Select column = omega (arith, texts_depth column.options)
kind_depth kind.Multi column = omega (arith, texts_depth column.options)
kind_depth kind.People column = omega arith
kind_depth kind.Link column = other_depth column.other column.name column.unit column.options
kind_depth kind.Made column = omega arith
kind_depth kind.Changed column = omega arith

columns_depth : (columns : List NewColumn) → items_depth (items_of (map column_json columns)) ≤ 2
columns_depth [] = omega arith
columns_depth (column ∷ columns) = omega (arith, kind_depth column.kind column, columns_depth columns)

filters_depth : (filters : List NewFilter) → items_depth (items_of (map filter_json filters)) ≤ 2
filters_depth [] = omega arith
filters_depth (filter ∷ filters) = omega (arith, word_depth filter.term, filters_depth filters)

view_depth : (view : NewView) → depth (view_json view) ≤ 4
view_depth view = omega (arith, filters_depth view.filters)

-- the JSON of an operation nests at most five deep
pub depth-json_of : (it : Op) → depth (json_of it) ≤ 5
depth-json_of (op.InsertTable table columns) = omega (arith, columns_depth columns)
depth-json_of (op.RenameTable table to) = omega arith
depth-json_of (op.DeleteTable table) = omega arith
depth-json_of (op.InsertColumn table column) = omega (arith, kind_depth column.kind column)
depth-json_of (op.RenameColumn table column to) = omega arith
depth-json_of (op.DeleteColumn table column) = omega arith
depth-json_of (op.AddOptions table column options) = omega (arith, texts_depth options)
depth-json_of (op.AppendRows table rows) = omega (arith, rows_depth rows)
depth-json_of (op.ModifyRows table rows) = omega (arith, changes_depth rows)
depth-json_of (op.DeleteRows table ids) = omega (arith, ids_depth ids)
depth-json_of (op.AddLink table column row others) = omega (arith, ids_depth others)
depth-json_of (op.RemoveLink table column row others) = omega (arith, ids_depth others)
depth-json_of (op.InsertView table view) = omega (arith, view_depth view)
depth-json_of (op.ModifyView table view) = omega (arith, view_depth view)
depth-json_of (op.DeleteView table view) = omega arith
