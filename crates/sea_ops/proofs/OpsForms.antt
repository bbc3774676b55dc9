-- The JSON of an operation that was read is sound, and is that operation.
use Rattle.std.proofs.Common.{◌≡◌, ℕ, List, Bool, cond, Option, Some, None, option_map, option_and_then, codes, IsUtf8, refl, ap, ◌∙◌, subst}
use Rattle.std.specs.Str.{bytes_eq}
use Rattle.json.proofs.Printed.Utf8.{IsUtf8-are_ascii}
use Rattle.serde_json.specs.Data.{Data}
use Rattle.sea_cell.specs.declared.keys.RowId.{RowId}
use Rattle.sea_operation.specs.declared.operation.NewView.{NewView}
use Rattle.sea_operation.specs.declared.operation.Op.{Op}
use Rattle.sea_operation.specs.declared.operation.Op.TheVariants as op
use Rattle.sea_ops.specs.Operations.{has_members, text_at, texts_at, ids_at, row_id, each_at, column_of_json, row_of_json, change_of_json, view_of_json, where_, make_table, leads_away, insert_table_of, rename_table_of, delete_table_of, insert_column_of, rename_column_of, delete_column_of, add_options_of, append_rows_of, modify_rows_of, delete_rows_of, add_link_of, remove_link_of, insert_view_of, modify_view_of, delete_view_of, view_op, link_op, row_op, column_op, table_op, op_of_json}
use Rattle.sea_ops.specs.Texts.{column_json, row_json, change_json, view_json, links_json, put_view_json, json_of}
use Rattle.sea_ops.proofs.DataRead.{IsSound, AreSoundItems, If, if-map, if-and_then}
use Rattle.sea_ops.proofs.OpsAgain.{if-cond, fine-where, IsFineBy, AreFineBy, AreSoundTexts, texts-again, sound-text_at, sound-texts_at, fine-each_at, fine-at, AreFineIds, id_items, fine-ids_at, fine-by_row, fine-by_change, fine-column, fine-view}

-- an operation that sound JSON is has sound JSON, which is that operation
pub record ComesAgain (it : Op) : Type 0 where
  pub sound : IsSound (json_of it)
  pub again : op_of_json (json_of it) ≡ Some it

-- ---- the members that several operations have

op_word : IsUtf8 (codes "op")
op_word = IsUtf8-are_ascii (codes "op") refl

table_word : IsUtf8 (codes "table")
table_word = IsUtf8-are_ascii (codes "table") refl

column_word : IsUtf8 (codes "column")
column_word = IsUtf8-are_ascii (codes "column") refl

-- ---- tables

comes-insert_table : (d : Data) (table : List ℕ) → IsSound d → IsUtf8 table → If ComesAgain (insert_table_of d table)
unfolding insert_table_of table_op
comes-insert_table d table s u =
    if-cond ComesAgain _ _ None (λ _. if-map (λ columns. AreFineBy column_of_json column_json columns × (where_ make_table columns ≡ Some columns)) ComesAgain (op.InsertTable table) (λ columns f. record {
      sound = (IsUtf8-are_ascii (codes "columns") refl, f.0.sound, (refl, (refl, tt)), (op_word, IsUtf8-are_ascii (codes "insert_table") refl, (refl, tt), (table_word, u, tt, tt)));
      again = ap (λ found. option_map (op.InsertTable table) (option_and_then (where_ make_table) found)) f.0.again ∙ ap (option_map (op.InsertTable table)) f.1;
    }) _ (if-and_then (AreFineBy column_of_json column_json) _ (where_ make_table) (λ columns f. fine-where (AreFineBy column_of_json column_json) make_table columns f) _ (fine-each_at column_of_json column_json fine-column (codes "columns") d s))) tt

comes-rename_table : (d : Data) (table : List ℕ) → IsSound d → IsUtf8 table → If ComesAgain (rename_table_of d table)
unfolding rename_table_of table_op
comes-rename_table d table s u =
    if-cond ComesAgain _ _ None (λ _. if-map IsUtf8 ComesAgain (op.RenameTable table) (λ to v. record {
      sound = (op_word, IsUtf8-are_ascii (codes "rename_table") refl, (refl, (refl, tt)), (table_word, u, (refl, tt), (IsUtf8-are_ascii (codes "to") refl, v, tt, tt)));
      again = refl;
    }) (text_at (codes "to") d) (sound-text_at (codes "to") d s)) tt

comes-delete_table : (d : Data) (table : List ℕ) → IsUtf8 table → If ComesAgain (delete_table_of d table)
unfolding delete_table_of table_op
comes-delete_table d table u =
    if-cond ComesAgain (has_members 2 d) (Some (op.DeleteTable table)) None (λ _. record { sound = (op_word, IsUtf8-are_ascii (codes "delete_table") refl, (refl, tt), (table_word, u, tt, tt)); again = refl }) tt

-- ---- columns

comes-insert_column : (d : Data) (table : List ℕ) → IsSound d → IsUtf8 table → If ComesAgain (insert_column_of d table)
unfolding insert_column_of table_op column_op
comes-insert_column d table s u =
    if-cond ComesAgain _ _ None (λ _. if-map (λ column. IsFineBy column_of_json column_json column × (where_ (leads_away table) column ≡ Some column)) ComesAgain (op.InsertColumn table) (λ column f. record {
      sound = (column_word, f.0.sound, (refl, (refl, tt)), (op_word, IsUtf8-are_ascii (codes "insert_column") refl, (refl, tt), (table_word, u, tt, tt)));
      again = ap (λ found. option_map (op.InsertColumn table) (option_and_then (where_ (leads_away table)) found)) f.0.again ∙ ap (option_map (op.InsertColumn table)) f.1;
    }) _ (if-and_then (IsFineBy column_of_json column_json) _ (where_ (leads_away table)) (λ column f. fine-where (IsFineBy column_of_json column_json) (leads_away table) column f) _ (fine-at column_of_json column_json fine-column (codes "column") d s))) tt

comes-rename_column : (d : Data) (table : List ℕ) → IsSound d → IsUtf8 table → If ComesAgain (rename_column_of d table)
unfolding rename_column_of table_op column_op
comes-rename_column d table s u =
    if-cond ComesAgain _ _ None (λ _. if-and_then IsUtf8 ComesAgain _ (λ column v. if-map IsUtf8 ComesAgain (op.RenameColumn table column) (λ to w. record {
      sound = (column_word, v, (refl, (refl, (refl, tt))), (op_word, IsUtf8-are_ascii (codes "rename_column") refl, (refl, (refl, tt)), (table_word, u, (refl, tt), (IsUtf8-are_ascii (codes "to") refl, w, tt, tt))));
      again = refl;
    }) (text_at (codes "to") d) (sound-text_at (codes "to") d s)) (text_at (codes "column") d) (sound-text_at (codes "column") d s)) tt

comes-delete_column : (d : Data) (table : List ℕ) → IsSound d → IsUtf8 table → If ComesAgain (delete_column_of d table)
unfolding delete_column_of table_op column_op
comes-delete_column d table s u =
    if-cond ComesAgain _ _ None (λ _. if-map IsUtf8 ComesAgain (op.DeleteColumn table) (λ column v. record {
      sound = (column_word, v, (refl, (refl, tt)), (op_word, IsUtf8-are_ascii (codes "delete_column") refl, (refl, tt), (table_word, u, tt, tt)));
      again = refl;
    }) (text_at (codes "column") d) (sound-text_at (codes "column") d s)) tt

comes-add_options : (d : Data) (table : List ℕ) → IsSound d → IsUtf8 table → If ComesAgain (add_options_of d table)
unfolding add_options_of table_op column_op
comes-add_options d table s u =
    if-cond ComesAgain _ _ None (λ _. if-and_then IsUtf8 ComesAgain _ (λ column v. if-map AreSoundTexts ComesAgain (op.AddOptions table column) (λ options w. record {
      sound = (column_word, v, (refl, (refl, (refl, tt))), (op_word, IsUtf8-are_ascii (codes "add_options") refl, (refl, (refl, tt)), (IsUtf8-are_ascii (codes "options") refl, w, (refl, tt), (table_word, u, tt, tt))));
      again = ap (option_map (op.AddOptions table column)) (texts-again options);
    }) (texts_at (codes "options") d) (sound-texts_at (codes "options") d s)) (text_at (codes "column") d) (sound-text_at (codes "column") d s)) tt

-- ---- rows

comes-append_rows : (d : Data) (table : List ℕ) → IsSound d → IsUtf8 table → If ComesAgain (append_rows_of d table)
unfolding append_rows_of table_op column_op row_op
comes-append_rows d table s u =
    if-cond ComesAgain _ _ None (λ _. if-map (AreFineBy row_of_json row_json) ComesAgain (op.AppendRows table) (λ rows f. record {
      sound = (op_word, IsUtf8-are_ascii (codes "append_rows") refl, (refl, (refl, tt)), (IsUtf8-are_ascii (codes "rows") refl, f.sound, (refl, tt), (table_word, u, tt, tt)));
      again = ap (option_map (op.AppendRows table)) f.again;
    }) (each_at row_of_json (codes "rows") d) (fine-each_at row_of_json row_json fine-by_row (codes "rows") d s)) tt

comes-modify_rows : (d : Data) (table : List ℕ) → IsSound d → IsUtf8 table → If ComesAgain (modify_rows_of d table)
unfolding modify_rows_of table_op column_op row_op
comes-modify_rows d table s u =
    if-cond ComesAgain _ _ None (λ _. if-map (AreFineBy change_of_json change_json) ComesAgain (op.ModifyRows table) (λ changes f. record {
      sound = (op_word, IsUtf8-are_ascii (codes "modify_rows") refl, (refl, (refl, tt)), (IsUtf8-are_ascii (codes "rows") refl, f.sound, (refl, tt), (table_word, u, tt, tt)));
      again = ap (option_map (op.ModifyRows table)) f.again;
    }) (each_at change_of_json (codes "rows") d) (fine-each_at change_of_json change_json fine-by_change (codes "rows") d s)) tt

comes-delete_rows : (d : Data) (table : List ℕ) → IsSound d → IsUtf8 table → If ComesAgain (delete_rows_of d table)
unfolding delete_rows_of table_op column_op row_op
comes-delete_rows d table s u =
    if-cond ComesAgain _ _ None (λ _. if-map AreFineIds ComesAgain (op.DeleteRows table) (λ ids f. record {
      sound = (IsUtf8-are_ascii (codes "ids") refl, f.sound, (refl, (refl, tt)), (op_word, IsUtf8-are_ascii (codes "delete_rows") refl, (refl, tt), (table_word, u, tt, tt)));
      again = ap (option_map (op.DeleteRows table)) f.again;
    }) (ids_at (codes "ids") d) (fine-ids_at (codes "ids") d s)) tt

-- ---- links

links_sound : (word table column row : List ℕ) (others : List RowId) → IsUtf8 word → IsUtf8 table → IsUtf8 column → IsUtf8 row → AreSoundItems (id_items others) → IsSound (links_json word table column (row_id row) others)
links_sound word table column row others w u v r f = (
  column_word,
  v,
  (refl, (refl, (refl, (refl, tt)))),
  (op_word, w, (refl, (refl, (refl, tt))), (IsUtf8-are_ascii (codes "others") refl, f, (refl, (refl, tt)), (IsUtf8-are_ascii (codes "row") refl, r, (refl, tt), (table_word, u, tt, tt)))),
)

comes-add_link : (d : Data) (table : List ℕ) → IsSound d → IsUtf8 table → If ComesAgain (add_link_of d table)
unfolding add_link_of table_op column_op row_op link_op
comes-add_link d table s u =
    if-cond ComesAgain _ _ None (λ _. if-and_then IsUtf8 ComesAgain _ (λ column v. if-and_then IsUtf8 ComesAgain _ (λ row r. if-map AreFineIds ComesAgain (op.AddLink table column (row_id row)) (λ others f. record {
      sound = links_sound (codes "add_link") table column row others (IsUtf8-are_ascii (codes "add_link") refl) u v r f.sound;
      again = ap (option_map (op.AddLink table column (row_id row))) f.again;
    }) (ids_at (codes "others") d) (fine-ids_at (codes "others") d s)) (text_at (codes "row") d) (sound-text_at (codes "row") d s)) (text_at (codes "column") d) (sound-text_at (codes "column") d s)) tt

comes-remove_link : (d : Data) (table : List ℕ) → IsSound d → IsUtf8 table → If ComesAgain (remove_link_of d table)
unfolding remove_link_of table_op column_op row_op link_op
comes-remove_link d table s u =
    if-cond ComesAgain _ _ None (λ _. if-and_then IsUtf8 ComesAgain _ (λ column v. if-and_then IsUtf8 ComesAgain _ (λ row r. if-map AreFineIds ComesAgain (op.RemoveLink table column (row_id row)) (λ others f. record {
      sound = links_sound (codes "remove_link") table column row others (IsUtf8-are_ascii (codes "remove_link") refl) u v r f.sound;
      again = ap (option_map (op.RemoveLink table column (row_id row))) f.again;
    }) (ids_at (codes "others") d) (fine-ids_at (codes "others") d s)) (text_at (codes "row") d) (sound-text_at (codes "row") d s)) (text_at (codes "column") d) (sound-text_at (codes "column") d s)) tt

-- ---- views

put_view_sound : (word table : List ℕ) (view : NewView) → IsUtf8 word → IsUtf8 table → IsSound (view_json view) → IsSound (put_view_json word table view)
put_view_sound word table view w u f = (op_word, w, (refl, (refl, tt)), (table_word, u, (refl, tt), (IsUtf8-are_ascii (codes "view") refl, f, tt, tt)))

comes-insert_view : (d : Data) (table : List ℕ) → IsSound d → IsUtf8 table → If ComesAgain (insert_view_of d table)
unfolding insert_view_of table_op column_op row_op link_op view_op
comes-insert_view d table s u =
    if-cond ComesAgain _ _ None (λ _. if-map (IsFineBy view_of_json view_json) ComesAgain (op.InsertView table) (λ view f. record {
      sound = put_view_sound (codes "insert_view") table view (IsUtf8-are_ascii (codes "insert_view") refl) u f.sound;
      again = ap (option_map (op.InsertView table)) f.again;
    }) _ (fine-at view_of_json view_json fine-view (codes "view") d s)) tt

comes-modify_view : (d : Data) (table : List ℕ) → IsSound d → IsUtf8 table → If ComesAgain (modify_view_of d table)
unfolding modify_view_of table_op column_op row_op link_op view_op
comes-modify_view d table s u =
    if-cond ComesAgain _ _ None (λ _. if-map (IsFineBy view_of_json view_json) ComesAgain (op.ModifyView table) (λ view f. record {
      sound = put_view_sound (codes "modify_view") table view (IsUtf8-are_ascii (codes "modify_view") refl) u f.sound;
      again = ap (option_map (op.ModifyView table)) f.again;
    }) _ (fine-at view_of_json view_json fine-view (codes "view") d s)) tt

comes-delete_view : (d : Data) (table : List ℕ) → IsSound d → IsUtf8 table → If ComesAgain (delete_view_of d table)
unfolding delete_view_of table_op column_op row_op link_op view_op
comes-delete_view d table s u =
    if-cond ComesAgain _ _ None (λ _. if-map IsUtf8 ComesAgain (op.DeleteView table) (λ view v. record {
      sound = (op_word, IsUtf8-are_ascii (codes "delete_view") refl, (refl, (refl, tt)), (table_word, u, (refl, tt), (IsUtf8-are_ascii (codes "view") refl, v, tt, tt)));
      again = refl;
    }) (text_at (codes "view") d) (sound-text_at (codes "view") d s)) tt

-- ---- an operation by its name

-- the first of two, by a test
either : (b : Bool) (x y : Option Op) → If ComesAgain x → If ComesAgain y → If ComesAgain (cond b x y)
either b x y h k = if-cond ComesAgain b x y (λ _. h) k

comes-view_op : (name : List ℕ) (d : Data) (table : List ℕ) → IsSound d → IsUtf8 table → If ComesAgain (view_op name d table)
unfolding view_op
comes-view_op name d table s u =
    either (bytes_eq name (codes "insert_view")) _ _ (comes-insert_view d table s u)
    (either (bytes_eq name (codes "modify_view")) _ _ (comes-modify_view d table s u)
    (either (bytes_eq name (codes "delete_view")) _ None (comes-delete_view d table s u) tt))

comes-link_op : (name : List ℕ) (d : Data) (table : List ℕ) → IsSound d → IsUtf8 table → If ComesAgain (link_op name d table)
unfolding link_op
comes-link_op name d table s u =
    either (bytes_eq name (codes "add_link")) _ _ (comes-add_link d table s u)
    (either (bytes_eq name (codes "remove_link")) _ _ (comes-remove_link d table s u) (comes-view_op name d table s u))

comes-row_op : (name : List ℕ) (d : Data) (table : List ℕ) → IsSound d → IsUtf8 table → If ComesAgain (row_op name d table)
unfolding row_op
comes-row_op name d table s u =
    either (bytes_eq name (codes "append_rows")) _ _ (comes-append_rows d table s u)
    (either (bytes_eq name (codes "modify_rows")) _ _ (comes-modify_rows d table s u)
    (either (bytes_eq name (codes "delete_rows")) _ _ (comes-delete_rows d table s u) (comes-link_op name d table s u)))

comes-column_op : (name : List ℕ) (d : Data) (table : List ℕ) → IsSound d → IsUtf8 table → If ComesAgain (column_op name d table)
unfolding column_op
comes-column_op name d table s u =
    either (bytes_eq name (codes "insert_column")) _ _ (comes-insert_column d table s u)
    (either (bytes_eq name (codes "rename_column")) _ _ (comes-rename_column d table s u)
    (either (bytes_eq name (codes "delete_column")) _ _ (comes-delete_column d table s u)
    (either (bytes_eq name (codes "add_options")) _ _ (comes-add_options d table s u) (comes-row_op name d table s u))))

comes-table_op : (name : List ℕ) (d : Data) (table : List ℕ) → IsSound d → IsUtf8 table → If ComesAgain (table_op name d table)
unfolding table_op
comes-table_op name d table s u =
    either (bytes_eq name (codes "insert_table")) _ _ (comes-insert_table d table s u)
    (either (bytes_eq name (codes "rename_table")) _ _ (comes-rename_table d table s u)
    (either (bytes_eq name (codes "delete_table")) _ _ (comes-delete_table d table u) (comes-column_op name d table s u)))

comes-op : (d : Data) → IsSound d → If ComesAgain (op_of_json d)
comes-op d s =
    if-and_then IsUtf8 ComesAgain _ (λ name _. if-and_then IsUtf8 ComesAgain (table_op name d) (λ table u. comes-table_op name d table s u) (text_at (codes "table") d) (sound-text_at (codes "table") d s)) (text_at (codes "op") d) (sound-text_at (codes "op") d s)

pub comes_again : (d : Data) (it : Op) → IsSound d → op_of_json d ≡ Some it → ComesAgain it
comes_again d it s e = subst (If ComesAgain) e (comes-op d s)
