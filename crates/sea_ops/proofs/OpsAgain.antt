-- The JSON of a word, a row, a column or a view that was read is sound, and is the same again.
use Rattle.std.proofs.Common.{◌≡◌, ℕ, pos, negsuc, List, [], ◌∷◌, map, Bool, true, false, cond, Option, Some, None, option_map, option_and_then, codes, IsUtf8, Ordering, Less, Equal, Greater, nat_cmp, is_eq, refl, sym, ap, ap₂, ◌∙◌, subst, lt-ltb}
use Rattle.std.proofs.lemmas.Map.Text.{is_eq-slice_cmp}
use Rattle.std.specs.Cmp.Lexicographic.{slice_cmp}
use Rattle.std.specs.Ordering.{match_ordering}
use Rattle.std.specs.Str.{bytes_eq}
use Rattle.json.proofs.Printed.Utf8.{IsUtf8-are_ascii}
use Rattle.serde_json.specs.Data.{Num, unsigned, negative, float, Data, null, boolean, number, string, array, object, Items, no_items, item, Members, no_members, member, put}
use Rattle.serde_json.specs.Find.{get, get_member, as_str, as_array, as_integer}
use Rattle.serde_json.specs.View.{items_of}
use Rattle.serde_json.proofs.Views.{get_member-put}
use Rattle.sea_cell.specs.Kinds.{kind_of}
use Rattle.sea_cell.specs.Words.{texts_of, or_odd, word_of}
use Rattle.sea_cell.specs.declared.keys.RowId.{RowId}
use Rattle.sea_cell.specs.declared.column.ColKind.{ColKind}
use Rattle.sea_cell.specs.declared.column.ColKind.TheVariants as kind
use Rattle.sea_cell.specs.declared.column.NewColumn.{NewColumn}
use Rattle.sea_cell.specs.declared.words.CellWord.{CellWord}
use Rattle.sea_cell.specs.declared.words.CellWord.TheVariants.{Whole, List as TextList, Odd}
use Rattle.sea_operation.specs.declared.operation.NamedCell.{NamedCell}
use Rattle.sea_operation.specs.declared.operation.NewFilter.{NewFilter}
use Rattle.sea_operation.specs.declared.operation.OpRow.{OpRow}
use Rattle.sea_ops.specs.Operations.{has_members, text_at, items_at, texts_at, ids_at, row_id, each_of, each_at, unit_of, options_of, plain_column, number_column, select_column, link_column, plain_of, number_of, select_of, link_of, column_of_kind, column_of_json, cells_of_members, row_with_id, row_of_json, change_of_row, change_of_json, conjunction_of, new_filter, filter_of_json, new_view, view_of_json, where_}
use Rattle.sea_ops.specs.Texts.{is_whole, odd, json_of_word, with_cells, row_json, change_json, column_of_kind_json, column_json, filter_json, view_json}
use Rattle.sea_ops.proofs.DataRead.{IsSoundNumber, IsBelow, IsSound, AreSoundItems, AreSoundMembers, sound-put, If, if-map, if-and_then}
use Rattle.sea_ops.proofs.TextsAgain.{joined, joined-none, joined-joined, Precede, precede-joined, put-last}

-- either of two
pub if-cond : {A : Type 0} (P : A → Type 0) (b : Bool) (x y : Option A) → (b ≡ true → If P x) → If P y → If P (cond b x y)
if-cond P true x y h k = h refl
if-cond P false x y h k = k

-- what passes a test is what passes it again
pub fine-where : {A : Type 0} (P : A → Type 0) (test : A → Bool) (x : A) → P x → If (λ y. P y × (where_ test y ≡ Some y)) (where_ test x)
fine-where P test x p = if-cond (λ y. P y × (where_ test y ≡ Some y)) (test x) (Some x) None (λ e. (p, ap (λ (b : Bool). cond b (Some x) None) e)) tt

-- ---- what is read and written, alone and in lists

-- what is written is sound, and is read again
pub record IsFineBy {X : Type 0} (f : Data → Option X) (g : X → Data) (x : X) : Type 0 where
  pub sound : IsSound (g x)
  pub again : f (g x) ≡ Some x

-- the same of a list
pub record AreFineBy {X : Type 0} (f : Data → Option X) (g : X → Data) (xs : List X) : Type 0 where
  pub sound : AreSoundItems (items_of (map g xs))
  pub again : each_of f (items_of (map g xs)) ≡ Some xs

fine-cons : {X : Type 0} (f : Data → Option X) (g : X → Data) (x : X) (xs : List X) → IsFineBy f g x → AreFineBy f g xs → AreFineBy f g (x ∷ xs)
fine-cons f g x xs one more = record { sound = (one.sound, more.sound); again = rw (one.again, more.again) refl }

pub fine-each : {X : Type 0} (f : Data → Option X) (g : X → Data) → ((d : Data) → IsSound d → If (IsFineBy f g) (f d)) → (ds : Items) → AreSoundItems ds → If (AreFineBy f g) (each_of f ds)
fine-each f g fine no_items s = record { sound = tt; again = refl }
fine-each f g fine (item d ds) s =
    if-and_then (IsFineBy f g) (AreFineBy f g) _ (λ x k. if-map (AreFineBy f g) (AreFineBy f g) (λ xs. x ∷ xs) (λ xs l. fine-cons f g x xs k l) (each_of f ds) (fine-each f g fine ds s.1)) (f d) (fine d s.0)

-- ---- words

-- the JSON of a word is sound, and is that word
record IsFineWord (word : CellWord) : Type 0 where
  sound : IsSound (json_of_word word)
  again : word_of (json_of_word word) ≡ word

-- the texts of an array that are all its items
pub texts-again : (texts : List (List ℕ)) → texts_of (items_of (map string texts)) ≡ Some texts
texts-again [] = refl
texts-again (text ∷ texts) = rw (texts-again texts) refl

abbrev pub AreSoundTexts : List (List ℕ) → Type 0
AreSoundTexts texts = AreSoundItems (items_of (map string texts))

pub sound-as_str : (d : Data) → IsSound d → If IsUtf8 (as_str d)
sound-as_str null s = tt
sound-as_str (boolean b) s = tt
sound-as_str (number n) s = tt
sound-as_str (string t) s = s
sound-as_str (array ds) s = tt
sound-as_str (object ms) s = tt

pub sound-texts : (ds : Items) → AreSoundItems ds → If AreSoundTexts (texts_of ds)
sound-texts no_items s = tt
sound-texts (item d ds) s =
    if-and_then IsUtf8 AreSoundTexts _ (λ text u. if-map AreSoundTexts AreSoundTexts (λ texts. text ∷ texts) (λ texts k. (u, k)) (texts_of ds) (sound-texts ds s.1)) (as_str d) (sound-as_str d s.0)

fine-odd : IsFineWord Odd
fine-odd = record { sound = tt; again = refl }

fine-or_odd : (word : Option CellWord) → If IsFineWord word → IsFineWord (or_odd word)
fine-or_odd None h = fine-odd
fine-or_odd (Some word) h = h

fine-number : (n : Num) → IsSoundNumber n → If IsFineWord (option_map Whole (as_integer n))
fine-number (unsigned n) s =
    let fits : is_whole (pos n) ≡ true = lt-ltb _ _ s in
    record { sound = subst (λ (b : Bool). IsSound (cond b (number (unsigned n)) odd)) (sym fits) s; again = ap (λ (b : Bool). word_of (cond b (number (unsigned n)) odd)) fits }
fine-number (negative (pos n)) s = absurd s
fine-number (negative (negsuc n)) s =
    let fits : is_whole (negsuc n) ≡ true = lt-ltb _ _ s in
    let whole = negative (negsuc n) in
    record { sound = subst (λ (b : Bool). IsSound (cond b (number whole) odd)) (sym fits) s; again = ap (λ (b : Bool). word_of (cond b (number whole) odd)) fits }
fine-number (float x) s = tt

fine-word : (d : Data) → IsSound d → IsFineWord (word_of d)
fine-word null s = record { sound = tt; again = refl }
fine-word (boolean b) s = record { sound = tt; again = refl }
fine-word (number n) s = fine-or_odd _ (fine-number n s)
fine-word (string t) s = record { sound = s; again = refl }
fine-word (array ds) s =
    fine-or_odd _ (if-map AreSoundTexts IsFineWord TextList (λ texts k. record { sound = k; again = ap (λ found. or_odd (option_map TextList found)) (texts-again texts) }) (texts_of ds) (sound-texts ds s))
fine-word (object ms) s = fine-odd

-- ---- cells

-- the members that cells are, in their order
abbrev plain : List NamedCell → Members
plain [] = no_members
plain (cell ∷ cells) = member cell.name (json_of_word cell.word) (plain cells)

-- the names rise and none is that of the id, and each word is fine
abbrev AreFineCells : List NamedCell → Type 0
AreFineCells [] = Unit {0}
AreFineCells (cell ∷ cells) = IsUtf8 cell.name × (bytes_eq (codes "_id") cell.name ≡ false) × IsFineWord cell.word × IsBelow cell.name (plain cells) × AreFineCells cells

below-cells : (name : List ℕ) (ms : Members) → IsBelow name ms → IsBelow name (plain (cells_of_members ms))
below-cells name no_members b = tt
below-cells name (member k d ms) b = place (bytes_eq (codes "_id") k) (below-cells name ms b.1)
  where
    place : (t : Bool) → IsBelow name (plain (cells_of_members ms)) → IsBelow name (plain (cond t (cells_of_members ms) (record { name = k; word = word_of d } ∷ cells_of_members ms)))
    place true more = more
    place false more = (b.0, more)

fine-cells : (ms : Members) → AreSoundMembers ms → AreFineCells (cells_of_members ms)
fine-cells no_members s = tt
fine-cells (member k d ms) s = place (bytes_eq (codes "_id") k) refl (fine-cells ms s.3)
  where
    place : (t : Bool) → bytes_eq (codes "_id") k ≡ t → AreFineCells (cells_of_members ms) → AreFineCells (cond t (cells_of_members ms) (record { name = k; word = word_of d } ∷ cells_of_members ms))
    place true is more = more
    place false is more = (s.0, is, fine-word d s.1, below-cells k ms s.2, more)

-- cells in order are put one behind another
with_cells-plain : (cells : List NamedCell) (found : Members) → AreFineCells cells → Precede found (plain cells) → with_cells cells found ≡ joined found (plain cells)
with_cells-plain [] found f h = sym (joined-none found)
with_cells-plain (cell ∷ cells) found f h =
    let value = json_of_word cell.word in
    ap (with_cells cells) (put-last found cell.name value (plain cells) h)
    ∙ with_cells-plain cells (joined found (member cell.name value no_members)) f.4 (precede-joined found cell.name value (plain cells) h f.3)
    ∙ joined-joined found cell.name value (plain cells)

sound-plain : (cells : List NamedCell) → AreFineCells cells → AreSoundMembers (plain cells)
sound-plain [] f = tt
sound-plain (cell ∷ cells) f = (f.0, f.2.sound, f.3, sound-plain cells f.4)

-- the cells of those members
cells-again : (cells : List NamedCell) → AreFineCells cells → cells_of_members (plain cells) ≡ cells
cells-again [] f = refl
cells-again (cell ∷ cells) f = rw (f.1, f.2.again, cells-again cells f.4) refl

-- another name, in an object
other_member : (k l : List ℕ) (e : Data) (ms : Members) → bytes_eq k l ≡ false → get_member k (member l e ms) ≡ get_member k ms
other_member k l e ms other = place (slice_cmp nat_cmp k l) (is_eq-slice_cmp k l ∙ other)
  where
    place : (o : Ordering) → is_eq o ≡ false → match_ordering o (get_member k ms) (Some e) (get_member k ms) ≡ get_member k ms
    place Less h = refl
    place Equal h = cc
    place Greater h = refl

-- cells alone have no id
no_id : (cells : List NamedCell) → AreFineCells cells → get_member (codes "_id") (plain cells) ≡ None
no_id [] f = refl
no_id (cell ∷ cells) f = other_member (codes "_id") cell.name (json_of_word cell.word) (plain cells) f.1 ∙ no_id cells f.4

-- an id among members changes no cell
cells-put_id : (d : Data) (ms : Members) → cells_of_members (put (codes "_id") d ms) ≡ cells_of_members ms
cells-put_id d no_members = refl
cells-put_id d (member l e ms) = place (slice_cmp nat_cmp (codes "_id") l) (is_eq-slice_cmp (codes "_id") l) (cells-put_id d ms)
  where
    place : (o : Ordering) → is_eq o ≡ bytes_eq (codes "_id") l → cells_of_members (put (codes "_id") d ms) ≡ cells_of_members ms
        → cells_of_members (match_ordering o (member (codes "_id") d (member l e ms)) (member l d ms) (member l e (put (codes "_id") d ms))) ≡ cells_of_members (member l e ms)
    place Less is more = refl
    place Equal is more = let same : bytes_eq (codes "_id") l ≡ true = sym is in rw same refl
    place Greater is more = ap (λ (cells : List NamedCell). cond (bytes_eq (codes "_id") l) cells (record { name = l; word = word_of e } ∷ cells)) more

-- ---- rows

-- one fact of what there is from another
if-all : {A : Type 0} (P Q : A → Type 0) → ((a : A) → P a → Q a) → (o : Option A) → If P o → If Q o
if-all P Q f None h = tt
if-all P Q f (Some a) h = f a h

record IsFineRow (row : OpRow) : Type 0 where
  id : If IsUtf8 row.id
  cells : AreFineCells row.cells

sound-get_member : (k : List ℕ) (ms : Members) → AreSoundMembers ms → If IsSound (get_member k ms)
sound-get_member k no_members s = tt
sound-get_member k (member l e ms) s = place (slice_cmp nat_cmp k l) (sound-get_member k ms s.3)
  where
    place : (o : Ordering) → If IsSound (get_member k ms) → If IsSound (match_ordering o (get_member k ms) (Some e) (get_member k ms))
    place Less more = more
    place Equal more = s.1
    place Greater more = more

fine-row_with_id : (cells : List NamedCell) → AreFineCells cells → (id : Option Data) → If IsSound id → If IsFineRow (row_with_id cells id)
fine-row_with_id cells f None s = record { id = tt; cells = f }
fine-row_with_id cells f (Some d) s = if-map IsUtf8 IsFineRow _ (λ text u. record { id = u; cells = f }) (as_str d) (sound-as_str d s)

fine-row : (d : Data) → IsSound d → If IsFineRow (row_of_json d)
fine-row null s = tt
fine-row (boolean b) s = tt
fine-row (number n) s = tt
fine-row (string t) s = tt
fine-row (array ds) s = tt
fine-row (object ms) s = fine-row_with_id (cells_of_members ms) (fine-cells ms s) (get_member (codes "_id") ms) (sound-get_member (codes "_id") ms s)

-- the row that a row's JSON is
row-again : (id : Option (List ℕ)) (cells : List NamedCell) → AreFineCells cells → row_of_json (row_json (record { id = id; cells = cells })) ≡ Some (record { id = id; cells = cells })
row-again None cells f =
    ap (λ ms. row_with_id (cells_of_members ms) (get_member (codes "_id") ms)) (with_cells-plain cells no_members f tt)
    ∙ ap₂ row_with_id (cells-again cells f) (no_id cells f)
row-again (Some text) cells f =
    ap (λ ms. row_with_id (cells_of_members (put (codes "_id") (string text) ms)) (get_member (codes "_id") (put (codes "_id") (string text) ms))) (with_cells-plain cells no_members f tt)
    ∙ ap₂ row_with_id (cells-put_id (string text) (plain cells) ∙ cells-again cells f) (get_member-put (codes "_id") (string text) (plain cells))

sound-row : (id : Option (List ℕ)) (cells : List NamedCell) → If IsUtf8 id → AreFineCells cells → IsSound (row_json (record { id = id; cells = cells }))
sound-row None cells u f = subst AreSoundMembers (sym (with_cells-plain cells no_members f tt)) (sound-plain cells f)
sound-row (Some text) cells u f =
    sound-put (codes "_id") (string text) _ (IsUtf8-are_ascii (codes "_id") refl) u (subst AreSoundMembers (sym (with_cells-plain cells no_members f tt)) (sound-plain cells f))

-- a row that was read
pub fine-by_row : (d : Data) → IsSound d → If (IsFineBy row_of_json row_json) (row_of_json d)
fine-by_row d s =
    if-all IsFineRow (IsFineBy row_of_json row_json) (λ row f. record { sound = sound-row row.id row.cells f.id f.cells; again = row-again row.id row.cells f.cells }) (row_of_json d) (fine-row d s)

fine-change_of_row : (id : Option (List ℕ)) (cells : List NamedCell) → If IsUtf8 id → AreFineCells cells → If (IsFineBy change_of_json change_json) (change_of_row (record { id = id; cells = cells }))
fine-change_of_row None cells u f = tt
fine-change_of_row (Some id) cells u f = record { sound = sound-row (Some id) cells u f; again = ap (option_and_then change_of_row) (row-again (Some id) cells f) }

-- a change of a row that was read
pub fine-by_change : (d : Data) → IsSound d → If (IsFineBy change_of_json change_json) (change_of_json d)
fine-by_change d s = if-and_then IsFineRow (IsFineBy change_of_json change_json) change_of_row (λ row f. fine-change_of_row row.id row.cells f.id f.cells) (row_of_json d) (fine-row d s)

-- ---- members

sound-get : (k : List ℕ) (d : Data) → IsSound d → If IsSound (get k d)
sound-get k null s = tt
sound-get k (boolean b) s = tt
sound-get k (number n) s = tt
sound-get k (string t) s = tt
sound-get k (array ds) s = tt
sound-get k (object ms) s = sound-get_member k ms s

pub sound-text_at : (k : List ℕ) (d : Data) → IsSound d → If IsUtf8 (text_at k d)
sound-text_at k d s = if-and_then IsSound IsUtf8 as_str sound-as_str (get k d) (sound-get k d s)

sound-as_array : (d : Data) → IsSound d → If AreSoundItems (as_array d)
sound-as_array null s = tt
sound-as_array (boolean b) s = tt
sound-as_array (number n) s = tt
sound-as_array (string t) s = tt
sound-as_array (array ds) s = s
sound-as_array (object ms) s = tt

sound-items_at : (k : List ℕ) (d : Data) → IsSound d → If AreSoundItems (items_at k d)
sound-items_at k d s = if-and_then IsSound AreSoundItems as_array sound-as_array (get k d) (sound-get k d s)

pub sound-texts_at : (k : List ℕ) (d : Data) → IsSound d → If AreSoundTexts (texts_at k d)
sound-texts_at k d s = if-and_then AreSoundItems AreSoundTexts texts_of sound-texts (items_at k d) (sound-items_at k d s)

-- a list under a name
pub fine-each_at : {X : Type 0} (f : Data → Option X) (g : X → Data) → ((d : Data) → IsSound d → If (IsFineBy f g) (f d)) → (k : List ℕ) (d : Data) → IsSound d → If (AreFineBy f g) (each_at f k d)
fine-each_at f g fine k d s = if-and_then AreSoundItems (AreFineBy f g) (each_of f) (fine-each f g fine) (items_at k d) (sound-items_at k d s)

-- what is read of the value under a name
pub fine-at : {X : Type 0} (f : Data → Option X) (g : X → Data) → ((d : Data) → IsSound d → If (IsFineBy f g) (f d)) → (k : List ℕ) (d : Data) → IsSound d → If (IsFineBy f g) (option_and_then f (get k d))
fine-at f g fine k d s = if-and_then IsSound (IsFineBy f g) f fine (get k d) (sound-get k d s)

-- ---- ids

-- the array of ids
abbrev pub id_items : List RowId → Items
id_items ids = items_of (map (λ id. string id.0) ids)

pub record AreFineIds (ids : List RowId) : Type 0 where
  pub sound : AreSoundItems (id_items ids)
  pub again : option_map (map row_id) (texts_of (id_items ids)) ≡ Some ids

ids-texts : (texts : List (List ℕ)) → id_items (map row_id texts) ≡ items_of (map string texts)
ids-texts [] = refl
ids-texts (text ∷ texts) = ap (λ (items : Items). item (string text) items) (ids-texts texts)

fine-ids : (texts : List (List ℕ)) → AreSoundTexts texts → AreFineIds (map row_id texts)
fine-ids texts s = record {
  sound = subst AreSoundItems (sym (ids-texts texts)) s;
  again = ap (λ (items : Items). option_map (map row_id) (texts_of items)) (ids-texts texts) ∙ ap (option_map (map row_id)) (texts-again texts);
}

pub fine-ids_at : (k : List ℕ) (d : Data) → IsSound d → If AreFineIds (ids_at k d)
fine-ids_at k d s = if-map AreSoundTexts AreFineIds (map row_id) fine-ids (texts_at k d) (sound-texts_at k d s)

-- ---- columns

abbrev IsFineColumn : NewColumn → Type 0
IsFineColumn column = IsFineBy column_of_json column_json column

-- words are ASCII
name_word : IsUtf8 (codes "name")
name_word = IsUtf8-are_ascii (codes "name") refl

type_name : IsUtf8 (codes "type")
type_name = IsUtf8-are_ascii (codes "type") refl

-- a column of a type that has nothing beside its name
plain_sound : (word name : List ℕ) → IsUtf8 word → IsUtf8 name → IsSound (object (member (codes "name") (string name) (member (codes "type") (string word) no_members)))
plain_sound word name w u = (name_word, u, (refl, tt), (type_name, w, tt, tt))

fine-plain : (it : ColKind) (d : Data) (name : List ℕ) → IsFineColumn (plain_column it name) → If IsFineColumn (plain_of it d name)
fine-plain it d name f = if-cond IsFineColumn (has_members 2 d) (Some (plain_column it name)) None (λ _. f) tt

sound-unit : (o : Option Data) → If IsSound o → If IsUtf8 (unit_of o)
sound-unit None s = IsUtf8-are_ascii [] refl
sound-unit (Some d) s = sound-as_str d s

fine-number_column : (name unit : List ℕ) → IsUtf8 name → IsUtf8 unit → IsFineColumn (number_column name unit)
unfolding column_of_kind column_of_kind_json
fine-number_column name unit u v = record {
  sound = (name_word, u, (refl, (refl, tt)), (type_name, IsUtf8-are_ascii (codes "number") refl, (refl, tt), (IsUtf8-are_ascii (codes "unit") refl, v, tt, tt)));
  again = refl;
}

fine-number_of : (d : Data) (name : List ℕ) → IsSound d → IsUtf8 name → If IsFineColumn (number_of d name)
fine-number_of d name s u =
    if-cond IsFineColumn _ _ None (λ _. if-map IsUtf8 IsFineColumn (number_column name) (λ unit v. fine-number_column name unit u v) (unit_of (get (codes "unit") d)) (sound-unit (get (codes "unit") d) (sound-get (codes "unit") d s))) tt

sound-options : (o : Option Data) → If IsSound o → If AreSoundTexts (options_of o)
sound-options None s = tt
sound-options (Some d) s = if-and_then AreSoundItems AreSoundTexts texts_of sound-texts (as_array d) (sound-as_array d s)

select_sound : (word name : List ℕ) (options : List (List ℕ)) → IsUtf8 word → IsUtf8 name → AreSoundTexts options → IsSound (object (member (codes "name") (string name) (member (codes "options") (array (items_of (map string options))) (member (codes "type") (string word) no_members))))
select_sound word name options w u v = (name_word, u, (refl, (refl, tt)), (IsUtf8-are_ascii (codes "options") refl, v, (refl, tt), (type_name, w, tt, tt)))

fine-select : (name : List ℕ) (options : List (List ℕ)) → IsUtf8 name → AreSoundTexts options → IsFineColumn (select_column kind.Select name options)
unfolding column_of_kind column_of_kind_json
fine-select name options u v = record {
  sound = select_sound (codes "single-select") name options (IsUtf8-are_ascii (codes "single-select") refl) u v;
  again = ap (option_map (select_column kind.Select name)) (texts-again options);
}

fine-multi : (name : List ℕ) (options : List (List ℕ)) → IsUtf8 name → AreSoundTexts options → IsFineColumn (select_column kind.Multi name options)
unfolding column_of_kind column_of_kind_json
fine-multi name options u v = record {
  sound = select_sound (codes "multiple-select") name options (IsUtf8-are_ascii (codes "multiple-select") refl) u v;
  again = ap (option_map (select_column kind.Multi name)) (texts-again options);
}

fine-select_of : (it : ColKind) (d : Data) (name : List ℕ) → IsSound d → ((options : List (List ℕ)) → AreSoundTexts options → IsFineColumn (select_column it name options)) → If IsFineColumn (select_of it d name)
fine-select_of it d name s f =
    if-cond IsFineColumn _ _ None (λ _. if-map AreSoundTexts IsFineColumn (select_column it name) f (options_of (get (codes "options") d)) (sound-options (get (codes "options") d) (sound-get (codes "options") d s))) tt

fine-link : (name table other : List ℕ) → IsUtf8 name → IsUtf8 table → IsUtf8 other → IsFineColumn (link_column name table other)
unfolding column_of_kind column_of_kind_json
fine-link name table other u v w = record {
  sound = (
    name_word,
    u,
    (refl, (refl, (refl, tt))),
    (IsUtf8-are_ascii (codes "other") refl, v, (refl, (refl, tt)), (IsUtf8-are_ascii (codes "other_name") refl, w, (refl, tt), (type_name, IsUtf8-are_ascii (codes "link") refl, tt, tt))),
  );
  again = refl;
}

fine-link_of : (d : Data) (name : List ℕ) → IsSound d → IsUtf8 name → If IsFineColumn (link_of d name)
fine-link_of d name s u =
    if-cond IsFineColumn _ _ None (λ _. if-and_then IsUtf8 IsFineColumn _ (λ table v. if-map IsUtf8 IsFineColumn (link_column name table) (λ other w. fine-link name table other u v w) (text_at (codes "other_name") d) (sound-text_at (codes "other_name") d s)) (text_at (codes "other") d) (sound-text_at (codes "other") d s)) tt

fine-of_kind : (it : ColKind) (d : Data) (name : List ℕ) → IsSound d → IsUtf8 name → If IsFineColumn (column_of_kind it d name)
unfolding column_of_kind column_of_kind_json
fine-of_kind kind.Text d name s u = fine-plain kind.Text d name (record { sound = plain_sound (codes "text") name (IsUtf8-are_ascii (codes "text") refl) u; again = refl })
fine-of_kind kind.LongText d name s u = fine-plain kind.LongText d name (record { sound = plain_sound (codes "long-text") name (IsUtf8-are_ascii (codes "long-text") refl) u; again = refl })
fine-of_kind kind.Number d name s u = fine-number_of d name s u
fine-of_kind kind.Check d name s u = fine-plain kind.Check d name (record { sound = plain_sound (codes "checkbox") name (IsUtf8-are_ascii (codes "checkbox") refl) u; again = refl })
fine-of_kind kind.Date d name s u = fine-plain kind.Date d name (record { sound = plain_sound (codes "date") name (IsUtf8-are_ascii (codes "date") refl) u; again = refl })
fine-of_kind kind.Select d name s u = fine-select_of kind.Select d name s (λ options v. fine-select name options u v)
fine-of_kind kind.Multi d name s u = fine-select_of kind.Multi d name s (λ options v. fine-multi name options u v)
fine-of_kind kind.People d name s u = fine-plain kind.People d name (record { sound = plain_sound (codes "collaborator") name (IsUtf8-are_ascii (codes "collaborator") refl) u; again = refl })
fine-of_kind kind.Link d name s u = fine-link_of d name s u
fine-of_kind kind.Made d name s u = fine-plain kind.Made d name (record { sound = plain_sound (codes "ctime") name (IsUtf8-are_ascii (codes "ctime") refl) u; again = refl })
fine-of_kind kind.Changed d name s u = fine-plain kind.Changed d name (record { sound = plain_sound (codes "mtime") name (IsUtf8-are_ascii (codes "mtime") refl) u; again = refl })

if-any : {A : Type 0} (o : Option A) → If (λ (x : A). Unit {0}) o
if-any None = tt
if-any (Some x) = tt

-- a column that was read
pub fine-column : (d : Data) → IsSound d → If IsFineColumn (column_of_json d)
fine-column d s =
    if-and_then (λ (it : ColKind). Unit {0}) IsFineColumn _ (λ it _. if-and_then IsUtf8 IsFineColumn (column_of_kind it d) (λ name u. fine-of_kind it d name s u) (text_at (codes "name") d) (sound-text_at (codes "name") d s)) (option_and_then kind_of (text_at (codes "type") d)) (if-any (option_and_then kind_of (text_at (codes "type") d)))

-- ---- views

fine-new_filter : (column predicate : List ℕ) (d : Data) → IsUtf8 column → IsUtf8 predicate → IsSound d → IsFineBy filter_of_json filter_json (new_filter column predicate d)
fine-new_filter column predicate d u v s =
    let word = fine-word d s in
    record {
      sound = (IsUtf8-are_ascii (codes "column") refl, u, (refl, (refl, tt)), (IsUtf8-are_ascii (codes "predicate") refl, v, (refl, tt), (IsUtf8-are_ascii (codes "term") refl, word.sound, tt, tt)));
      again = ap (λ (it : CellWord). Some (record { column = column; predicate = predicate; term = it })) word.again;
    }

fine-filter : (d : Data) → IsSound d → If (IsFineBy filter_of_json filter_json) (filter_of_json d)
fine-filter d s =
    let P = IsFineBy filter_of_json filter_json in
    if-cond P _ _ None (λ _. if-and_then IsUtf8 P _ (λ column u. if-and_then IsUtf8 P _ (λ predicate v. if-map IsSound P (new_filter column predicate) (λ term t. fine-new_filter column predicate term u v t) (get (codes "term") d) (sound-get (codes "term") d s)) (text_at (codes "predicate") d) (sound-text_at (codes "predicate") d s)) (text_at (codes "column") d) (sound-text_at (codes "column") d s)) tt

view_sound : (word name : List ℕ) (filters : List NewFilter) → IsUtf8 word → IsUtf8 name → AreSoundItems (items_of (map filter_json filters)) → IsSound (object (member (codes "conjunction") (string word) (member (codes "filters") (array (items_of (map filter_json filters))) (member (codes "name") (string name) no_members))))
view_sound word name filters w u f = (IsUtf8-are_ascii (codes "conjunction") refl, w, (refl, (refl, tt)), (IsUtf8-are_ascii (codes "filters") refl, f, (refl, tt), (name_word, u, tt, tt)))

fine-new_view : (name : List ℕ) (all : Bool) (filters : List NewFilter) → IsUtf8 name → AreFineBy filter_of_json filter_json filters → IsFineBy view_of_json view_json (new_view name all filters)
fine-new_view name true filters u f = record {
  sound = view_sound (codes "And") name filters (IsUtf8-are_ascii (codes "And") refl) u f.sound;
  again = ap (option_map (new_view name true)) f.again;
}
fine-new_view name false filters u f = record {
  sound = view_sound (codes "Or") name filters (IsUtf8-are_ascii (codes "Or") refl) u f.sound;
  again = ap (option_map (new_view name false)) f.again;
}

-- a view that was read
pub fine-view : (d : Data) → IsSound d → If (IsFineBy view_of_json view_json) (view_of_json d)
fine-view d s =
    let P = IsFineBy view_of_json view_json in
    let word = option_and_then conjunction_of (text_at (codes "conjunction") d) in
    if-cond P _ _ None (λ _. if-and_then IsUtf8 P _ (λ name u. if-and_then (λ (all : Bool). Unit {0}) P _ (λ all _. if-map (AreFineBy filter_of_json filter_json) P (new_view name all) (λ filters f. fine-new_view name all filters u f) (each_at filter_of_json (codes "filters") d) (fine-each_at filter_of_json filter_json fine-filter (codes "filters") d s)) word (if-any word)) (text_at (codes "name") d) (sound-text_at (codes "name") d s)) tt
