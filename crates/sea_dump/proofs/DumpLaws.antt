-- What was given of the lines of a base.
use Rattle.std.proofs.Common.{◌≡◌, ℕ, suc, ◌+◌, ◌<◌, List, [], ◌∷◌, ◌++◌, length, get_or, take, drop, fold, flat_map, false, Option, Result, Ok, Err, Ordering, Less, Equal, Greater, refl, sym, ap, subst, ◌∙◌, append_assoc, length-append, add-one, drop-cons, arith}
use Rattle.std.specs.Io.KnownBytes.{Appends}
use Rattle.std.specs.Ordering.{nat_cmp, match_ordering}
use Rattle.std.specs.Cmp.Lexicographic.{slice_cmp}
use Rattle.std.proofs.lemmas.Bool.{or_parts}
use Rattle.std.proofs.lemmas.List.{take-append-le}
use Rattle.std.proofs.Math.Seq.{take-append-add}
use Rattle.std.proofs.KnownBytes.{Appends-trans}
use Rattle.serde_json.specs.Data.{Data, string, Members, no_members, member, put}
use Rattle.serde_json.specs.Written.{has_float, members_have_float}
use Rattle.sea_cell.specs.Cells.{cell_in}
use Rattle.sea_cell.specs.Conversion.{json_of}
use Rattle.sea_cell.specs.declared.row.Row.{Row}
use Rattle.sea_cell.specs.declared.column.Column.{Column}
use Rattle.sea_cell.specs.declared.values.CellValue.{CellValue}
use Rattle.sea_cell.specs.declared.values.CellValue.TheVariants as cell
use Rattle.sea_plain.specs.declared.linked.TableRows.{TableRows}
use Rattle.sea_edge.specs.Bytes.{Gives}
use Rattle.sea_dump.specs.Dump.{with_filled, with_shown, row_json, table_json, HasGiven}
use Rattle.sea_dump.specs.declared.output.DumpFault.{DumpFault}
use Rattle.sea_dump.specs.Floats.{texts_float, cell_float}

-- ---- a line has no float

-- a member that is put among others brings no float
float-put : (name : List ℕ) (json : Data) (members : Members) → has_float json ≡ false → members_have_float members ≡ false → members_have_float (put name json members) ≡ false
float-put name json no_members none rest = rw none refl
float-put name json (member other value members) none rest =
    let parts = or_parts (has_float value) _ rest in
    place (slice_cmp nat_cmp name other) parts.0 parts.1 (float-put name json members none parts.1)
  where
    place : (o : Ordering) → has_float value ≡ false → members_have_float members ≡ false → members_have_float (put name json members) ≡ false
        → members_have_float (match_ordering o (member name json (member other value members)) (member other json members) (member other value (put name json members))) ≡ false
    place Less first later more = rw (none, first) later
    place Equal first later more = rw none later
    place Greater first later more = rw first more

filled_float : (name : List ℕ) (value : CellValue) (so_far : Members) → members_have_float so_far ≡ false → members_have_float (with_filled name value so_far) ≡ false
filled_float name cell.Empty so_far none = none
filled_float name (cell.Text text) so_far none = float-put name (json_of (cell.Text text)) so_far (cell_float (cell.Text text)) none
filled_float name (cell.Number units) so_far none = float-put name (json_of (cell.Number units)) so_far (cell_float (cell.Number units)) none
filled_float name (cell.Check check) so_far none = float-put name (json_of (cell.Check check)) so_far (cell_float (cell.Check check)) none
filled_float name (cell.Moment moment) so_far none = float-put name (json_of (cell.Moment moment)) so_far (cell_float (cell.Moment moment)) none
filled_float name (cell.Choice option) so_far none = float-put name (json_of (cell.Choice option)) so_far (cell_float (cell.Choice option)) none
filled_float name (cell.Choices options) so_far none = float-put name (json_of (cell.Choices options)) so_far (cell_float (cell.Choices options)) none
filled_float name (cell.Names names) so_far none = float-put name (json_of (cell.Names names)) so_far (cell_float (cell.Names names)) none
filled_float name (cell.Links ids) so_far none = float-put name (json_of (cell.Links ids)) so_far (cell_float (cell.Links ids)) none

shown_float : (row : Row) (columns : List Column) (so_far : Members) → members_have_float so_far ≡ false → members_have_float (fold (with_shown row) so_far columns) ≡ false
shown_float row [] so_far none = none
shown_float row (column ∷ columns) so_far none = shown_float row columns (with_shown row so_far column) (filled_float column.name (cell_in row column) so_far none)

pub row_float : (columns : List Column) (row : Row) → has_float (row_json columns row) ≡ false
row_float columns row = float-put _ (string row.id.0) (fold (with_shown row) no_members columns) refl (shown_float row columns no_members refl)

pub table_float : (table : TableRows) → has_float (table_json table) ≡ false
table_float table = rw (texts_float _) refl

-- ---- pieces, one after another

-- a front of a piece is one of the piece with more behind it
gives_front : (T : Type 0) (taken given : Option (List ℕ)) (why : DumpFault) (piece more : List ℕ) → Gives {T = T} taken given (Err why) piece → Gives {T = T} taken given (Err why) (piece ++ more)
gives_front T taken given why piece more (count, within, gives) = (
  count,
  omega (arith, within, length-append piece more),
  subst (λ (bytes : List ℕ). Appends taken given bytes) (sym (take-append-le count piece more within)) gives,
)

-- what is given of a piece behind a whole one
pub gives_both : {T : Type 0} (taken given now : Option (List ℕ)) (result : Result T DumpFault) (piece more : List ℕ) → Appends taken given piece → Gives given now result more → Gives taken now result (piece ++ more)
gives_both taken given now (Ok _) piece more whole gives = Appends-trans taken given now piece more whole gives
gives_both taken given now (Err why) piece more whole (count, within, gives) = (
  length piece + count,
  omega (arith, within, length-append piece more),
  subst (λ (bytes : List ℕ). Appends taken now bytes) (sym (take-append-add piece more count)) (Appends-trans taken given now piece (take count more) whole gives),
)

-- ---- the lines of some things

-- the things that are left begin with the one at this place
pub next_left : {A : Type 0} (all : List A) (place : ℕ) (one : A) → place < length all → one ≡ get_or all place one → drop place all ≡ one ∷ drop (place + 1) all
next_left {A = A} all place one within is =
    drop-cons all place one within ∙ ap (λ (first : A). first ∷ drop (suc place) all) (sym is) ∙ ap (λ (index : ℕ). one ∷ drop index all) (sym (add-one place))

module _ {A : Type 0} (lines_of : A → List ℕ) (all : List A) where
  -- the lines of one more
  pub given_more : (one : A) (left : List A) (taken given now : Option (List ℕ)) → HasGiven lines_of all (one ∷ left) taken given → Appends given now (lines_of one) → HasGiven lines_of all left taken now
  given_more one left taken given now before gives = record {
    so_far = before.so_far ++ lines_of one;
    split = append_assoc before.so_far (lines_of one) (flat_map lines_of left) ∙ before.split;
    written = Appends-trans taken given now before.so_far (lines_of one) before.written gives;
  }

  -- a front of the lines of the next
  pub given_cut : {T : Type 0} (one : A) (left : List A) (taken given now : Option (List ℕ)) (why : DumpFault) (result final : Result T DumpFault) → final ≡ Err why → final ≡ result → HasGiven lines_of all (one ∷ left) taken given → Gives given now result (lines_of one) → Gives taken now final (flat_map lines_of all)
  given_cut {T = T} one left taken given now why result final is same before gives =
      let cut : Gives {T = T} given now (Err why) (lines_of one) = subst (λ (answer : Result T DumpFault). Gives given now answer (lines_of one)) (sym same ∙ is) gives in
      let front = gives_front T given now why (lines_of one) (flat_map lines_of left) cut in
      let whole = gives_both {T = T} taken given now (Err why) before.so_far (flat_map lines_of (one ∷ left)) before.written front in
      subst (λ (answer : Result T DumpFault). Gives taken now answer (flat_map lines_of all)) (sym is) (subst (λ (bytes : List ℕ). Gives {T = T} taken now (Err why) bytes) before.split whole)
