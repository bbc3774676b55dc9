-- The compact text of sound JSON with no float is UTF-8, and is read as that JSON.
use Rattle.std.proofs.Common.{◌≡◌, ℕ, suc, ◌<◌, ◌≤◌, max, pos, negsuc, List, [], ◌∷◌, ◌++◌, get_or, Bool, true, false, cond, ◌==◌, Some, option_map, option_and_then, decimal, IsUtf8, Greater, nat_cmp, refl, sym, ap, ap₂, ◌∙◌, subst, arith, append-nil}
use Rattle.std.proofs.lemmas.Bool.{or_parts, ne_eqb}
use Rattle.std.proofs.lemmas.Cmp.{nat_list_cmp_total}
use Rattle.std.proofs.lemmas.Fmt.{IsAscii-decimal, first_decimal}
use Rattle.std.proofs.lemmas.Str.{IsUtf8-append, IsUtf8-nil, IsUtf8-from_ascii}
use Rattle.std.proofs.lemmas.Str.Ascii.{IsAscii-cons}
use Rattle.std.specs.Cmp.Lexicographic.{slice_cmp}
use Rattle.std.specs.Ordering.{ordering_reverse}
use Rattle.json.specs.Lex.{tokens}
use Rattle.json.specs.Json as json
use Rattle.json.specs.Print.{IsNumber, quoted}
use Rattle.json.specs.Tree as tree
use Rattle.json.specs.Word.{after_whole, after_fraction, after_exponent, after_number}
use Rattle.json.proofs.Printed.Decimals.{IsNumber-decimal}
use Rattle.json.proofs.Printed.Tokens.{tokens-print}
use Rattle.json.proofs.Printed.Trees.{value-json_tokens, ArePrintable-json_tokens}
use Rattle.json.proofs.Printed.Utf8.{IsUtf8-are_ascii, IsUtf8-quoted, IsUtf8-boolean}
use Rattle.serde_json.specs.Data.{Num, unsigned, negative, float, Data, null, boolean, number, string, array, object, Items, no_items, item, Members, no_members, member, put, depth, items_depth, members_depth}
use Rattle.serde_json.specs.Find.{is_float}
use Rattle.serde_json.specs.Read.{number_of, of_json, of_items, of_members, max_depth, read}
use Rattle.serde_json.specs.Written.{number_text, outline, items_outline, members_outline, has_float, items_have_float, members_have_float, comma_if, compact_text, items_text, members_text}
use Rattle.serde_json.proofs.Numbers.{number_of-decimal, number_of-negative}
use Rattle.serde_json.proofs.Texts.{print-outline}
use Rattle.sea_ops.proofs.DataRead.{IsSoundNumber, IsBelow, IsSound, AreSoundItems, AreSoundMembers}

-- ---- members that are put one after another

-- the members of both, in a row
abbrev pub joined : Members → Members → Members
joined no_members ms = ms
joined (member k d found) ms = member k d (joined found ms)

pub joined-none : (found : Members) → joined found no_members ≡ found
joined-none no_members = refl
joined-none (member k d found) = ap (member k d) (joined-none found)

pub joined-joined : (found : Members) (k : List ℕ) (d : Data) (ms : Members) → joined (joined found (member k d no_members)) ms ≡ joined found (member k d ms)
joined-joined no_members k d ms = refl
joined-joined (member l e found) k d ms = ap (member l e) (joined-joined found k d ms)

-- each name of the first stands before each of the others
abbrev pub Precede : Members → Members → Type 0
Precede no_members ms = Unit {0}
Precede (member k d found) ms = IsBelow k ms × Precede found ms

pub precede-joined : (found : Members) (k : List ℕ) (d : Data) (ms : Members) → Precede found (member k d ms) → IsBelow k ms → Precede (joined found (member k d no_members)) ms
precede-joined no_members k d ms h b = (b, tt)
precede-joined (member l e found) k d ms h b = (h.0.1, precede-joined found k d ms h.1 b)

-- a name behind those before it goes last
pub put-last : (found : Members) (k : List ℕ) (d : Data) (ms : Members) → Precede found (member k d ms) → put k d found ≡ joined found (member k d no_members)
put-last no_members k d ms h = refl
put-last (member l e found) k d ms h =
    let behind : slice_cmp nat_cmp k l ≡ Greater = nat_list_cmp_total.antisymm k l ∙ ap ordering_reverse h.0.0 in
    rw behind (ap (member l e) (put-last found k d ms h.1))

-- ---- the value again

number-again : (n : Num) → IsSoundNumber n → is_float n ≡ false → option_map number (number_of (number_text n)) ≡ Some (number n)
number-again (unsigned n) h whole = ap (option_map number) (number_of-decimal n h)
number-again (negative (pos n)) h whole = absurd h
number-again (negative (negsuc n)) h whole = ap (option_map number) (number_of-negative n h)
number-again (float x) h whole = cc

mutual
  json-again : (d : Data) → IsSound d → has_float d ≡ false → of_json (outline d) ≡ Some d
  json-again null s f = refl
  json-again (boolean b) s f = refl
  json-again (number n) s f = number-again n s f
  json-again (string t) s f = refl
  json-again (array ds) s f = ap (option_map array) (items-again ds s f)
  json-again (object ms) s f = ap (option_map object) (members-again ms no_members s f tt)

  items-again : (ds : Items) → AreSoundItems ds → items_have_float ds ≡ false → of_items (items_outline ds) ≡ Some ds
  items-again no_items s f = refl
  items-again (item d ds) s f = let parts = or_parts (has_float d) _ f in rw (json-again d s.0 parts.0, items-again ds s.1 parts.1) refl

  members-again : (ms found : Members) → AreSoundMembers ms → members_have_float ms ≡ false → Precede found ms → of_members (members_outline ms) found ≡ Some (joined found ms)
  members-again no_members found s f h = ap Some (sym (joined-none found))
  members-again (member k d ms) found s f h =
      let parts = or_parts (has_float d) _ f in
      ap (option_and_then (λ e. of_members (members_outline ms) (put k e found))) (json-again d s.1 parts.0)
      ∙ ap (of_members (members_outline ms)) (put-last found k d ms h)
      ∙ members-again ms (joined found (member k d no_members)) s.3 parts.1 (precede-joined found k d ms h s.2)
      ∙ ap Some (joined-joined found k d ms)

-- ---- the tokens again

-- a number with a minus before it
number-minus : (text : List ℕ) → 48 < get_or text 0 0 → IsNumber text → IsNumber (45 ∷ text)
unfolding after_number
number-minus [] first h = absurd (omega arith)
number-minus (d ∷ ds) first h =
    let plain : (d == 45) ≡ false = ne_eqb d 45 (λ e. omega arith) in
    subst (λ (b : Bool). option_and_then after_exponent (option_and_then after_fraction (after_whole (cond b ds (d ∷ ds)))) ≡ Some []) plain h

number-text : (n : Num) → IsSoundNumber n → is_float n ≡ false → IsNumber (number_text n)
number-text (unsigned n) h whole = IsNumber-decimal n h
number-text (negative (pos n)) h whole = absurd h
number-text (negative (negsuc n)) h whole = number-minus (decimal (suc n)) (first_decimal (suc n) (omega arith) (omega arith)) (IsNumber-decimal (suc n) (omega arith))
number-text (float x) h whole = cc

mutual
  numbers-text : (d : Data) → IsSound d → has_float d ≡ false → tree.HasNumbers (outline d)
  numbers-text null s f = tt
  numbers-text (boolean b) s f = tt
  numbers-text (number n) s f = number-text n s f
  numbers-text (string t) s f = tt
  numbers-text (array ds) s f = items_numbers ds s f
  numbers-text (object ms) s f = members_numbers ms s f

  items_numbers : (ds : Items) → AreSoundItems ds → items_have_float ds ≡ false → tree.ItemsHaveNumbers (items_outline ds)
  items_numbers no_items s f = tt
  items_numbers (item d ds) s f = let parts = or_parts (has_float d) _ f in (numbers-text d s.0 parts.0, items_numbers ds s.1 parts.1)

  members_numbers : (ms : Members) → AreSoundMembers ms → members_have_float ms ≡ false → tree.MembersHaveNumbers (members_outline ms)
  members_numbers no_members s f = tt
  members_numbers (member k d ms) s f = let parts = or_parts (has_float d) _ f in (numbers-text d s.1 parts.0, members_numbers ms s.3 parts.1)

mutual
  depth-outline : (d : Data) → tree.depth (outline d) ≡ depth d
  depth-outline null = refl
  depth-outline (boolean b) = refl
  depth-outline (number n) = refl
  depth-outline (string t) = refl
  depth-outline (array ds) = ap suc (items_depth-outline ds)
  depth-outline (object ms) = ap suc (members_depth-outline ms)

  items_depth-outline : (ds : Items) → tree.items_depth (items_outline ds) ≡ items_depth ds
  items_depth-outline no_items = refl
  items_depth-outline (item d ds) = ap₂ max (depth-outline d) (items_depth-outline ds)

  members_depth-outline : (ms : Members) → tree.members_depth (members_outline ms) ≡ members_depth ms
  members_depth-outline no_members = refl
  members_depth-outline (member k d ms) = ap₂ max (depth-outline d) (members_depth-outline ms)

-- the text of sound JSON with no float is read as that JSON, where it isn't too deep
pub read-compact_text : (d : Data) → IsSound d → has_float d ≡ false → depth d ≤ max_depth → read (compact_text d) ≡ Some d
read-compact_text d s f shallow =
    let j = outline d in
    let again = ap tokens (sym (print-outline d)) ∙ tokens-print (tree.json_tokens j) (ArePrintable-json_tokens j (numbers-text d s f)) ∙ sym (append-nil (tree.json_tokens j)) in
    let found = ap (json.value max_depth) again ∙ value-json_tokens j max_depth [] (omega (arith, depth-outline d)) in
    ap (λ o. option_and_then of_json (option_and_then (λ p. json.if_last p.0 p.1) o)) found ∙ json-again d s f

-- ---- UTF-8

-- an ASCII byte before a text
ascii-then : (x : ℕ) (xs : List ℕ) → IsUtf8 (x ∷ []) → IsUtf8 xs → IsUtf8 (x ∷ xs)
ascii-then x xs u v = IsUtf8-append (x ∷ []) xs u v

number-utf8 : (n : Num) → IsSoundNumber n → IsUtf8 (number_text n)
number-utf8 (unsigned n) h = IsUtf8-from_ascii _ (IsAscii-decimal n h)
number-utf8 (negative (pos n)) h = absurd h
number-utf8 (negative (negsuc n)) h = IsUtf8-from_ascii _ (IsAscii-cons 45 (decimal (suc n)) (omega arith) (IsAscii-decimal (suc n) (omega arith)))
number-utf8 (float x) h = IsUtf8-nil

comma-utf8 : (later : Bool) → IsUtf8 (comma_if later)
comma-utf8 true = IsUtf8-are_ascii (44 ∷ []) refl
comma-utf8 false = IsUtf8-nil

mutual
  -- the text of sound JSON is UTF-8
  pub IsUtf8-compact_text : (d : Data) → IsSound d → IsUtf8 (compact_text d)
  IsUtf8-compact_text null s = IsUtf8-are_ascii _ refl
  IsUtf8-compact_text (boolean b) s = IsUtf8-boolean b
  IsUtf8-compact_text (number n) s = number-utf8 n s
  IsUtf8-compact_text (string t) s = IsUtf8-quoted t s
  IsUtf8-compact_text (array ds) s = ascii-then 91 _ (IsUtf8-are_ascii _ refl) (items-utf8 false ds s)
  IsUtf8-compact_text (object ms) s = ascii-then 123 _ (IsUtf8-are_ascii _ refl) (members-utf8 false ms s)

  items-utf8 : (later : Bool) (ds : Items) → AreSoundItems ds → IsUtf8 (items_text later ds)
  items-utf8 later no_items s = IsUtf8-are_ascii _ refl
  items-utf8 later (item d ds) s = IsUtf8-append (comma_if later) _ (comma-utf8 later) (IsUtf8-append (compact_text d) _ (IsUtf8-compact_text d s.0) (items-utf8 true ds s.1))

  members-utf8 : (later : Bool) (ms : Members) → AreSoundMembers ms → IsUtf8 (members_text later ms)
  members-utf8 later no_members s = IsUtf8-are_ascii _ refl
  members-utf8 later (member k d ms) s =
      let value : IsUtf8 (compact_text d ++ members_text true ms) = IsUtf8-append (compact_text d) _ (IsUtf8-compact_text d s.1) (members-utf8 true ms s.3) in
      IsUtf8-append (comma_if later) _ (comma-utf8 later) (IsUtf8-append (quoted k) _ (IsUtf8-quoted k s.0) (ascii-then 58 _ (IsUtf8-are_ascii _ refl) value))
