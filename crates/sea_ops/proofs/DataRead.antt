-- What is read from a text in UTF-8: strings are UTF-8, integers have 64 bits, and members rise by name.
use Rattle.std.proofs.Common.{◌≡◌, ℕ, zero, suc, ◌^◌, ◌<◌, ◌≤◌, ◌&&◌, pos, negsuc, List, [], ◌∷◌, Bool, true, false, cond, Option, Some, None, option_map, option_and_then, nat_lt, nat_le, drop, ◌==◌, slice_index, IsUtf8, Ordering, Less, Equal, Greater, nat_cmp, refl, ap, ◌∙◌, subst, arith, ltb-true}
use Rattle.std.proofs.lemmas.Bool.{and_parts}
use Rattle.std.proofs.lemmas.Bool.Decides.{nat_tests}
use Rattle.std.proofs.lemmas.Cmp.{nat_list_cmp_total}
use Rattle.std.specs.Cmp.Lexicographic.{slice_cmp}
use Rattle.std.specs.Float.{binary64, float_is_finite}
use Rattle.std.specs.Ordering.{match_ordering, ordering_reverse}
use Rattle.fast_float.specs.Text.{Parts, scan, digits_of, nearest, with_sign, minus}
use Rattle.json.specs.Token.{Token}
use Rattle.json.specs.Lex.{tokens}
use Rattle.json.specs.Json as json
use Rattle.json.specs.Tree.{json_tokens, items_tokens, members_tokens}
use Rattle.json.proofs.Unique.Spelling.{value-json_tokens_back}
use Rattle.serde_json.specs.Data.{Num, unsigned, negative, float, Data, null, boolean, number, string, array, object, Items, no_items, item, Members, no_members, member, put}
use Rattle.serde_json.specs.Read.{is_integer, float_of, number_from, number_of, of_json, of_items, of_members, max_depth, read}
use Rattle.sea_ops.proofs.TokensRead.{AreTexts, AreTexts-tokens, texts-append}

-- an integer of 64 bits, with or without sign, or a float
abbrev pub IsSoundNumber : Num → Type 0
IsSoundNumber (unsigned n) = n < 2 ^ 64
IsSoundNumber (negative (pos n)) = ⊥
IsSoundNumber (negative (negsuc n)) = n < 2 ^ 63
IsSoundNumber (float x) = Unit {0}

-- one name stands before another
abbrev pub IsBefore : List ℕ → List ℕ → Type 0
IsBefore name other = slice_cmp nat_cmp name other ≡ Less

-- a name stands before each of these
abbrev pub IsBelow : List ℕ → Members → Type 0
IsBelow name no_members = Unit {0}
IsBelow name (member other d ms) = IsBefore name other × IsBelow name ms

-- strings and names are UTF-8, integers have 64 bits, and the members of each object rise by name
abbrev mutual
  pub IsSound : Data → Type 0
  IsSound null = Unit {0}
  IsSound (boolean b) = Unit {0}
  IsSound (number n) = IsSoundNumber n
  IsSound (string s) = IsUtf8 s
  IsSound (array ds) = AreSoundItems ds
  IsSound (object ms) = AreSoundMembers ms

  pub AreSoundItems : Items → Type 0
  AreSoundItems no_items = Unit {0}
  AreSoundItems (item d ds) = IsSound d × AreSoundItems ds

  pub AreSoundMembers : Members → Type 0
  AreSoundMembers no_members = Unit {0}
  AreSoundMembers (member name d ms) = IsUtf8 name × IsSound d × IsBelow name ms × AreSoundMembers ms

-- ---- members in order

-- what stands before a name stands before all that the name stands before
below-trans : (name other : List ℕ) (ms : Members) → IsBefore name other → IsBelow other ms → IsBelow name ms
below-trans name other no_members h k = tt
below-trans name other (member l e ms) h k = (nat_list_cmp_total.trans name other l h k.0, below-trans name other ms h k.1)

-- a name that is put among others stands behind those before it
below-put : (name k : List ℕ) (d : Data) (ms : Members) → IsBefore name k → IsBelow name ms → IsBelow name (put k d ms)
below-put name k d no_members h b = (h, tt)
below-put name k d (member l e ms) h b = place (slice_cmp nat_cmp k l) (below-put name k d ms h b.1)
  where
    place : (o : Ordering) → IsBelow name (put k d ms) → IsBelow name (match_ordering o (member k d (member l e ms)) (member l d ms) (member l e (put k d ms)))
    place Less more = (h, b)
    place Equal more = b
    place Greater more = (b.0, more)

-- a sound member is put at its place among sound ones
pub sound-put : (k : List ℕ) (d : Data) (ms : Members) → IsUtf8 k → IsSound d → AreSoundMembers ms → AreSoundMembers (put k d ms)
sound-put k d no_members u h s = (u, h, tt, tt)
sound-put k d (member l e ms) u h s = place (slice_cmp nat_cmp k l) (sound-put k d ms u h s.3) refl
  where
    place : (o : Ordering) → AreSoundMembers (put k d ms) → slice_cmp nat_cmp k l ≡ o → AreSoundMembers (match_ordering o (member k d (member l e ms)) (member l d ms) (member l e (put k d ms)))
    place Less more is = (u, h, (is, below-trans k l ms is s.2), s)
    place Equal more is = (s.0, h, s.2, s.3)
    place Greater more is =
        let before : IsBefore l k = nat_list_cmp_total.antisymm l k ∙ ap ordering_reverse is in
        (s.0, s.1, below-put l k d ms before s.2, more)

-- ---- numbers

abbrev IfNumber : Option Num → Type 0
IfNumber None = Unit {0}
IfNumber (Some n) = IsSoundNumber n

number-cond : (b : Bool) (x y : Option Num) → (b ≡ true → IfNumber x) → IfNumber y → IfNumber (cond b x y)
number-cond true x y h k = h refl
number-cond false x y h k = k

number-float : (sign : Bool) (p : Parts) → IfNumber (float_of sign p)
number-float sign p = number-cond (float_is_finite (nearest binary64 sign p)) (Some (float _)) None (λ _. tt) tt

number-negative : (n : ℕ) → 0 < n → n ≤ 2 ^ 63 → IsSoundNumber (negative (with_sign true n))
number-negative zero some fits = absurd (omega arith)
number-negative (suc n) some fits = omega arith

number-from : (sign : Bool) (p : Parts) → IfNumber (number_from sign p)
number-from false p =
    number-cond (is_integer p && nat_lt (digits_of p) (2 ^ 64)) (Some (unsigned (digits_of p))) _ (λ e. ltb-true _ _ (and_parts (is_integer p) _ e).1) (number-float false p)
number-from true p =
    number-cond (is_integer p && nat_lt 0 (digits_of p) && nat_le (digits_of p) (2 ^ 63)) (Some (negative _)) _ (λ e.
    let outer = and_parts (is_integer p && nat_lt 0 (digits_of p)) _ e in
    let inner = and_parts (is_integer p) _ outer.0 in
    number-negative (digits_of p) (ltb-true _ _ inner.1) (grind (arith, nat_tests, outer.1))) (number-float true p)

sound-number_of : (s : List ℕ) → IfNumber (number_of s)
unfolding number_of
sound-number_of s = number-cond (slice_index s 0 == minus) _ _ (λ _. number-from true (scan (drop 1 s))) (number-from false (scan s))

-- ---- values

-- what holds of what there is
abbrev pub If : {A : Type 0} → (A → Type 0) → Option A → Type 0
If P None = Unit {0}
If P (Some a) = P a

pub if-map : {A B : Type 0} (P : A → Type 0) (Q : B → Type 0) (f : A → B) → ((a : A) → P a → Q (f a)) → (o : Option A) → If P o → If Q (option_map f o)
if-map P Q f g None h = tt
if-map P Q f g (Some a) h = g a h

pub if-and_then : {A B : Type 0} (P : A → Type 0) (Q : B → Type 0) (f : A → Option B) → ((a : A) → P a → If Q (f a)) → (o : Option A) → If P o → If Q (option_and_then f o)
if-and_then P Q f g None h = tt
if-and_then P Q f g (Some a) h = g a h

number-if : (o : Option Num) → IfNumber o → If IsSoundNumber o
number-if None h = tt
number-if (Some n) h = h

mutual
  sound-of_json : (j : json.Json) → AreTexts (json_tokens j) → If IsSound (of_json j)
  sound-of_json json.null h = tt
  sound-of_json (json.boolean b) h = tt
  sound-of_json (json.number s) h = if-map IsSoundNumber IsSound number (λ n k. k) (number_of s) (number-if _ (sound-number_of s))
  sound-of_json (json.string s) h = h.0
  sound-of_json (json.array js) h = if-map AreSoundItems IsSound array (λ ds k. k) (of_items js) (sound-of_items js h.1)
  sound-of_json (json.object ms) h = if-map AreSoundMembers IsSound object (λ ds k. k) (of_members ms no_members) (sound-of_members ms no_members h.1 tt)

  sound-of_items : (js : json.Items) → AreTexts (items_tokens js) → If AreSoundItems (of_items js)
  sound-of_items json.no_items h = tt
  sound-of_items (json.item j js) h =
      let parts = texts-append (json_tokens j) (items_tokens js) h in
      if-and_then IsSound AreSoundItems _ (λ d k. if-map AreSoundItems AreSoundItems (item d) (λ ds l. (k, l)) (of_items js) (sound-of_items js parts.1)) (of_json j) (sound-of_json j parts.0)

  sound-of_members : (ms : json.Members) (found : Members) → AreTexts (members_tokens ms) → AreSoundMembers found → If AreSoundMembers (of_members ms found)
  sound-of_members json.no_members found h s = s
  sound-of_members (json.member name j ms) found h s =
      let parts = texts-append (json_tokens j) (members_tokens ms) h.1 in
      if-and_then IsSound AreSoundMembers _ (λ d k. sound-of_members ms (put name d found) parts.1 (sound-put name d found h.0 k s)) (of_json j) (sound-of_json j parts.0)

-- the value that the tokens of a text are
sound-last : (ts : List Token) → AreTexts ts → (o : Option (json.Json × List Token)) → json.value max_depth ts ≡ o → If IsSound (option_and_then of_json (option_and_then (λ p. json.if_last p.0 p.1) o))
sound-last ts h None e = tt
sound-last ts h (Some (j, [])) e =
    let same = value-json_tokens_back max_depth ts [] j e in
    sound-of_json j (texts-append (json_tokens j) [] (subst AreTexts same h)).0
sound-last ts h (Some (j, t ∷ rest)) e = tt

-- what is read from a text in UTF-8 is sound
pub sound-read : (text : List ℕ) (d : Data) → IsUtf8 text → read text ≡ Some d → IsSound d
sound-read text d u e = subst (If IsSound) e (sound-last (tokens text) (AreTexts-tokens text u) (json.value max_depth (tokens text)) refl)
