-- Each string and each key among the tokens of a text in UTF-8 is UTF-8.
use Rattle.std.proofs.Common.{◌≡◌, ℕ, ◌+◌, ◌<◌, Bool, true, false, cond, ◌==◌, List, [], ◌∷◌, ◌++◌, length, get_or, drop, Option, Some, None, IsUtf8, refl, sym, ap, ◌∙◌, subst, arith, length-drop}
use Rattle.std.proofs.lemmas.Bool.Decides.{nat_tests}
use Rattle.std.proofs.lemmas.List.{drop_more}
use Rattle.std.proofs.lemmas.Str.{IsUtf8-drop, IsCharBoundary-after_ascii}
use Rattle.json.specs.Token.{Token, begin_object, end_object, begin_array, end_array, key, string, number, boolean, null, bad}
use Rattle.json.specs.Text.{content, plain}
use Rattle.json.specs.Word.{is_operator, is_space, head, ends_word, after_number, number_before, word}
use Rattle.json.specs.Lex.{Lexeme, token, comma, colon, Class, quote, backslash, operator, space, other, class, operator_lexeme, string_token, Mode, between, in_word, in_string, in_escape, lex_byte, lex}
use Rattle.json.specs.Lex.{Place, fresh, after_value, after_comma, after_key, begins_colon, may_begin, may_close, if_allowed, place_token, punctuate, tokens}
use Rattle.sea_ops.proofs.TextsRead.{IfText, text-content}

-- the string or key of a token is UTF-8
abbrev pub IsTextToken : Token → Type 0
IsTextToken (key s) = IsUtf8 s
IsTextToken (string s) = IsUtf8 s
IsTextToken begin_object = Unit {0}
IsTextToken end_object = Unit {0}
IsTextToken begin_array = Unit {0}
IsTextToken end_array = Unit {0}
IsTextToken (number s) = Unit {0}
IsTextToken (boolean b) = Unit {0}
IsTextToken null = Unit {0}
IsTextToken bad = Unit {0}

abbrev pub AreTexts : List Token → Type 0
AreTexts [] = Unit {0}
AreTexts (t ∷ ts) = IsTextToken t × AreTexts ts

abbrev IsTextLexeme : Lexeme → Type 0
IsTextLexeme (token t) = IsTextToken t
IsTextLexeme comma = Unit {0}
IsTextLexeme colon = Unit {0}

abbrev AreTextLexemes : List Lexeme → Type 0
AreTextLexemes [] = Unit {0}
AreTextLexemes (l ∷ ls) = IsTextLexeme l × AreTextLexemes ls

-- ---- lexemes

-- a word is no string
either : (b : Bool) (x y : Token) → IsTextToken x → IsTextToken y → IsTextToken (cond b x y)
either true x y p q = p
either false x y p q = q

number_word : (t : List ℕ) (o : Option (List ℕ)) → IsTextToken (number_before t o)
number_word t None = tt
number_word t (Some r) = either (ends_word r) _ bad tt tt

text-word : (t : List ℕ) → IsTextToken (word t)
unfolding word
text-word t =
    either (head t == 116) _ _ (either _ (boolean true) bad tt tt) (either (head t == 102) _ _ (either _ (boolean false) bad tt tt)
    (either (head t == 110) _ _ (either _ null bad tt tt) (number_word t (after_number t))))

-- an operator is no string
mark : (b : Bool) (x y : Lexeme) → IsTextLexeme x → IsTextLexeme y → IsTextLexeme (cond b x y)
mark true x y p q = p
mark false x y p q = q

text-operator : (x : ℕ) → IsTextLexeme (operator_lexeme x)
text-operator x =
    mark (x == 123) (token begin_object) _ tt (mark (x == 125) (token end_object) _ tt (mark (x == 91) (token begin_array) _ tt (mark (x == 93) (token end_array) _ tt (mark (x == 44) comma colon tt tt))))

text-string : (o : Option (List ℕ)) → IfText o → IsTextToken (string_token o)
text-string None h = tt
text-string (Some s) h = h

-- only a quote is of the class of quotes
abbrev is_quote : Class → Bool
is_quote quote = true
is_quote backslash = false
is_quote operator = false
is_quote space = false
is_quote other = false

only_quote : (a b c d : Bool) → is_quote (cond a quote (cond b backslash (cond c operator (cond d space other)))) ≡ true → a ≡ true
only_quote true b c d e = refl
only_quote false true c d e = cc
only_quote false false true d e = cc
only_quote false false false true e = cc
only_quote false false false false e = cc

-- one byte, where what follows a quote is UTF-8
text-byte : (m : Mode) (c : Class) (x : ℕ) (xs : List ℕ) (k : Mode → List Lexeme) → (is_quote c ≡ true → IfText (content plain xs)) → ((n : Mode) → AreTextLexemes (k n)) → AreTextLexemes (lex_byte m c x xs k)
text-byte between quote x xs k q h = (text-string (content plain xs) (q refl), h in_string)
text-byte between backslash x xs k q h = (tt, h in_word)
text-byte between operator x xs k q h = (text-operator x, h between)
text-byte between space x xs k q h = h between
text-byte between other x xs k q h = (text-word (x ∷ xs), h in_word)
text-byte in_word quote x xs k q h = h in_word
text-byte in_word backslash x xs k q h = h in_word
text-byte in_word operator x xs k q h = (text-operator x, h between)
text-byte in_word space x xs k q h = h between
text-byte in_word other x xs k q h = h in_word
text-byte in_string quote x xs k q h = h between
text-byte in_string backslash x xs k q h = h in_escape
text-byte in_string operator x xs k q h = h in_string
text-byte in_string space x xs k q h = h in_string
text-byte in_string other x xs k q h = h in_string
text-byte in_escape c x xs k q h = h in_string

-- what is left behind a byte, and that it is UTF-8 behind an ASCII one
record Steps (text : List ℕ) (at x : ℕ) (xs : List ℕ) : Type 0 where
  rest : drop (at + 1) text ≡ xs
  ascii : x < 128 → IsUtf8 xs

steps : (text : List ℕ) (at x : ℕ) (xs : List ℕ) → IsUtf8 text → drop at text ≡ x ∷ xs → Steps text at x xs
steps text at x xs u e =
    let within : at < length text = omega (arith, ap length e, length-drop at text) in
    let both = sym e ∙ drop_more text at 0 within in
    let first : x ≡ get_or text at 0 = cc in
    let rest : xs ≡ drop (at + 1) text = cc in
    record { rest = sym rest; ascii = λ low. subst IsUtf8 (sym rest) (IsUtf8-drop text (at + 1) u (IsCharBoundary-after_ascii text at u within (omega arith))) }

-- the lexemes of what is left of a text
text-lex : (text : List ℕ) → IsUtf8 text → (xs : List ℕ) (at : ℕ) → drop at text ≡ xs → (m : Mode) → AreTextLexemes (lex m xs)
unfolding lex
text-lex text u [] at e m = tt
text-lex text u (x ∷ xs) at e m =
    let s = steps text at x xs u e in
    text-byte m (class x) x xs (λ n. lex n xs) (λ q.
    let is : (x == 34) ≡ true = only_quote (x == 34) (x == 92) (is_operator x) (is_space x) q in
    text-content xs (s.ascii (grind (arith, nat_tests)))) (text-lex text u xs (at + 1) s.rest)

-- ---- tokens

allowed : (b : Bool) (t : Token) (k : Place → List Token) (next : Place) → IsTextToken t → AreTexts (k next) → AreTexts (if_allowed b t k next)
allowed true t k next p q = (p, q)
allowed false t k next p q = (tt, tt)

placed : (p : Place) (t : Token) (b : Bool) (k : Place → List Token) → IsTextToken t → ((n : Place) → AreTexts (k n)) → AreTexts (place_token p t b k)
placed p begin_object b k q h = allowed (may_begin p) begin_object k fresh q (h fresh)
placed p end_object b k q h = allowed (may_close p) end_object k after_value q (h after_value)
placed p begin_array b k q h = allowed (may_begin p) begin_array k fresh q (h fresh)
placed p end_array b k q h = allowed (may_close p) end_array k after_value q (h after_value)
placed p (key s) b k q h = (tt, tt)
placed p (string s) true k q h = allowed (may_begin p) (key s) k after_key q (h after_key)
placed p (string s) false k q h = allowed (may_begin p) (string s) k after_value q (h after_value)
placed p (number s) b k q h = allowed (may_begin p) (number s) k after_value q (h after_value)
placed p (boolean v) b k q h = allowed (may_begin p) (boolean v) k after_value q (h after_value)
placed p null b k q h = allowed (may_begin p) null k after_value q (h after_value)
placed p bad b k q h = (tt, tt)

text-punctuate : (ls : List Lexeme) → AreTextLexemes ls → (p : Place) → AreTexts (punctuate p ls)
unfolding punctuate
text-punctuate [] h fresh = tt
text-punctuate [] h after_value = tt
text-punctuate [] h after_comma = (tt, tt)
text-punctuate [] h after_key = (tt, tt)
text-punctuate (token t ∷ ls) h p = placed p t (begins_colon ls) (λ n. punctuate n ls) h.0 (text-punctuate ls h.1)
text-punctuate (comma ∷ ls) h fresh = (tt, tt)
text-punctuate (comma ∷ ls) h after_value = text-punctuate ls h.1 after_comma
text-punctuate (comma ∷ ls) h after_comma = (tt, tt)
text-punctuate (comma ∷ ls) h after_key = (tt, tt)
text-punctuate (colon ∷ ls) h fresh = (tt, tt)
text-punctuate (colon ∷ ls) h after_value = (tt, tt)
text-punctuate (colon ∷ ls) h after_comma = (tt, tt)
text-punctuate (colon ∷ ls) h after_key = text-punctuate ls h.1 fresh

-- the tokens of a text in UTF-8
pub AreTexts-tokens : (text : List ℕ) → IsUtf8 text → AreTexts (tokens text)
AreTexts-tokens text u = text-punctuate (lex between text) (text-lex text u text 0 refl between) fresh

-- the tokens of two lists in a row
pub texts-append : (ts us : List Token) → AreTexts (ts ++ us) → AreTexts ts × AreTexts us
texts-append [] us h = (tt, h)
texts-append (t ∷ ts) us h = let parts = texts-append ts us h.1 in ((h.0, parts.0), parts.1)
