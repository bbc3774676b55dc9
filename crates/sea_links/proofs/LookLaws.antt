-- What is found by the numbers of a row.
use Rattle.std.proofs.Common.{◌≡◌, ℕ, suc, List, [], ◌∷◌, ◌++◌, filter, slice_get, Bool, true, false, ◌&&◌, ◌||◌, cond, Option, Some, None, BTreeMap, true≢false, refl, sym, ap, ◌∙◌, arith}
use Rattle.std.specs.Prelude.{◌==◌}
use Rattle.std.specs.List.{All, list_any}
use Rattle.std.specs.BTreeMap.{IsOrdered}
use Rattle.std.specs.Map.{keys_of, values_of}
use Rattle.std.specs.Option.{option_to_list}
use Rattle.std.specs.Ordering.{nat_cmp}
use Rattle.std.specs.Str.{bytes_eq}
use Rattle.std.proofs.lemmas.Cmp.{nat_cmp_total}
use Rattle.std.proofs.lemmas.Map.Views.{All-found}
use Rattle.sea_cell.specs.declared.keys.RowId.{RowId}
use Rattle.sea_links.specs.declared.pair.LinkPair.{LinkPair}
use Rattle.sea_links.specs.Pairs.{is_pair, is_of, has_pair}
use Rattle.sea_links.specs.Index.{NumberedPairs, pair_at, pairs_at, passes, numbers_of}

-- each of some numbered pairs is found by its number
abbrev pub AreFound : NumberedPairs → NumberedPairs → Type 0
AreFound all [] = Unit {0}
AreFound all (one ∷ pairs) = (pair_at all one.0 ≡ Some one.1) × AreFound all pairs

each-found : (all pairs : NumberedPairs) → All (λ one. pair_at all one.0 ≡ Some one.1) pairs → AreFound all pairs
each-found all [] found = tt
each-found all (one ∷ pairs) found = (found 0 one (omega arith), each-found all pairs (λ k d within. found (suc k) d (omega arith)))

pub are-found : (pairs : BTreeMap ℕ LinkPair) → IsOrdered nat_cmp pairs → AreFound pairs.entries pairs.entries
are-found pairs ordered = each-found pairs.entries pairs.entries (All-found nat_cmp_total pairs ordered)

found-step : (b : Bool) (all : NumberedPairs) (one : ℕ × LinkPair) (rest : NumberedPairs) (values : List LinkPair) → pair_at all one.0 ≡ Some one.1 → pairs_at all (keys_of rest) ≡ values → pairs_at all (keys_of (cond b (one ∷ rest) rest)) ≡ cond b (one.1 ∷ values) values
found-step true all one rest values found same = ap (λ (o : Option LinkPair). option_to_list o ++ pairs_at all (keys_of rest)) found ∙ ap (λ (pairs : List LinkPair). one.1 ∷ pairs) same
found-step false all one rest values found same = same

found-kept : (all : NumberedPairs) (test : LinkPair → Bool) (pairs : NumberedPairs) → AreFound all pairs → pairs_at all (keys_of (filter (λ one. test one.1) pairs)) ≡ filter test (values_of pairs)
found-kept all test [] found = refl
found-kept all test (one ∷ pairs) found = found-step (test one.1) all one (filter (λ x. test x.1) pairs) (filter test (values_of pairs)) found.0 (found-kept all test pairs found.1)

-- by the numbers of a row its pairs are found
pub row-found : (link : ℕ) (first : Bool) (id : RowId) (pairs : BTreeMap ℕ LinkPair) → IsOrdered nat_cmp pairs → (numbers : List ℕ) → numbers ≡ numbers_of link first id pairs.entries → pairs_at pairs.entries numbers ≡ filter (is_of link first id) (values_of pairs.entries)
row-found link first id pairs ordered numbers are = ap (pairs_at pairs.entries) are ∙ found-kept pairs.entries (is_of link first id) pairs.entries (are-found pairs ordered)

first-step : (b : Bool) (all : NumberedPairs) (test : LinkPair → Bool) (one : ℕ × LinkPair) (rest : NumberedPairs) (number : ℕ) → test one.1 ≡ b → pair_at all one.0 ≡ Some one.1 → Some number ≡ slice_get (keys_of (cond b (one ∷ rest) rest)) 0 → (Some number ≡ slice_get (keys_of rest) 0 → passes test (pair_at all number) ≡ true) → passes test (pair_at all number) ≡ true
first-step true all test one rest number is found first left =
    let same : number ≡ one.0 = cc in
    ap (λ (n : ℕ). passes test (pair_at all n)) same ∙ ap (passes test) found ∙ is
first-step false all test one rest number is found first left = left first

first-kept : (all : NumberedPairs) (test : LinkPair → Bool) (number : ℕ) (pairs : NumberedPairs) → AreFound all pairs → Some number ≡ slice_get (keys_of (filter (λ one. test one.1) pairs)) 0 → passes test (pair_at all number) ≡ true
first-kept all test number [] found first = absurd (cc)
first-kept all test number (one ∷ pairs) found first = first-step (test one.1) all test one (filter (λ x. test x.1) pairs) number refl found.0 first (first-kept all test number pairs found.1)

-- the first number of a row leads to a pair of it
pub row-first : (link : ℕ) (first : Bool) (id : RowId) (pairs : BTreeMap ℕ LinkPair) → IsOrdered nat_cmp pairs → (number : ℕ) → Some number ≡ slice_get (numbers_of link first id pairs.entries) 0 → passes (is_of link first id) (pair_at pairs.entries number) ≡ true
row-first link first id pairs ordered number is = first-kept pairs.entries (is_of link first id) number pairs.entries (are-found pairs ordered) is

pub none-first : (numbers : List ℕ) → None ≡ slice_get numbers 0 → numbers ≡ []
none-first [] none = refl
none-first (number ∷ numbers) none = absurd (cc)

any-step : (b : Bool) (test : LinkPair → Bool) (one : LinkPair) (rest : List LinkPair) (among : Bool) → (b ≡ false → test one ≡ false) → list_any test rest ≡ among → list_any test (cond b (one ∷ rest) rest) ≡ (test one || among)
any-step true test one rest among fails same = ap (λ (left : Bool). test one || left) same
any-step false test one rest among fails same = same ∙ sym (ap (λ (left : Bool). left || among) (fails refl))

any-kept : (test kept : LinkPair → Bool) → ((one : LinkPair) → kept one ≡ false → test one ≡ false) → (pairs : List LinkPair) → list_any test (filter kept pairs) ≡ list_any test pairs
any-kept test kept fails [] = refl
any-kept test kept fails (one ∷ pairs) = any-step (kept one) test one (filter kept pairs) (list_any test pairs) (fails one) (any-kept test kept fails pairs)

not-first : (link first second : Bool) → (link && first) ≡ false → (link && (first && second)) ≡ false
not-first true true second none = absurd (true≢false none)
not-first true false second none = refl
not-first false first second none = refl

not-second : (link first second : Bool) → (link && second) ≡ false → (link && (first && second)) ≡ false
not-second true true second none = none
not-second true false second none = refl
not-second false first second none = refl

-- a pair is among those of its row on the first side
pub any-of-first : (link : ℕ) (first second : RowId) (pairs : List LinkPair) → list_any (is_pair link first second) (filter (is_of link true first) pairs) ≡ has_pair pairs link first second
any-of-first link first second pairs = any-kept (is_pair link first second) (is_of link true first) (λ one. not-first (one.link == link) (bytes_eq one.first.0 first.0) (bytes_eq one.second.0 second.0)) pairs

-- and among those of its row on the other side
pub any-of-second : (link : ℕ) (first second : RowId) (pairs : List LinkPair) → list_any (is_pair link first second) (filter (is_of link false second) pairs) ≡ has_pair pairs link first second
any-of-second link first second pairs = any-kept (is_pair link first second) (is_of link false second) (λ one. not-second (one.link == link) (bytes_eq one.first.0 first.0) (bytes_eq one.second.0 second.0)) pairs

module _ (link : ℕ) (first second : RowId) (pairs : BTreeMap ℕ LinkPair) (ordered : IsOrdered nat_cmp pairs) (numbers : List ℕ) where
  -- a pair is there where it is found by the numbers of its row on the first side
  pub pair-by-first : numbers ≡ numbers_of link true first pairs.entries → list_any (is_pair link first second) (pairs_at pairs.entries numbers) ≡ has_pair (values_of pairs.entries) link first second
  pair-by-first are = ap (list_any (is_pair link first second)) (row-found link true first pairs ordered numbers are) ∙ any-of-first link first second (values_of pairs.entries)

  -- and where it is found by those of its row on the other side
  pub pair-by-second : numbers ≡ numbers_of link false second pairs.entries → list_any (is_pair link first second) (pairs_at pairs.entries numbers) ≡ has_pair (values_of pairs.entries) link first second
  pair-by-second are = ap (list_any (is_pair link first second)) (row-found link false second pairs ordered numbers are) ∙ any-of-second link first second (values_of pairs.entries)
