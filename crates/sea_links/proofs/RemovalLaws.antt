-- What is left, and what an index tells, after pairs were taken out.
use Rattle.std.proofs.Common.{◌≡◌, ◌<◌, ℕ, List, [], ◌∷◌, filter, length, Bool, true, false, not, ◌&&◌, ◌||◌, cond, Option, Some, None, true≢false, refl, sym, ap, ◌∙◌, arith}
use Rattle.std.specs.Prelude.{◌==◌}
use Rattle.std.specs.List.{list_any}
use Rattle.std.specs.BTreeMap.{is_at}
use Rattle.std.specs.Map.{keys_of, values_of, lookup, remove_entry}
use Rattle.std.specs.Option.{IfNone, IfSome, is_some}
use Rattle.std.specs.Ordering.{nat_cmp}
use Rattle.std.specs.Set.{remove_key}
use Rattle.std.specs.Str.{bytes_eq}
use Rattle.std.proofs.lemmas.Bool.{eqb-true}
use Rattle.std.proofs.lemmas.Slice.Eq.{bytes_eq-Decides}
use Rattle.sea_cell.specs.declared.keys.RowId.{RowId}
use Rattle.sea_links.specs.declared.pair.LinkPair.{LinkPair}
use Rattle.sea_links.specs.Pairs.{side, is_pair, is_of, has_pair, IsWithoutRepeats, without_pair, without_row, is_of_other_link}
use Rattle.sea_links.specs.Index.{NumberedPairs, pair_at, passes, numbers_of, IsBelow, HasOneLess, TellsNumbers}
use Rattle.sea_links.proofs.PairsLaws.{neither}
use Rattle.sea_links.proofs.SidesLaws.{or-true, any-agree}

some-same : {X : Type 0} (one other : X) → Some one ≡ Some other → one ≡ other
some-same one other same = cc

values-cond : (b : Bool) (pair : ℕ × LinkPair) (rest : NumberedPairs) (values : List LinkPair) → values_of rest ≡ values → values_of (cond b (pair ∷ rest) rest) ≡ cond b (pair.1 ∷ values) values
values-cond true pair rest values same = ap (λ (left : List LinkPair). pair.1 ∷ left) same
values-cond false pair rest values same = same

-- the pairs of what is kept are the pairs that are kept
pub values-kept : (test : LinkPair → Bool) (pairs : NumberedPairs) → values_of (filter (λ pair. test pair.1) pairs) ≡ filter test (values_of pairs)
values-kept test [] = refl
values-kept test (pair ∷ pairs) = values-cond (test pair.1) pair (filter (λ one. test one.1) pairs) (filter test (values_of pairs)) (values-kept test pairs)

-- ---- without the pair of a number

module _ (at : ℕ → Bool) (test : LinkPair → Bool) (pair : LinkPair) where
  skip-step : (here : Bool) (one : ℕ × LinkPair) (rest : NumberedPairs) → test pair ≡ false → cond here (Some one.1) (lookup at rest) ≡ Some pair → (lookup at rest ≡ Some pair → filter (λ x. test x.1) (remove_entry at rest) ≡ filter (λ x. test x.1) rest) → filter (λ x. test x.1) (cond here rest (one ∷ remove_entry at rest)) ≡ cond (test one.1) (one ∷ filter (λ x. test x.1) rest) (filter (λ x. test x.1) rest)
  skip-step true one rest fails found left = sym (ap (λ (b : Bool). cond b (one ∷ filter (λ x. test x.1) rest) (filter (λ x. test x.1) rest)) (ap test (some-same one.1 pair found) ∙ fails))
  skip-step false one rest fails found left = ap (λ (others : NumberedPairs). cond (test one.1) (one ∷ others) others) (left found)

  -- where the pair doesn't pass, what passes stays
  pub gone-skipped : (pairs : NumberedPairs) → test pair ≡ false → lookup at pairs ≡ Some pair → filter (λ one. test one.1) (remove_entry at pairs) ≡ filter (λ one. test one.1) pairs
  gone-skipped [] fails found = absurd (cc)
  gone-skipped (one ∷ pairs) fails found = skip-step (at one.0) one pairs fails found (gone-skipped pairs fails)

  keys-step : (b : Bool) (one : ℕ × LinkPair) (less rest : NumberedPairs) → at one.0 ≡ false → keys_of less ≡ remove_key at (keys_of rest) → keys_of (cond b (one ∷ less) less) ≡ remove_key at (keys_of (cond b (one ∷ rest) rest))
  keys-step true one less rest elsewhere same = ap (λ (numbers : List ℕ). one.0 ∷ numbers) same ∙ sym (ap (λ (b : Bool). cond b (keys_of rest) (one.0 ∷ remove_key at (keys_of rest))) elsewhere)
  keys-step false one less rest elsewhere same = same

  take-step : (here : Bool) (one : ℕ × LinkPair) (rest : NumberedPairs) → at one.0 ≡ here → test pair ≡ true → cond here (Some one.1) (lookup at rest) ≡ Some pair → (lookup at rest ≡ Some pair → keys_of (filter (λ x. test x.1) (remove_entry at rest)) ≡ remove_key at (keys_of (filter (λ x. test x.1) rest))) → keys_of (filter (λ x. test x.1) (cond here rest (one ∷ remove_entry at rest))) ≡ remove_key at (keys_of (cond (test one.1) (one ∷ filter (λ x. test x.1) rest) (filter (λ x. test x.1) rest)))
  take-step true one rest is found_at found left =
      let others = filter (λ (x : ℕ × LinkPair). test x.1) rest in
      sym (ap (λ (b : Bool). remove_key at (keys_of (cond b (one ∷ others) others))) (ap test (some-same one.1 pair found) ∙ found_at) ∙ ap (λ (b : Bool). cond b (keys_of others) (one.0 ∷ remove_key at (keys_of others))) is)
  take-step false one rest is found_at found left = keys-step (test one.1) one (filter (λ x. test x.1) (remove_entry at rest)) (filter (λ x. test x.1) rest) is (left found)

  -- where the pair passes, its number goes
  pub gone-taken : (pairs : NumberedPairs) → test pair ≡ true → lookup at pairs ≡ Some pair → keys_of (filter (λ one. test one.1) (remove_entry at pairs)) ≡ remove_key at (keys_of (filter (λ one. test one.1) pairs))
  gone-taken [] found_at found = absurd (cc)
  gone-taken (one ∷ pairs) found_at found = take-step (at one.0) one pairs refl found_at found (gone-taken pairs found_at)

module _ (first : Bool) (number : ℕ) (pair : LinkPair) (pairs : NumberedPairs) (found : pair_at pairs number ≡ Some pair) where
  less-step : (link : ℕ) (id : RowId) (b : Bool) → is_of link first id pair ≡ b → cond b (remove_key (is_at (nat_cmp number)) (numbers_of link first id pairs)) (numbers_of link first id pairs) ≡ numbers_of link first id (remove_entry (is_at (nat_cmp number)) pairs)
  less-step link id true is = sym (gone-taken (is_at (nat_cmp number)) (is_of link first id) pair pairs is found)
  less-step link id false is = sym (ap keys_of (gone-skipped (is_at (nat_cmp number)) (is_of link first id) pair pairs is found))

  -- an index that gave back the number of a pair tells of the others
  pub tells-less : (old new : ℕ → List ℕ → List ℕ) → TellsNumbers first old pairs → HasOneLess pair.link (side first pair) number old new → TellsNumbers first new (remove_entry (is_at (nat_cmp number)) pairs)
  tells-less old new tells less = λ link id.
      less link id.0
      ∙ ap (λ (numbers : List ℕ). cond (is_of link first id pair) (remove_key (is_at (nat_cmp number)) numbers) numbers) (tells link id)
      ∙ less-step link id (is_of link first id pair) refl

below-cond : (b : Bool) (bound : ℕ) (pair : ℕ × LinkPair) (rest less : NumberedPairs) → pair.0 < bound → IsBelow bound rest → IsBelow bound less → IsBelow bound (cond b rest (pair ∷ less))
below-cond true bound pair rest less lower below left = below
below-cond false bound pair rest less lower below left = (lower, left)

pub below-less : (at : ℕ → Bool) (bound : ℕ) (pairs : NumberedPairs) → IsBelow bound pairs → IsBelow bound (remove_entry at pairs)
below-less at bound [] below = tt
below-less at bound (pair ∷ pairs) below = below-cond (at pair.0) bound pair pairs (remove_entry at pairs) below.0 below.1 (below-less at bound pairs below.1)

kept-cond : (b : Bool) (bound : ℕ) (pair : ℕ × LinkPair) (rest : NumberedPairs) → pair.0 < bound → IsBelow bound rest → IsBelow bound (cond b (pair ∷ rest) rest)
kept-cond true bound pair rest lower below = (lower, below)
kept-cond false bound pair rest lower below = below

pub below-kept : (test : ℕ × LinkPair → Bool) (bound : ℕ) (pairs : NumberedPairs) → IsBelow bound pairs → IsBelow bound (filter test pairs)
below-kept test bound [] below = tt
below-kept test bound (pair ∷ pairs) below = kept-cond (test pair) bound pair (filter test pairs) below.0 (below-kept test bound pairs below.1)

-- ---- without one pair

both : (one other : Bool) → (one && other) ≡ true → (one ≡ true) × (other ≡ true)
both true other h = (refl, h)
both false other h = absurd (true≢false (sym h))

-- what is the same as a pair is the same as any pair that is the same
pub same-pair : (link : ℕ) (first second : RowId) (one other : LinkPair) → is_pair link first second one ≡ true → is_pair link first second other ≡ is_pair one.link one.first one.second other
same-pair link first second one other is =
    let parts = both (one.link == link) (bytes_eq one.first.0 first.0 && bytes_eq one.second.0 second.0) is in
    let sides = both (bytes_eq one.first.0 first.0) (bytes_eq one.second.0 second.0) parts.1 in
    let links : one.link ≡ link = eqb-true one.link link parts.0 in
    let firsts : one.first.0 ≡ first.0 = (bytes_eq-Decides one.first.0 first.0).0 sides.0 in
    let seconds : one.second.0 ≡ second.0 = (bytes_eq-Decides one.second.0 second.0).0 sides.1 in
    cc

filter-none : (test : LinkPair → Bool) (pairs : List LinkPair) → list_any test pairs ≡ false → filter (λ pair. not (test pair)) pairs ≡ pairs
filter-none test [] none = refl
filter-none test (pair ∷ pairs) none =
    let parts = neither (test pair) (list_any test pairs) none in
    let others = filter (λ (one : LinkPair). not (test one)) pairs in
    ap (λ (b : Bool). cond (not b) (pair ∷ others) others) parts.0 ∙ ap (λ (rest : List LinkPair). pair ∷ rest) (filter-none test pairs parts.1)

any-step : (here : Bool) (test : LinkPair → Bool) (one : LinkPair) (pair : LinkPair) (found : Option LinkPair) (rest : List LinkPair) → cond here (Some one) found ≡ Some pair → test pair ≡ true → (found ≡ Some pair → list_any test rest ≡ true) → (test one || list_any test rest) ≡ true
any-step true test one pair found rest is passes left = ap (λ (b : Bool). b || list_any test rest) (ap test (some-same one pair is) ∙ passes)
any-step false test one pair found rest is passes left = ap (λ (b : Bool). test one || b) (left is) ∙ or-true (test one)

any-found : (at : ℕ → Bool) (test : LinkPair → Bool) (pair : LinkPair) (pairs : NumberedPairs) → lookup at pairs ≡ Some pair → test pair ≡ true → list_any test (values_of pairs) ≡ true
any-found at test pair [] found passes = absurd (cc)
any-found at test pair (one ∷ pairs) found passes = any-step (at one.0) test one.1 pair (lookup at pairs) (values_of pairs) found passes (λ there. any-found at test pair pairs there passes)

module _ (at : ℕ → Bool) (link : ℕ) (first second : RowId) (pair : LinkPair) (is_it : is_pair link first second pair ≡ true) where
  none-again : (one : LinkPair) (rest : List LinkPair) → has_pair rest one.link one.first one.second ≡ false → is_pair link first second one ≡ true → list_any (is_pair link first second) rest ≡ false
  none-again one rest new is = any-agree (is_pair link first second) (is_pair one.link one.first one.second) (λ other. same-pair link first second one other is) rest ∙ new

  one-step : (here b : Bool) (one : ℕ × LinkPair) (rest : NumberedPairs) → is_pair link first second one.1 ≡ b → has_pair (values_of rest) one.1.link one.1.first one.1.second ≡ false → cond here (Some one.1) (lookup at rest) ≡ Some pair → (lookup at rest ≡ Some pair → values_of (remove_entry at rest) ≡ without_pair (values_of rest) link first second) → values_of (cond here rest (one ∷ remove_entry at rest)) ≡ cond (not b) (one.1 ∷ without_pair (values_of rest) link first second) (without_pair (values_of rest) link first second)
  one-step true true one rest is new found left = sym (filter-none (is_pair link first second) (values_of rest) (none-again one.1 (values_of rest) new is))
  one-step true false one rest is new found left = absurd (true≢false (sym is_it ∙ sym (ap (is_pair link first second) (some-same one.1 pair found)) ∙ is))
  one-step false true one rest is new found left = absurd (true≢false (sym (any-found at (is_pair link first second) pair rest found is_it) ∙ none-again one.1 (values_of rest) new is))
  one-step false false one rest is new found left = ap (λ (values : List LinkPair). one.1 ∷ values) (left found)

  -- where no pair stands twice, the one that was found is all that goes
  pub gone-one : (pairs : NumberedPairs) → IsWithoutRepeats (values_of pairs) → lookup at pairs ≡ Some pair → values_of (remove_entry at pairs) ≡ without_pair (values_of pairs) link first second
  gone-one [] once found = absurd (cc)
  gone-one (one ∷ pairs) once found = one-step (at one.0) (is_pair link first second one.1) one pairs refl once.0 found (gone-one pairs once.1)

-- what passes is a pair
pub what-passes : (test : LinkPair → Bool) (found : Option LinkPair) → passes test found ≡ true → (pair : LinkPair) × (found ≡ Some pair) × (test pair ≡ true)
what-passes test None is = absurd (true≢false (sym is))
what-passes test (Some pair) is = (pair, refl, is)

-- ---- without the pairs of a row

gone-other : (test : LinkPair → Bool) (at : ℕ → Bool) (pair : LinkPair) (pairs : NumberedPairs) → test pair ≡ true → lookup at pairs ≡ Some pair → filter (λ one. not (test one)) (values_of (remove_entry at pairs)) ≡ filter (λ one. not (test one)) (values_of pairs)
gone-other test at pair pairs is found =
    let other = λ (one : LinkPair). not (test one) in
    sym (values-kept other (remove_entry at pairs)) ∙ ap values_of (gone-skipped at other pair pairs (ap not is) found) ∙ values-kept other pairs

-- a pair of the row was dropped
pub gone-of-row : (link : ℕ) (first : Bool) (id : RowId) (number : ℕ) (pairs : NumberedPairs) → passes (is_of link first id) (pair_at pairs number) ≡ true → without_row link first id (values_of (remove_entry (is_at (nat_cmp number)) pairs)) ≡ without_row link first id (values_of pairs)
gone-of-row link first id number pairs is =
    let found = what-passes (is_of link first id) (pair_at pairs number) is in
    gone-other (is_of link first id) (is_at (nat_cmp number)) found.0 pairs found.2 found.1

shorter-step : (here : Bool) (one : ℕ × LinkPair) (rest less : NumberedPairs) (pair : LinkPair) (found : Option LinkPair) → cond here (Some one.1) found ≡ Some pair → (found ≡ Some pair → length less < length rest) → length (cond here rest (one ∷ less)) < length (one ∷ rest)
shorter-step true one rest less pair found is left = omega arith
shorter-step false one rest less pair found is left = let shorter : length less < length rest = left is in omega arith

gone-shorter : (at : ℕ → Bool) (pair : LinkPair) (pairs : NumberedPairs) → lookup at pairs ≡ Some pair → length (remove_entry at pairs) < length pairs
gone-shorter at pair [] found = absurd (cc)
gone-shorter at pair (one ∷ pairs) found = shorter-step (at one.0) one pairs (remove_entry at pairs) pair (lookup at pairs) found (gone-shorter at pair pairs)

-- and there is one pair less
pub row-shorter : (test : LinkPair → Bool) (number : ℕ) (pairs : NumberedPairs) → passes test (pair_at pairs number) ≡ true → length (remove_entry (is_at (nat_cmp number)) pairs) < length pairs
row-shorter test number pairs is =
    let found = what-passes test (pair_at pairs number) is in
    gone-shorter (is_at (nat_cmp number)) found.0 pairs found.1

empty-step : (b : Bool) (one : ℕ × LinkPair) (rest : NumberedPairs) (others values : List LinkPair) → keys_of (cond b (one ∷ rest) rest) ≡ [] → (keys_of rest ≡ [] → others ≡ values) → cond (not b) (one.1 ∷ others) others ≡ one.1 ∷ values
empty-step true one rest others values none left = absurd (cc)
empty-step false one rest others values none left = ap (λ (pairs : List LinkPair). one.1 ∷ pairs) (left none)

-- where a row has no numbers, it has no pairs
pub row-gone : (link : ℕ) (first : Bool) (id : RowId) (pairs : NumberedPairs) → numbers_of link first id pairs ≡ [] → without_row link first id (values_of pairs) ≡ values_of pairs
row-gone link first id [] none = refl
row-gone link first id (one ∷ pairs) none = empty-step (is_of link first id one.1) one (filter (λ (x : ℕ × LinkPair). is_of link first id x.1) pairs) (without_row link first id (values_of pairs)) (values_of pairs) none (row-gone link first id pairs)

-- ---- without the pairs of a link

module _ (link : ℕ) (first : Bool) (id : RowId) where
  no-step : (b : Bool) (one : ℕ × LinkPair) (rest : NumberedPairs) → (one.1.link == link) ≡ b → numbers_of link first id rest ≡ [] → numbers_of link first id (cond (not b) (one ∷ rest) rest) ≡ []
  no-step true one rest is none = none
  no-step false one rest is none =
      let others = filter (λ (x : ℕ × LinkPair). is_of link first id x.1) rest in
      ap (λ (b : Bool). keys_of (cond (b && bytes_eq (side first one.1).0 id.0) (one ∷ others) others)) is ∙ none

  no-numbers : (pairs : NumberedPairs) → numbers_of link first id (filter (λ one. is_of_other_link link one.1) pairs) ≡ []
  no-numbers [] = refl
  no-numbers (one ∷ pairs) = no-step (one.1.link == link) one (filter (λ x. is_of_other_link link x.1) pairs) refl (no-numbers pairs)

  keys-both : (b : Bool) (one : ℕ × LinkPair) (less rest : NumberedPairs) → keys_of less ≡ keys_of rest → keys_of (cond b (one ∷ less) less) ≡ keys_of (cond b (one ∷ rest) rest)
  keys-both true one less rest same = ap (λ (numbers : List ℕ). one.0 ∷ numbers) same
  keys-both false one less rest same = same

  module _ (other : ℕ) (apart : (other == link) ≡ false) where
    other-step : (b : Bool) (one : ℕ × LinkPair) (less rest : NumberedPairs) → (one.1.link == other) ≡ b → numbers_of link first id less ≡ numbers_of link first id rest → numbers_of link first id (cond (not b) (one ∷ less) less) ≡ numbers_of link first id (one ∷ rest)
    other-step true one less rest is same =
        let others = filter (λ (x : ℕ × LinkPair). is_of link first id x.1) rest in
        same ∙ sym (ap (λ (b : Bool). keys_of (cond (b && bytes_eq (side first one.1).0 id.0) (one ∷ others) others)) (ap (λ (l : ℕ). l == link) (eqb-true one.1.link other is) ∙ apart))
    other-step false one less rest is same = keys-both (is_of link first id one.1) one (filter (λ (x : ℕ × LinkPair). is_of link first id x.1) less) (filter (λ (x : ℕ × LinkPair). is_of link first id x.1) rest) same

    other-numbers : (pairs : NumberedPairs) → numbers_of link first id (filter (λ one. is_of_other_link other one.1) pairs) ≡ numbers_of link first id pairs
    other-numbers [] = refl
    other-numbers (one ∷ pairs) = other-step (one.1.link == other) one (filter (λ x. is_of_other_link other x.1) pairs) pairs refl (other-numbers pairs)

  link-step : (other : ℕ) (b : Bool) (pairs : NumberedPairs) → (other == link) ≡ b → cond b [] (numbers_of link first id pairs) ≡ numbers_of link first id (filter (λ one. is_of_other_link other one.1) pairs)
  link-step other true pairs is = sym (ap (λ (l : ℕ). numbers_of link first id (filter (λ (one : ℕ × LinkPair). is_of_other_link l one.1) pairs)) (eqb-true other link is) ∙ no-numbers pairs)
  link-step other false pairs is = sym (other-numbers other is pairs)

-- an index without the numbers of a link tells of the pairs of the others
pub tells-without-link : (first : Bool) (link : ℕ) (pairs : NumberedPairs) (old new : ℕ → List ℕ → List ℕ) → TellsNumbers first old pairs → ((other : ℕ) (id : List ℕ) → new other id ≡ cond (link == other) [] (old other id)) → TellsNumbers first new (filter (λ one. is_of_other_link link one.1) pairs)
tells-without-link first link pairs old new tells after = λ other id.
    after other id.0
    ∙ ap (λ (numbers : List ℕ). cond (link == other) [] numbers) (tells other id)
    ∙ link-step other first id link (link == other) pairs refl

-- ---- with the number of a pair

-- a number leads to a pair that is there
pub has-numbered : (link : ℕ) (first second : RowId) (number : ℕ) (pairs : NumberedPairs) → passes (is_pair link first second) (pair_at pairs number) ≡ true → has_pair (values_of pairs) link first second ≡ true
has-numbered link first second number pairs is =
    let found = what-passes (is_pair link first second) (pair_at pairs number) is in
    any-found (is_at (nat_cmp number)) (is_pair link first second) found.0 pairs found.1 found.2

-- a pair is there exactly where it has a number
pub has-number : (link : ℕ) (first second : RowId) (pairs : NumberedPairs) (found : Option ℕ) → IfNone found (has_pair (values_of pairs) link first second ≡ false) → IfSome found (λ number. passes (is_pair link first second) (pair_at pairs number) ≡ true) → is_some found ≡ has_pair (values_of pairs) link first second
has-number link first second pairs None none some = sym none
has-number link first second pairs (Some number) none some = sym (has-numbered link first second number pairs some)

-- without the pair of its number a pair isn't there
pub gone-numbered : (link : ℕ) (first second : RowId) (number : ℕ) (pairs : NumberedPairs) → IsWithoutRepeats (values_of pairs) → passes (is_pair link first second) (pair_at pairs number) ≡ true → values_of (remove_entry (is_at (nat_cmp number)) pairs) ≡ without_pair (values_of pairs) link first second
gone-numbered link first second number pairs once is =
    let found = what-passes (is_pair link first second) (pair_at pairs number) is in
    gone-one (is_at (nat_cmp number)) link first second found.0 found.2 pairs once found.1
