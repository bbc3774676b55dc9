-- The numbers of rows, after a change of an index.
use Rattle.std.proofs.Common.{◌≡◌, ℕ, List, [], ◌∷◌, length, Bool, true, false, cond, Option, Some, None, String, refl, sym, ap, ◌∙◌, arith}
use Rattle.std.specs.Prelude.{◌==◌}
use Rattle.std.specs.Bool.{Decides}
use Rattle.std.specs.BTreeMap.{BTreeMap, get, get_by_text, is_at}
use Rattle.std.specs.BTreeSet.{BTreeSet}
use Rattle.std.specs.Ordering.{nat_cmp}
use Rattle.std.specs.Str.{bytes_eq}
use Rattle.std.proofs.lemmas.Bool.Decides.{nat_tests}
use Rattle.std.proofs.lemmas.Slice.Eq.{bytes_eq-Decides}
use Rattle.sea_links.specs.Index.{keys_in, numbers_under, numbers_in, numbers_at}

module _ {Y : Type 0} where
  row-step : (old : BTreeMap (String Y) (BTreeSet ℕ)) (id other : List ℕ) (numbers : BTreeSet ℕ) (change : List ℕ → List ℕ) → numbers.keys ≡ change (numbers_under old id) → (b : Bool) → Decides b (id ≡ other) → keys_in (cond b (Some numbers) (get_by_text old other)) ≡ cond b (change (numbers_under old other)) (numbers_under old other)
  row-step old id other numbers change are true same = are ∙ ap (λ (bytes : List ℕ). change (numbers_under old bytes)) (same.0 refl)
  row-step old id other numbers change are false same = refl

  -- the numbers of each row, after those of one were changed
  pub row-written : (old new : BTreeMap (String Y) (BTreeSet ℕ)) (id : List ℕ) (numbers : BTreeSet ℕ) (change : List ℕ → List ℕ) → ((other : List ℕ) → get_by_text new other ≡ cond (bytes_eq id other) (Some numbers) (get_by_text old other)) → numbers.keys ≡ change (numbers_under old id) → (other : List ℕ) → numbers_under new other ≡ cond (bytes_eq id other) (change (numbers_under old other)) (numbers_under old other)
  row-written old new id numbers change after are other = ap keys_in (after other) ∙ row-step old id other numbers change are (bytes_eq id other) (bytes_eq-Decides id other)

  none-step : (old : BTreeMap (String Y) (BTreeSet ℕ)) (id other : List ℕ) → numbers_under old id ≡ [] → (b : Bool) → Decides b (id ≡ other) → keys_in (cond b None (get_by_text old other)) ≡ numbers_under old other
  none-step old id other none true same = sym none ∙ ap (numbers_under old) (same.0 refl)
  none-step old id other none false same = refl

  -- the numbers of each row, after a row without numbers was dropped
  pub row-dropped : (old new : BTreeMap (String Y) (BTreeSet ℕ)) (id : List ℕ) → ((other : List ℕ) → get_by_text new other ≡ cond (bytes_eq id other) None (get_by_text old other)) → numbers_under old id ≡ [] → (other : List ℕ) → numbers_under new other ≡ numbers_under old other
  row-dropped old new id after none other = ap keys_in (after other) ∙ none-step old id other none (bytes_eq id other) (bytes_eq-Decides id other)

pub cond-same : {X : Type 0} (b : Bool) (x : X) → cond b x x ≡ x
cond-same true x = refl
cond-same false x = refl

pub no-elements : {X : Type 0} (xs : List X) → length xs ≡ 0 → xs ≡ []
no-elements [] h = refl
no-elements (x ∷ xs) h = absurd (omega arith)

-- a query by a number is equal to that number alone
pub at-number : (number other : ℕ) → is_at (nat_cmp number) other ≡ (number == other)
at-number number other = grind (arith, nat_tests)

without-step : {Y : Type 0} (b : Bool) (found : Option (BTreeMap (String Y) (BTreeSet ℕ))) (id : List ℕ) → numbers_in (cond b None found) id ≡ cond b [] (numbers_in found id)
without-step true found id = refl
without-step false found id = refl

-- the numbers of each row, after those of a link were dropped
pub link-dropped : {Y : Type 0} (link : ℕ) (old new : BTreeMap ℕ (BTreeMap (String Y) (BTreeSet ℕ))) → ((other : ℕ) → get nat_cmp new other ≡ cond (is_at (nat_cmp link) other) None (get nat_cmp old other)) → (other : ℕ) (id : List ℕ) → numbers_at new other id ≡ cond (link == other) [] (numbers_at old other id)
link-dropped link old new after other id =
    ap (λ found. numbers_in found id) (after other ∙ ap (λ (b : Bool). cond b None (get nat_cmp old other)) (at-number link other))
    ∙ without-step (link == other) (get nat_cmp old other) id
