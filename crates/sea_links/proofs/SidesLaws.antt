-- What is there after a change, and what both sides of a link tell.
use Rattle.std.proofs.Common.{◌≡◌, ℕ, List, [], ◌∷◌, ◌++◌, map, filter, Bool, true, false, not, ◌||◌, ◌&&◌, cond, refl, ap, ◌∙◌, arith}
use Rattle.std.specs.Prelude.{◌==◌}
use Rattle.std.specs.List.{list_any}
use Rattle.std.specs.Str.{bytes_eq}
use Rattle.std.specs.Cmp.Lexicographic.{nat_list_eq_equiv}
use Rattle.std.proofs.lemmas.Bool.Decides.{nat_tests}
use Rattle.sea_cell.specs.declared.keys.RowId.{RowId}
use Rattle.sea_links.specs.declared.pair.LinkPair.{LinkPair}
use Rattle.sea_links.specs.Pairs.{is_pair, is_of, side, has_pair, is_id_among, others_of, with_pair, without_pair}

pub or-true : (b : Bool) → (b || true) ≡ true
or-true true = refl
or-true false = refl

any-last : {X : Type 0} (test : X → Bool) (xs : List X) (x : X) → test x ≡ true → list_any test (xs ++ x ∷ []) ≡ true
any-last test [] x passes = rw passes refl
any-last test (y ∷ xs) x passes = ap (λ rest. test y || rest) (any-last test xs x passes) ∙ or-true (test y)

-- a pair is itself
is_itself : (link : ℕ) (first second : RowId) → is_pair link first second (record { link = link; first = first; second = second }) ≡ true
is_itself link first second = grind (arith, nat_tests, nat_list_eq_equiv.refl first.0, nat_list_eq_equiv.refl second.0)

-- a pair that was added is there
pub has-added : (pairs : List LinkPair) (link : ℕ) (first second : RowId) → has_pair (with_pair pairs link first second) link first second ≡ true
has-added pairs link first second = any-last (is_pair link first second) pairs _ (is_itself link first second)

none-cond : {X : Type 0} (test : X → Bool) (x : X) (xs : List X) (b : Bool) → test x ≡ b → list_any test xs ≡ false → list_any test (cond (not b) (x ∷ xs) xs) ≡ false
none-cond test x xs true passes none = none
none-cond test x xs false passes none = rw (passes, none) refl

none-left : {X : Type 0} (test : X → Bool) (xs : List X) → list_any test (filter (λ x. not (test x)) xs) ≡ false
none-left test [] = refl
none-left test (x ∷ xs) = none-cond test x (filter (λ y. not (test y)) xs) (test x) refl (none-left test xs)

-- a pair that was removed isn't there
pub has-removed : (pairs : List LinkPair) (link : ℕ) (first second : RowId) → has_pair (without_pair pairs link first second) link first second ≡ false
has-removed pairs link first second = none-left (is_pair link first second) pairs

any-step : {X Y : Type 0} (kept : Bool) (f : X → Y) (test : Y → Bool) (x : X) (xs : List X) (rest : Bool) → list_any test (map f xs) ≡ rest → list_any test (map f (cond kept (x ∷ xs) xs)) ≡ ((kept && test (f x)) || rest)
any-step true f test x xs rest h = ap (λ b. test (f x) || b) h
any-step false f test x xs rest h = h

-- what passes among the images of what is kept
any-images : {X Y : Type 0} (kept : X → Bool) (f : X → Y) (test : Y → Bool) (xs : List X) → list_any test (map f (filter kept xs)) ≡ list_any (λ x. kept x && test (f x)) xs
any-images kept f test [] = refl
any-images kept f test (x ∷ xs) = any-step (kept x) f test x (filter kept xs) (list_any (λ y. kept y && test (f y)) xs) (any-images kept f test xs)

pub any-agree : {X : Type 0} (p q : X → Bool) → ((x : X) → p x ≡ q x) → (xs : List X) → list_any p xs ≡ list_any q xs
any-agree p q same [] = refl
any-agree p q same (x ∷ xs) = ap (λ b. b || list_any p xs) (same x) ∙ ap (λ rest. q x || rest) (any-agree p q same xs)

and-first : (x y z : Bool) → ((x && y) && z) ≡ (x && (y && z))
and-first true y z = refl
and-first false y z = refl

and-second : (x y z : Bool) → ((x && z) && y) ≡ (x && (y && z))
and-second true true true = refl
and-second true true false = refl
and-second true false true = refl
and-second true false false = refl
and-second false y z = refl

-- a link joins two rows exactly where the other one is among those of the first
pub told-from-first : (pairs : List LinkPair) (link : ℕ) (first second : RowId) → is_id_among (others_of link true first pairs) second ≡ has_pair pairs link first second
told-from-first pairs link first second =
    any-images (is_of link true first) (side false) (λ one. bytes_eq one.0 second.0) pairs
    ∙ any-agree _ (is_pair link first second) (λ pair. and-first (pair.link == link) (bytes_eq pair.first.0 first.0) (bytes_eq pair.second.0 second.0)) pairs

-- and exactly where the first one is among those of the other
pub told-from-second : (pairs : List LinkPair) (link : ℕ) (first second : RowId) → is_id_among (others_of link false second pairs) first ≡ has_pair pairs link first second
told-from-second pairs link first second =
    any-images (is_of link false second) (side true) (λ one. bytes_eq one.0 first.0) pairs
    ∙ any-agree _ (is_pair link first second) (λ pair. and-second (pair.link == link) (bytes_eq pair.first.0 first.0) (bytes_eq pair.second.0 second.0)) pairs
