-- That no pair stands twice, after changes.
use Rattle.std.proofs.Common.{◌≡◌, List, [], ◌∷◌, ◌++◌, filter, Bool, true, false, ◌||◌, cond, true≢false, refl, ◌∙◌, arith}
use Rattle.std.specs.List.{list_any}
use Rattle.std.specs.Cmp.Lexicographic.{nat_list_eq_equiv}
use Rattle.std.proofs.lemmas.Bool.Decides.{nat_tests}
use Rattle.sea_links.specs.declared.pair.LinkPair.{LinkPair}
use Rattle.sea_links.specs.Pairs.{is_pair, has_pair, IsWithoutRepeats}

-- where neither of two holds
pub neither : (one other : Bool) → (one || other) ≡ false → (one ≡ false) × (other ≡ false)
neither true other h = absurd (true≢false h)
neither false other h = (refl, h)

-- one element more or less at the front
any-cond : (kept : Bool) (test : LinkPair → Bool) (pair : LinkPair) (pairs : List LinkPair) → test pair ≡ false → list_any test pairs ≡ false → list_any test (cond kept (pair ∷ pairs) pairs) ≡ false
any-cond true test pair pairs not_it none = rw (not_it, none) refl
any-cond false test pair pairs not_it none = none

-- what no pair passes, none that is kept passes
pub any-filter : (test kept : LinkPair → Bool) (pairs : List LinkPair) → list_any test pairs ≡ false → list_any test (filter kept pairs) ≡ false
any-filter test kept [] h = refl
any-filter test kept (pair ∷ pairs) h =
    let both = neither (test pair) (list_any test pairs) h in
    any-cond (kept pair) test pair (filter kept pairs) both.0 (any-filter test kept pairs both.1)

repeats-cond : (kept : Bool) (pair : LinkPair) (pairs : List LinkPair) → has_pair pairs pair.link pair.first pair.second ≡ false → IsWithoutRepeats pairs → IsWithoutRepeats (cond kept (pair ∷ pairs) pairs)
repeats-cond true pair pairs new once = (new, once)
repeats-cond false pair pairs new once = once

-- of pairs that don't repeat, those that are kept don't
pub repeats-filter : (kept : LinkPair → Bool) (pairs : List LinkPair) → IsWithoutRepeats pairs → IsWithoutRepeats (filter kept pairs)
repeats-filter kept [] h = tt
repeats-filter kept (pair ∷ pairs) h = repeats-cond (kept pair) pair (filter kept pairs) (any-filter (is_pair pair.link pair.first pair.second) kept pairs h.0) (repeats-filter kept pairs h.1)

-- the same link and rows, told the other way round
pair_symmetric : (one other : LinkPair) → is_pair one.link one.first one.second other ≡ is_pair other.link other.first other.second one
pair_symmetric one other = grind (arith, nat_tests, nat_list_eq_equiv.symm one.first.0 other.first.0, nat_list_eq_equiv.symm one.second.0 other.second.0)

any-push : (test : LinkPair → Bool) (pairs : List LinkPair) (pair : LinkPair) → list_any test pairs ≡ false → test pair ≡ false → list_any test (pairs ++ pair ∷ []) ≡ false
any-push test [] pair none not_it = rw not_it refl
any-push test (first ∷ pairs) pair none not_it =
    let both = neither (test first) (list_any test pairs) none in
    rw (both.0, any-push test pairs pair both.1 not_it) refl

-- a pair that is new comes at the end
pub repeats-push : (pairs : List LinkPair) (pair : LinkPair) → has_pair pairs pair.link pair.first pair.second ≡ false → IsWithoutRepeats pairs → IsWithoutRepeats (pairs ++ pair ∷ [])
repeats-push [] pair new once = (refl, tt)
repeats-push (first ∷ pairs) pair new once =
    let both = neither (is_pair pair.link pair.first pair.second first) (has_pair pairs pair.link pair.first pair.second) new in
    (any-push (is_pair first.link first.first first.second) pairs pair once.0 (pair_symmetric first pair ∙ both.0), repeats-push pairs pair both.1 once.1)
