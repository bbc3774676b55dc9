-- What an index tells after a pair was put at the end or taken out.
use Rattle.std.proofs.Common.{◌≡◌, ◌+◌, ◌<◌, ℕ, List, [], ◌∷◌, ◌++◌, filter, Bool, true, false, ◌&&◌, cond, Ordering, Greater, refl, sym, ap, ◌∙◌, arith, append-nil}
use Rattle.std.specs.Prelude.{◌==◌}
use Rattle.std.specs.BTreeMap.{is_at, insert_entry}
use Rattle.std.specs.BTreeSet.{insert_key}
use Rattle.std.specs.Cmp.{nat_cmp_is}
use Rattle.std.specs.Map.{keys_of}
use Rattle.std.specs.Ordering.{nat_cmp, match_ordering}
use Rattle.std.specs.Set.{remove_key}
use Rattle.std.specs.Str.{bytes_eq}
use Rattle.std.proofs.lemmas.Bool.Decides.{nat_tests}
use Rattle.std.proofs.lemmas.List.{map-append}
use Rattle.std.proofs.lemmas.List.Elements.{filter-append}
use Rattle.sea_cell.specs.declared.keys.RowId.{RowId}
use Rattle.sea_links.specs.declared.pair.LinkPair.{LinkPair}
use Rattle.sea_links.specs.Pairs.{side, is_of}
use Rattle.sea_links.specs.Index.{NumberedPairs, numbers_of, IsBelow, HasSameNumbers, HasOneMore, HasOneLess, TellsNumbers}

-- ---- at the end

-- numbers that don't reach a bound
abbrev pub AreBelow : ℕ → List ℕ → Type 0
AreBelow bound [] = Unit {0}
AreBelow bound (number ∷ numbers) = (number < bound) × AreBelow bound numbers

above : (number other : ℕ) → other < number → nat_cmp number other ≡ Greater
above number other lower = sym (nat_cmp_is number other Greater lower)

-- a query by a number finds that number
pub at-itself : (number : ℕ) → is_at (nat_cmp number) number ≡ true
at-itself number = grind (arith, nat_tests)

not-at : (number other : ℕ) → other < number → is_at (nat_cmp number) other ≡ false
not-at number other lower = grind (arith, nat_tests)

entry-at-end : (number : ℕ) (pair : LinkPair) (pairs : NumberedPairs) → IsBelow number pairs → insert_entry nat_cmp pairs number pair ≡ pairs ++ (number, pair) ∷ []
entry-at-end number pair [] below = refl
entry-at-end number pair (first ∷ pairs) below =
    ap (λ (o : Ordering). match_ordering o ((number, pair) ∷ first ∷ pairs) ((first.0, pair) ∷ pairs) (first ∷ insert_entry nat_cmp pairs number pair)) (above number first.0 below.0)
    ∙ ap (λ (rest : NumberedPairs). first ∷ rest) (entry-at-end number pair pairs below.1)

key-at-end : (number : ℕ) (numbers : List ℕ) → AreBelow number numbers → insert_key nat_cmp numbers number ≡ numbers ++ number ∷ []
key-at-end number [] below = refl
key-at-end number (first ∷ numbers) below =
    ap (λ (o : Ordering). match_ordering o (number ∷ first ∷ numbers) (first ∷ numbers) (first ∷ insert_key nat_cmp numbers number)) (above number first below.0)
    ∙ ap (λ (rest : List ℕ). first ∷ rest) (key-at-end number numbers below.1)

taken-at-end : (number : ℕ) (numbers : List ℕ) → AreBelow number numbers → remove_key (is_at (nat_cmp number)) (numbers ++ number ∷ []) ≡ numbers
taken-at-end number [] below = ap (λ (b : Bool). cond b [] (number ∷ [])) (at-itself number)
taken-at-end number (first ∷ numbers) below =
    ap (λ (b : Bool). cond b (numbers ++ number ∷ []) (first ∷ remove_key (is_at (nat_cmp number)) (numbers ++ number ∷ []))) (not-at number first below.0)
    ∙ ap (λ (rest : List ℕ). first ∷ rest) (taken-at-end number numbers below.1)

below-cond : (b : Bool) (bound : ℕ) (pair : ℕ × LinkPair) (rest : NumberedPairs) → pair.0 < bound → AreBelow bound (keys_of rest) → AreBelow bound (keys_of (cond b (pair ∷ rest) rest))
below-cond true bound pair rest lower below = (lower, below)
below-cond false bound pair rest lower below = below

below-filter : (test : ℕ × LinkPair → Bool) (bound : ℕ) (pairs : NumberedPairs) → IsBelow bound pairs → AreBelow bound (keys_of (filter test pairs))
below-filter test bound [] below = tt
below-filter test bound (pair ∷ pairs) below = below-cond (test pair) bound pair (filter test pairs) below.0 (below-filter test bound pairs below.1)

-- the numbers of a row's pairs don't reach the next number
pub numbers-below : (link : ℕ) (first : Bool) (id : RowId) (bound : ℕ) (pairs : NumberedPairs) → IsBelow bound pairs → AreBelow bound (numbers_of link first id pairs)
numbers-below link first id bound pairs below = below-filter (λ pair. is_of link first id pair.1) bound pairs below

-- one more pair, and the numbers stay below the one after
pub below-next : (number : ℕ) (pair : LinkPair) (pairs : NumberedPairs) → IsBelow number pairs → IsBelow (number + 1) (pairs ++ (number, pair) ∷ [])
below-next number pair [] below = (omega arith, tt)
below-next number pair (first ∷ pairs) below =
    let lower : first.0 < number = below.0 in
    (omega arith, below-next number pair pairs below.1)

last-cond : (b : Bool) (number : ℕ) (pair : LinkPair) → keys_of (cond b ((number, pair) ∷ []) []) ≡ cond b (number ∷ []) []
last-cond true number pair = refl
last-cond false number pair = refl

numbers-push : (link : ℕ) (first : Bool) (id : RowId) (number : ℕ) (pair : LinkPair) (pairs : NumberedPairs) → numbers_of link first id (pairs ++ (number, pair) ∷ []) ≡ numbers_of link first id pairs ++ cond (is_of link first id pair) (number ∷ []) []
numbers-push link first id number pair pairs =
    let test = λ (one : ℕ × LinkPair). is_of link first id one.1 in
    ap keys_of (filter-append test pairs ((number, pair) ∷ []))
    ∙ map-append (λ (one : ℕ × LinkPair). one.0) (filter test pairs) (cond (is_of link first id pair) ((number, pair) ∷ []) [])
    ∙ ap (λ (rest : List ℕ). keys_of (filter test pairs) ++ rest) (last-cond (is_of link first id pair) number pair)

more-cond : (b : Bool) (number : ℕ) (numbers : List ℕ) → AreBelow number numbers → cond b (insert_key nat_cmp numbers number) numbers ≡ numbers ++ cond b (number ∷ []) []
more-cond true number numbers below = key-at-end number numbers below
more-cond false number numbers below = sym (append-nil numbers)

-- an index that took the number of a pair tells of it
pub tells-more : (first : Bool) (number : ℕ) (pair : LinkPair) (pairs : NumberedPairs) (old new : ℕ → List ℕ → List ℕ) → IsBelow number pairs → TellsNumbers first old pairs → HasOneMore pair.link (side first pair) number old new → TellsNumbers first new (pairs ++ (number, pair) ∷ [])
tells-more first number pair pairs old new below tells more = λ link id.
    more link id.0
    ∙ ap (λ (numbers : List ℕ). cond (is_of link first id pair) (insert_key nat_cmp numbers number) numbers) (tells link id)
    ∙ more-cond (is_of link first id pair) number (numbers_of link first id pairs) (numbers-below link first id number pairs below)
    ∙ sym (numbers-push link first id number pair pairs)

undo-cond : (b : Bool) (number : ℕ) (numbers : List ℕ) → AreBelow number numbers → cond b (remove_key (is_at (nat_cmp number)) (cond b (insert_key nat_cmp numbers number) numbers)) (cond b (insert_key nat_cmp numbers number) numbers) ≡ numbers
undo-cond true number numbers below = ap (remove_key (is_at (nat_cmp number))) (key-at-end number numbers below) ∙ taken-at-end number numbers below
undo-cond false number numbers below = refl

-- an index that took a number and gave it back tells what it told
pub tells-again : (first : Bool) (number link : ℕ) (row : RowId) (pairs : NumberedPairs) (old new last : ℕ → List ℕ → List ℕ) → IsBelow number pairs → TellsNumbers first old pairs → HasOneMore link row number old new → HasOneLess link row number new last → TellsNumbers first last pairs
tells-again first number link row pairs old new last below tells more less = λ other id.
    let same = (link == other) && bytes_eq row.0 id.0 in
    let numbers = numbers_of other first id pairs in
    less other id.0
    ∙ ap (λ (kept : List ℕ). cond same (remove_key (is_at (nat_cmp number)) kept) kept) (more other id.0 ∙ ap (λ (kept : List ℕ). cond same (insert_key nat_cmp kept number) kept) (tells other id))
    ∙ undo-cond same number numbers (numbers-below other first id number pairs below)

pub tells-same : (first : Bool) (pairs : NumberedPairs) (old new : ℕ → List ℕ → List ℕ) → TellsNumbers first old pairs → HasSameNumbers old new → TellsNumbers first new pairs
tells-same first pairs old new tells same = λ link id. same link id.0 ∙ tells link id

-- ---- the same pairs

pub tells-of : (first : Bool) (numbers : ℕ → List ℕ → List ℕ) (pairs others : NumberedPairs) → others ≡ pairs → TellsNumbers first numbers pairs → TellsNumbers first numbers others
tells-of first numbers pairs others same tells = λ link id. tells link id ∙ ap (numbers_of link first id) (sym same)

pub below-of : (bound reached : ℕ) (pairs others : NumberedPairs) → reached ≡ bound → others ≡ pairs → IsBelow bound pairs → IsBelow reached others
below-of bound reached pairs others is same below = rw (is, same) below

-- what was put under the next number stands at the end
pub put-at-end : (number link : ℕ) (first second one other : RowId) (pairs put : NumberedPairs) → IsBelow number pairs → one ≡ first → other ≡ second → put ≡ insert_entry nat_cmp pairs number (record { link = link; first = one; second = other }) → put ≡ pairs ++ (number, record { link = link; first = first; second = second }) ∷ []
put-at-end number link first second one other pairs put below firsts seconds is =
    is
    ∙ ap (λ (row : RowId). insert_entry nat_cmp pairs number (record { link = link; first = row; second = other })) firsts
    ∙ ap (λ (row : RowId). insert_entry nat_cmp pairs number (record { link = link; first = first; second = row })) seconds
    ∙ entry-at-end number (record { link = link; first = first; second = second }) pairs below
