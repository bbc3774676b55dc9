-- Cells in byte order of their names are members as they stand.
use Rattle.std.proofs.Common.{◌≡◌, ℕ, List, [], ◌∷◌, Bool, true, false, ◌&&◌, Ordering, Less, Equal, Greater, zero, suc, ◌+◌, ◌<◌, length, drop, refl, ap, sym, ◌∙◌, arith}
use Rattle.std.specs.Cmp.Lexicographic.{slice_cmp}
use Rattle.std.specs.Ordering.{nat_cmp, match_ordering, ordering_reverse}
use Rattle.std.proofs.lemmas.Cmp.{nat_list_cmp_total}
use Rattle.serde_json.specs.Data.{Data, Members, no_members, member, put}
use Rattle.sea_operation.specs.declared.operation.NamedCell.{NamedCell}
use Rattle.sea_ops.specs.Texts.{json_of_word, with_cells}
use Rattle.sea_ops.specs.Straight.{is_before, begin_in_order, are_in_order, members_of}

-- each key comes before this one
abbrev AllBefore : Members → List ℕ → Type 0
AllBefore no_members key = Unit {0}
AllBefore (member one value members) key = (slice_cmp nat_cmp one key ≡ Less) × AllBefore members key

-- members and more behind them
abbrev join : Members → Members → Members
join no_members more = more
join (member key value members) more = member key value (join members more)

join_nothing : (members : Members) → join members no_members ≡ members
join_nothing no_members = refl
join_nothing (member key value members) = ap (member key value) (join_nothing members)

join_twice : (one other more : Members) → join (join one other) more ≡ join one (join other more)
join_twice no_members other more = refl
join_twice (member key value one) other more = ap (member key value) (join_twice one other more)

greater : (key one : List ℕ) → slice_cmp nat_cmp one key ≡ Less → slice_cmp nat_cmp key one ≡ Greater
greater key one less = nat_list_cmp_total.antisymm key one ∙ ap ordering_reverse less

-- a key behind all others is put at the end
put_last : (members : Members) (key : List ℕ) (value : Data) → AllBefore members key → put key value members ≡ join members (member key value no_members)
put_last no_members key value before = refl
put_last (member one old members) key value before =
    ap (λ (order : Ordering). match_ordering order (member key value (member one old members)) (member one value members) (member one old (put key value members))) (greater key one before.0)
    ∙ ap (member one old) (put_last members key value before.1)

all_before_join : (members : Members) (key : List ℕ) (value : Data) (next : List ℕ) → AllBefore members key → slice_cmp nat_cmp key next ≡ Less → AllBefore (join members (member key value no_members)) next
all_before_join no_members key value next before less = (less, tt)
all_before_join (member one old members) key value next before less =
    (nat_list_cmp_total.trans one key next before.0 less, all_before_join members key value next before.1 less)

-- each key comes before the first cell's name
abbrev BeforeFirst : Members → List NamedCell → Type 0
BeforeFirst members [] = Unit {0}
BeforeFirst members (cell ∷ _) = AllBefore members cell.name

both : (one other : Bool) → (one && other) ≡ true → (one ≡ true) × (other ≡ true)
both true other h = (refl, h)
both false other h = cc

is_less : (order : Ordering) → match_ordering order true false false ≡ true → order ≡ Less
is_less Less h = refl
is_less Equal h = cc
is_less Greater h = cc

next_before : (members : Members) (cell : NamedCell) (cells : List NamedCell) → AllBefore members cell.name → begin_in_order (cell ∷ cells) ≡ true → BeforeFirst (join members (member cell.name (json_of_word cell.word) no_members)) cells
next_before members cell [] before order = tt
next_before members cell (other ∷ _) before order = all_before_join members cell.name (json_of_word cell.word) other.name before (is_less (slice_cmp nat_cmp cell.name other.name) order)

behind : (members : Members) (cells : List NamedCell) → BeforeFirst members cells → are_in_order cells ≡ true → with_cells cells members ≡ join members (members_of cells)
unfolding are_in_order
behind members [] before order = sym (join_nothing members)
behind members (cell ∷ cells) before order =
    let orders = both (begin_in_order (cell ∷ cells)) (are_in_order cells) order in
    let one = member cell.name (json_of_word cell.word) no_members in
    ap (with_cells cells) (put_last members cell.name (json_of_word cell.word) before)
    ∙ behind (join members one) cells (next_before members cell cells before orders.0) orders.1
    ∙ join_twice members one (members_of cells)

first_before : (cells : List NamedCell) → BeforeFirst no_members cells
first_before [] = tt
first_before (cell ∷ cells) = tt

pub in_order : (cells : List NamedCell) → are_in_order cells ≡ true → with_cells cells no_members ≡ members_of cells
in_order cells order = behind no_members cells (first_before cells) order

-- where the first two are in order, all are where all but the first are
behind_first : (cells : List NamedCell) (at : ℕ) → at < length cells → begin_in_order (drop at cells) ≡ true → are_in_order (drop (suc at) cells) ≡ are_in_order (drop at cells)
unfolding are_in_order
behind_first [] at within order = absurd (omega (arith, within))
behind_first (cell ∷ cells) zero within order = ap (λ (first : Bool). first && are_in_order cells) (sym order)
behind_first (cell ∷ cells) (suc at) within order = behind_first cells at (omega (arith, within)) order

one_more : (at : ℕ) → at + 1 ≡ suc at
one_more at = omega arith

pub later_in_order : (cells : List NamedCell) (at : ℕ) → at < length cells → begin_in_order (drop at cells) ≡ true → are_in_order (drop (at + 1) cells) ≡ are_in_order (drop at cells)
later_in_order cells at within order = ap (λ (next : ℕ). are_in_order (drop next cells)) (one_more at) ∙ behind_first cells at within order

-- where they aren't, nor are all
pub none_in_order : (cells : List NamedCell) → begin_in_order cells ≡ false → are_in_order cells ≡ false
unfolding are_in_order
none_in_order [] order = cc
none_in_order (cell ∷ cells) order = ap (λ (first : Bool). first && are_in_order cells) order
