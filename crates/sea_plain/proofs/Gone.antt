-- A set of ids stands for the list of them.
use Rattle.std.proofs.Common.{◌≡◌, ℕ, ◌==◌, ◌&&◌, ◌||◌, List, [], ◌∷◌, Bool, not, refl, ap, ◌∙◌}
use Rattle.std.specs.List.{list_any}
use Rattle.sea_text.specs.Distinct.{is_among}
use Rattle.sea_cell.specs.declared.column.LinkEnd.{LinkEnd}
use Rattle.sea_links.specs.Pairs.{side}
use Rattle.sea_links.specs.declared.pair.LinkPair.{LinkPair}
use Rattle.sea_operation.specs.Joined.{has_row_at, has_no_row}

-- the pair has one of the ids for which a test holds at this end
abbrev has_at : (List ℕ → Bool) → LinkPair → LinkEnd → Bool
has_at has pair end = (pair.link == end.link) && has (side end.first pair).0

same_any : (has : List ℕ → Bool) (texts : List (List ℕ)) (pair : LinkPair) (ends : List LinkEnd) → ((id : List ℕ) → has id ≡ is_among texts id) → list_any (has_at has pair) ends ≡ list_any (has_row_at texts pair) ends
same_any has texts pair [] agree = refl
same_any has texts pair (end ∷ ends) agree =
    ap (λ (one : Bool). ((pair.link == end.link) && one) || list_any (has_at has pair) ends) (agree (side end.first pair).0)
    ∙ ap (λ (rest : Bool). has_row_at texts pair end || rest) (same_any has texts pair ends agree)

pub same_row : (has : List ℕ → Bool) (texts : List (List ℕ)) (pair : LinkPair) (ends : List LinkEnd) → ((id : List ℕ) → has id ≡ is_among texts id) → not (list_any (λ end. (pair.link == end.link) && has (side end.first pair).0) ends) ≡ has_no_row ends texts pair
same_row has texts pair ends agree = ap not (same_any has texts pair ends agree)
