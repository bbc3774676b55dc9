-- A part that doesn't stand at a place stands behind it, or nowhere from there on.
use Rattle.std.proofs.Common.{◌≡◌, ℕ, zero, suc, ◌+◌, ◌<◌, List, [], ◌∷◌, length, drop, Bool, false, ◌||◌, nat_eq, sym, ap, ◌∙◌, arith}
use Rattle.std.specs.List.{starts_with}
use Rattle.sea_filter.specs.Comparison.{has_part}

behind : (part text : List ℕ) (at : ℕ) → at < length text → starts_with nat_eq (drop at text) part ≡ false → has_part part (drop (suc at) text) ≡ has_part part (drop at text)
unfolding has_part
behind part [] at within none = absurd (omega (arith, within))
behind part (byte ∷ text) zero within none = ap (λ (here : Bool). here || has_part part text) (sym none)
behind part (byte ∷ text) (suc at) within none = behind part text at (omega (arith, within)) none

one_more : (at : ℕ) → at + 1 ≡ suc at
one_more at = omega arith

pub later_part : (part text : List ℕ) (at : ℕ) → at < length text → starts_with nat_eq (drop at text) part ≡ false → has_part part (drop (at + 1) text) ≡ has_part part (drop at text)
later_part part text at within none = ap (λ (next : ℕ). has_part part (drop next text)) (one_more at) ∙ behind part text at within none
