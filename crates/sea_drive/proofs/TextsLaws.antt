-- What stripping a front gives.
use Rattle.std.proofs.Common.{◌≡◌, ℕ, List, ◌++◌, length, take, drop, Option, Some, None, option_map, MatchOption, refl, sym, ap, ◌∙◌, inl, inr}
use Rattle.std.proofs.Math.Seq.{take-append_seam, drop-append_seam}
use Rattle.std.specs.Str.{bytes_eq}
use Rattle.std.specs.Str.Pattern.{FindsTextPrefix, LacksTextAt, StripsPrefix}
use Rattle.std.proofs.lemmas.Bool.{cases_Bool}
use Rattle.std.proofs.lemmas.List.{take-append-drop}
use Rattle.std.proofs.lemmas.Slice.Eq.{bytes_eq-Decides}
use denote.Ref.{Bor}
use Rattle.sea_drive.specs.Texts.{stripped}

-- a text that has the front
stripped-some : (front rest : List ℕ) → stripped front (front ++ rest) ≡ Some rest
stripped-some front rest = rw (take-append_seam front rest, (bytes_eq-Decides front front).1 refl, drop-append_seam front rest) refl

-- a text that lacks it
stripped-none : (front text : List ℕ) → LacksTextAt front text 0 → stripped front text ≡ None
stripped-none front text lacks = elim (cases_Bool (bytes_eq front (take (length front) text))) [
  | inl same ↦ absurd (lacks (drop (length front) text) (sym (take-append-drop (length front) text) ∙ ap (λ (bytes : List ℕ). bytes ++ drop (length front) text) (sym ((bytes_eq-Decides front (take (length front) text)).0 same))))
  | inr other ↦ rw other refl
]

-- what `strip_prefix` answers is what stands behind the front
pub stripped-from : (front text : List ℕ) (r : Option (Bor (List ℕ))) → MatchOption r (FindsTextPrefix front text None) (λ x. StripsPrefix (FindsTextPrefix front) text x.now) → option_map (λ x. x.now) r ≡ stripped front text
stripped-from front text None lacks = sym (stripped-none front text lacks)
stripped-from front text (Some x) (n, found, same, _) =
    ap Some same ∙ sym (stripped-some front (drop n text)) ∙ ap (stripped front) (sym found.1)
