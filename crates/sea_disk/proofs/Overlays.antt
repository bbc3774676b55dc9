-- Bytes laid over others.
use Rattle.std.proofs.Common.{◌≡◌, ℕ, ◌+◌, ◌-◌, ◌≤◌, List, ◌++◌, length, take, drop, sym, ◌∙◌, ap, inl, inr, arith, length-append}
use Rattle.std.specs.Prelude.{replicate}
use Rattle.std.proofs.lemmas.List.{append-nil, take_all, drop_all, take-append-le, drop-append-le, take-replicate, length-replicate}
use Rattle.std.proofs.lemmas.Bool.{cases_lt}
use Rattle.std.proofs.Math.Seq.{take-append-add}
use Rattle.sea_disk.specs.Calls.{overlaid}

-- the front of bytes that were grown by zeros
front : (old : List ℕ) (at end : ℕ) → at ≤ end → take at (old ++ replicate (end - length old) 0) ≡ take at old ++ replicate (at - length old) 0
front old at end within = elim (cases_lt at (length old)) [
  | inl inside ↦
      let none : at - length old ≡ 0 = omega arith in
      take-append-le at old (replicate (end - length old) 0) (omega arith) ∙ sym (append-nil (take at old)) ∙ ap (λ (n : ℕ). take at old ++ replicate n 0) (sym none)
  | inr behind ↦
      let place : at ≡ length old + (at - length old) = omega arith in
      ap (λ (n : ℕ). take n (old ++ replicate (end - length old) 0)) place
      ∙ take-append-add old (replicate (end - length old) 0) (at - length old)
      ∙ ap (λ (zeros : List ℕ). old ++ zeros) (take-replicate (at - length old) (end - length old) 0 (omega arith))
      ∙ ap (λ (bytes : List ℕ). bytes ++ replicate (at - length old) 0) (sym (take_all at old (omega arith)))
]

-- nothing of the zeros is left behind the end up to which they reach
back : (old : List ℕ) (end : ℕ) → drop end (old ++ replicate (end - length old) 0) ≡ drop end old
back old end = elim (cases_lt end (length old)) [
  | inl inside ↦
      let none : end - length old ≡ 0 = omega arith in
      drop-append-le end old (replicate (end - length old) 0) (omega arith) ∙ ap (λ (n : ℕ). drop end old ++ replicate n 0) none ∙ append-nil (drop end old)
  | inr behind ↦
      drop_all end (old ++ replicate (end - length old) 0) (omega (arith, length-append old (replicate (end - length old) 0), length-replicate {A = ℕ} (end - length old) 0)) ∙ sym (drop_all end old (omega arith))
]

-- a piece put into bytes that were grown up to its end
pub put-grown : (old piece : List ℕ) (at end : ℕ) → end ≡ at + length piece → take at (old ++ replicate (end - length old) 0) ++ piece ++ drop (at + length piece) (old ++ replicate (end - length old) 0) ≡ overlaid old at piece
put-grown old piece at end is =
    ap (λ (bytes : List ℕ). bytes ++ piece ++ drop (at + length piece) (old ++ replicate (end - length old) 0)) (front old at end (omega arith))
    ∙ ap (λ (bytes : List ℕ). (take at old ++ replicate (at - length old) 0) ++ piece ++ bytes) (ap (λ (n : ℕ). drop n (old ++ replicate (end - length old) 0)) (sym is) ∙ back old end ∙ ap (λ (n : ℕ). drop n old) is)
