-- What the calls find in a record, one after another.
use Rattle.std.proofs.Common.{◌≡◌, ℕ, ◌+◌, ◌-◌, ◌^◌, List, length, take, drop, Ok, Err, sym, ap, ◌∙◌, arith}
use Rattle.std.specs.Int.{w8, w64}
use Rattle.sea_fields.specs.Fields.{number_at, row_at}
use Rattle.sea_fields.specs.declared.span.Span.{Span}
use Rattle.sea_fields.specs.declared.span.FieldFault.{FieldFault}
use Rattle.sea_fields.specs.declared.span.FieldFault.TheVariants.{Short}
use Rattle.sea_record.proofs.Entries.{same_found}
use Rattle.sea_record.proofs.Fields.{ReadsAgain}

module _ {payload : List ℕ} {lsn minutes : ℕ} {user text : List ℕ} (r : ReadsAgain payload lsn minutes user text) where
  -- the number
  pub no_number : number_at w64 payload 0 ≡ Err Short → ⊥
  no_number e = let here = r.lsn_at in cc

  pub number_found : (n at : ℕ) → number_at w64 payload 0 ≡ Ok (n, at) → (n ≡ lsn) × (at ≡ 8)
  number_found n at e = same_found (number_at w64 payload 0) n lsn at 8 e r.lsn_at

  -- the kind
  pub no_kind : (at : ℕ) → at ≡ 8 → number_at w8 payload at ≡ Err Short → ⊥
  no_kind at place e = let here = ap (number_at w8 payload) place ∙ r.kind_at in cc

  pub kind_found : (at n next : ℕ) → at ≡ 8 → number_at w8 payload at ≡ Ok (n, next) → next ≡ 9
  kind_found at n next place e = (same_found (number_at w8 payload at) n _ next 9 e (ap (number_at w8 payload) place ∙ r.kind_at)).1

  -- the minutes
  pub no_minutes : (at : ℕ) → at ≡ 9 → number_at w64 payload at ≡ Err Short → ⊥
  no_minutes at place e = let here = ap (number_at w64 payload) place ∙ r.minutes_at in cc

  pub minutes_found : (at n next : ℕ) → at ≡ 9 → number_at w64 payload at ≡ Ok (n, next) → (n ≡ minutes) × (next ≡ 17)
  minutes_found at n next place e = same_found (number_at w64 payload at) n minutes next 17 e (ap (number_at w64 payload) place ∙ r.minutes_at)

  -- the user
  pub no_user : (at : ℕ) (fault : FieldFault) → at ≡ 17 → Err fault ≡ row_at payload at (2 ^ 32 - 1) → ⊥
  no_user at fault place e = let here = ap (λ (k : ℕ). row_at payload k (2 ^ 32 - 1)) place ∙ r.user_at in cc

  pub user_found : (at : ℕ) (span : Span) (next : ℕ) → at ≡ 17 → Ok (span, next) ≡ row_at payload at (2 ^ 32 - 1) → (take (span.to - span.from) (drop span.from payload) ≡ user) × (next ≡ 21 + length user)
  user_found at span next place e =
      let same = same_found (row_at payload at (2 ^ 32 - 1)) span _ next _ (sym e) (ap (λ (k : ℕ). row_at payload k (2 ^ 32 - 1)) place ∙ r.user_at) in
      let from = ap (λ (s : Span). s.from) same.0 in
      let to = ap (λ (s : Span). s.to) same.0 in
      let count : span.to - span.from ≡ length user = omega arith in
      (ap (λ (k : ℕ). take k (drop span.from payload)) count ∙ ap (λ (k : ℕ). take (length user) (drop k payload)) from ∙ r.user_is, same.1)

  -- the text
  pub no_text : (at : ℕ) (fault : FieldFault) → at ≡ 21 + length user → Err fault ≡ row_at payload at (2 ^ 32 - 1) → ⊥
  no_text at fault place e = let here = ap (λ (k : ℕ). row_at payload k (2 ^ 32 - 1)) place ∙ r.text_at in cc

  pub text_found : (at : ℕ) (span : Span) (next : ℕ) → at ≡ 21 + length user → Ok (span, next) ≡ row_at payload at (2 ^ 32 - 1) → take (span.to - span.from) (drop span.from payload) ≡ text
  text_found at span next place e =
      let same = same_found (row_at payload at (2 ^ 32 - 1)) span _ next _ (sym e) (ap (λ (k : ℕ). row_at payload k (2 ^ 32 - 1)) place ∙ r.text_at) in
      let from = ap (λ (s : Span). s.from) same.0 in
      let to = ap (λ (s : Span). s.to) same.0 in
      let count : span.to - span.from ≡ length text = omega arith in
      ap (λ (k : ℕ). take k (drop span.from payload)) count ∙ ap (λ (k : ℕ). take (length text) (drop k payload)) from ∙ r.text_is
