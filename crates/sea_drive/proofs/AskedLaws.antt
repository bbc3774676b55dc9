-- What a line asks for, by the tests that it meets.
use Rattle.std.proofs.Common.{◌≡◌, ℕ, ◌==◌, List, [], true, false, refl, inl, inr}
use Rattle.std.specs.List.{before_first, after_first}
use Rattle.std.specs.Str.{is_utf8, IsUtf8}
use Rattle.std.proofs.lemmas.Bool.{cases_Bool}
use Rattle.std.proofs.lemmas.Str.{IsUtf8-from_is_utf8}
use Rattle.sea_drive.specs.declared.verb.Verb.TheVariants.{Nothing, Unknown}
use Rattle.sea_drive.specs.Asked.{asked_by, is_silent, verb_of}

-- bytes that are no UTF-8
pub utf8-false : (bytes : List ℕ) → ¬ IsUtf8 bytes → is_utf8 bytes ≡ false
utf8-false bytes h = elim (cases_Bool (is_utf8 bytes)) [ inl sound ↦ absurd (h (IsUtf8-from_is_utf8 bytes sound)) | inr bad ↦ bad ]

module _ (text : List ℕ) where
  pub asked-silent : is_silent text ≡ true → asked_by text ≡ (Nothing, [])
  asked-silent silent = rw silent refl

  pub asked-bad : is_silent text ≡ false → is_utf8 text ≡ false → asked_by text ≡ (Unknown, [])
  asked-bad silent utf8 = rw (silent, utf8) refl

  pub asked-words : is_silent text ≡ false → is_utf8 text ≡ true → asked_by text ≡ (verb_of (before_first (λ byte. byte == 32) text) text, after_first (λ byte. byte == 32) text)
  asked-words silent utf8 = rw (silent, utf8) refl
