-- Texts of which each counts once.
use Rattle.std.specs.Prelude.{ℕ, List, [], ◌∷◌, filter, Bool, not}
use Rattle.std.specs.List.{list_any}
use Rattle.std.specs.Str.{bytes_eq}

-- a text is among some texts
abbrev pub is_among : List (List ℕ) → List ℕ → Bool
is_among texts text = list_any (λ one. bytes_eq one text) texts

-- another text than this one
abbrev pub differs_from : List ℕ → List ℕ → Bool
differs_from text other = not (bytes_eq text other)

-- repeats count once, at their first place: of each text the first stays, and those like it behind it go
unfoldable pub once : List (List ℕ) → List (List ℕ)
once [] = []
once (text ∷ texts) = text ∷ filter (differs_from text) (once texts)
