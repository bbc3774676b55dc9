-- What one line after another says of the whole input.
use Rattle.std.proofs.Common.{◌≡◌, ℕ, ◌<◌, ◌≤◌, List, [], ◌∷◌, ◌++◌, length, length-append, Option, Some, None, IfSome, All, refl, sym, ap, ◌∙◌, subst, arith, ⊎_elim}
use Rattle.std.specs.List.{position_or_len, before_first, after_first}
use Rattle.std.proofs.lemmas.Bool.{cases_lt}
use Rattle.std.proofs.lemmas.List.{get_or_at}
use Rattle.sea_lines.specs.Lines.{Place, PassesLimit, IsWithinLimits, HasReadTold, HasReadTo, line_limit, lines_of}
use Rattle.sea_lines.proofs.LinesOf.{IsPlain, is_newline, IsPlain-before_first, split_ended, before_none, lines_of-ended, lines_of-last}

-- the first line of bytes that aren't none
pub first_line : (x : ℕ) (bytes : List ℕ) → (rest : List (List ℕ)) × (lines_of (x ∷ bytes) ≡ before_first is_newline (x ∷ bytes) ∷ rest)
first_line x bytes =
    let all = x ∷ bytes in
    let plain = IsPlain-before_first all in
    ⊎_elim
    (λ some. (lines_of (after_first is_newline all), ap lines_of (split_ended all some) ∙ lines_of-ended (before_first is_newline all) (after_first is_newline all) plain))
    (λ none. let whole = before_none all none in ([], lines_of-last x bytes (subst IsPlain whole plain) ∙ ap (λ b. b ∷ []) (sym whole)))
    (cases_lt (position_or_len is_newline all) (length all))

-- what holds of each element of joined lists holds of the second's first
All-back : (P : List ℕ → Type 0) (front : List (List ℕ)) (line : List ℕ) (rest : List (List ℕ)) → All P (front ++ line ∷ rest) → P line
All-back P front line rest h = subst P (get_or_at front line rest line (length front) refl) (h (length front) line (omega (arith, length-append front (line ∷ rest))))

long_line : (input rest : List ℕ) (lines : List (List ℕ)) → lines_of input ≡ lines ++ lines_of rest → line_limit < length (before_first is_newline rest) → ¬ All (λ line. length line ≤ line_limit) (lines_of input)
long_line input [] lines split long short = omega (arith, long)
long_line input (x ∷ rest) lines split long short =
    let first = first_line x rest in
    let here = split ∙ ap (λ more. lines ++ more) first.1 in
    let fits = All-back (λ line. length line ≤ line_limit) lines (before_first is_newline (x ∷ rest)) first.0 (subst (All (λ line. length line ≤ line_limit)) here short) in
    omega (arith, long, fits)

-- an input whose next line passes a limit
pub passes_limits : (input front rest : List ℕ) (lines : List (List ℕ)) (read : ℕ) → lines_of input ≡ lines ++ lines_of rest → input ≡ front ++ rest → read ≡ length front → PassesLimit read rest → ¬ IsWithinLimits input
passes_limits input front rest lines read split place count over within =
    ⊎_elim (λ long. long_line input rest lines split long within.lines) (λ far. omega (arith, far.1, within.whole, ap length place, length-append front rest, count)) over

-- ---- the same of a reader that may not tell its bytes

read_passes : (input old : Option (List ℕ)) (lines : List (List ℕ)) (read : ℕ) → HasReadTold input lines read old → IfSome old (λ rest. PassesLimit read rest) → IfSome input (λ bytes. ¬ IsWithinLimits bytes)
read_passes None old lines read h over = tt
read_passes (Some input) None lines read h over = absurd h
read_passes (Some input) (Some rest) lines read h over = passes_limits input h.place.0 rest lines read h.split h.place.1 h.place.2 over

-- a next line that passes a limit
pub HasReadTo-passes : (input : Option (List ℕ)) (lines : List (List ℕ)) (old : Place) → HasReadTo input lines old → IfSome old.rest (λ rest. PassesLimit old.read rest) → IfSome input (λ bytes. ¬ IsWithinLimits bytes)
HasReadTo-passes input lines old h over = read_passes input old.rest lines old.read h over
