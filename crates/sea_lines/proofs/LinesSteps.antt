-- A turn of the reading of a line: what was gathered, before and after it.
use Rattle.std.proofs.Common.{◌≡◌, ℕ, ◌+◌, ◌<◌, ◌≤◌, ◌⊎◌, min, List, [], ◌∷◌, ◌++◌, length, length-append, Bool, false, ◌||◌, Option, Some, None, IfSome, option_map, refl, sym, ap, ◌∙◌, subst, append_assoc, append-nil, arith, inl, inr, ⊎_elim}
use Rattle.std.specs.List.{position_or_len, before_first, after_first, list_any}
use Rattle.std.specs.Io.KnownBytes.{Consumes, Keeps, IsAtEnd}
use Rattle.std.proofs.KnownBytes.{Consumes-trans, Consumes-kept}
use Rattle.sea_lines.specs.Lines.{Place, ReadsLine, ReadsTold, TotalTold, KeepsTotal, PassesLimit, BreaksOff, line_limit, input_limit, lines_of}
use Rattle.sea_lines.proofs.LinesOf.{IsPlain, is_newline, length-before_first, IsPlain-before_first, IsPlain-append, split_ended, before_none, after_none, position-plain, position-front, lines_of-ended, lines_of-last}

-- a reader that began a line at `start` stands at `now`, and `line` is what it has of the line
pub record Gathers (start now : Place) (line : List ℕ) : Type 0 where
  pub bytes : Consumes start.rest now.rest line
  pub count : now.read ≡ start.read + length line
  pub plain : IsPlain line
  pub short : length line ≤ line_limit

-- the same where `line` is the whole line, and its newline was read too
pub record Ends (start now : Place) (line : List ℕ) : Type 0 where
  pub bytes : Consumes start.rest now.rest (line ++ 10 ∷ [])
  pub count : now.read ≡ start.read + length line + 1
  pub plain : IsPlain line
  pub short : length line ≤ line_limit

-- the place that has read so many bytes, with these unread and those left behind them
abbrev pub place : ℕ → List ℕ → Option (List ℕ) → Place
place read bytes left = record { read = read; rest = option_map (λ more. bytes ++ more) left }

-- the unread bytes, read whole or up to somewhere
consumes_unread : (left : Option (List ℕ)) (bytes front rest : List ℕ) → bytes ≡ front ++ rest → Consumes (option_map (λ more. bytes ++ more) left) (option_map (λ more. rest ++ more) left) front
consumes_unread None bytes front rest e = tt
consumes_unread (Some more) bytes front rest e = ap (λ b. b ++ more) e ∙ append_assoc front rest more

-- a refill keeps the place
pub Gathers-kept : (start now later : Place) (line : List ℕ) → Gathers start now line → Keeps now.rest later.rest → later.read ≡ now.read → Gathers start later line
Gathers-kept start now later line h kept same = record {
  bytes = Consumes-kept start.rest now.rest later.rest line h.bytes kept;
  count = same ∙ h.count;
  plain = h.plain;
  short = h.short;
}

-- a piece with no newline
pub Gathers-piece : (start : Place) (read read' : ℕ) (left : Option (List ℕ)) (bytes rest line line' : List ℕ) → Gathers start (place read bytes left) line
    → length bytes ≤ position_or_len is_newline bytes → line' ≡ line ++ before_first is_newline bytes → rest ≡ after_first is_newline bytes
    → read' ≡ read + min (position_or_len is_newline bytes + 1) (length bytes) → length line' ≤ line_limit → Gathers start (place read' rest left) line'
Gathers-piece start read read' left bytes rest line line' h none piece over count short =
    let whole : before_first is_newline bytes ≡ bytes = before_none bytes none in
    let nothing : rest ≡ [] = over ∙ after_none bytes none in
    let grown : line' ≡ line ++ bytes = piece ∙ ap (λ b. line ++ b) whole in
    let split : bytes ≡ bytes ++ rest = sym (ap (λ b. bytes ++ b) nothing ∙ append-nil bytes) in
    let plain : IsPlain bytes = subst IsPlain whole (IsPlain-before_first bytes) in record {
      bytes = subst (Consumes start.rest (place read' rest left).rest) (sym grown) (Consumes-trans start.rest (place read bytes left).rest (place read' rest left).rest line bytes h.bytes (consumes_unread left bytes bytes rest split));
      count = omega (arith, h.count, ap length grown, length-append line bytes);
      plain = subst IsPlain (sym grown) (IsPlain-append line bytes h.plain plain);
      short = short;
    }

-- a piece with the newline
pub Ends-piece : (start : Place) (read read' : ℕ) (left : Option (List ℕ)) (bytes rest line line' : List ℕ) → Gathers start (place read bytes left) line
    → position_or_len is_newline bytes < length bytes → line' ≡ line ++ before_first is_newline bytes → rest ≡ after_first is_newline bytes
    → read' ≡ read + min (position_or_len is_newline bytes + 1) (length bytes) → length line' ≤ line_limit → Ends start (place read' rest left) line'
Ends-piece start read read' left bytes rest line line' h some piece over count short =
    let front = before_first is_newline bytes in
    let split : bytes ≡ (front ++ 10 ∷ []) ++ rest =
    split_ended bytes some ∙ ap (λ b. front ++ 10 ∷ b) (sym over) ∙ sym (append_assoc front (10 ∷ []) rest) in
    let grown : line ++ (front ++ 10 ∷ []) ≡ line' ++ 10 ∷ [] = sym (append_assoc line front (10 ∷ [])) ∙ ap (λ b. b ++ 10 ∷ []) (sym piece) in record {
      bytes = subst (Consumes start.rest (place read' rest left).rest) grown (Consumes-trans start.rest (place read bytes left).rest (place read' rest left).rest line (front ++ 10 ∷ []) h.bytes (consumes_unread left bytes (front ++ 10 ∷ []) rest split));
      count = omega (arith, h.count, ap length piece, length-append line front, length-before_first bytes);
      plain = subst IsPlain (sym piece) (IsPlain-append line front h.plain (IsPlain-before_first bytes));
      short = short;
    }

passes : (all left : Option (List ℕ)) (begun read : ℕ) (bytes line : List ℕ) → Consumes all (option_map (λ more. bytes ++ more) left) line → read ≡ begun + length line → IsPlain line
    → (line_limit < length line + position_or_len is_newline bytes) ⊎ (input_limit < read + min (position_or_len is_newline bytes + 1) (length bytes)) → IfSome all (λ rest. PassesLimit begun rest)
passes None left begun read bytes line e count plain over = tt
passes (Some rest) None begun read bytes line e count plain over = absurd e
passes (Some rest) (Some more) begun read bytes line e count plain over =
    let size : length (before_first is_newline rest) ≡ length line + position_or_len is_newline (bytes ++ more) =
    length-before_first rest ∙ ap (position_or_len is_newline) e ∙ position-plain line (bytes ++ more) plain in
    let front = position-front bytes more in
    let all : length rest ≡ length line + (length bytes + length more) = omega (arith, ap length e, length-append line (bytes ++ more), length-append bytes more) in
    ⊎_elim (λ long. inl (omega arith)) (λ far. inr (omega arith, omega arith)) over

-- a piece that passes a limit shows that the next line does
pub PassesLimit-piece : (start : Place) (read : ℕ) (left : Option (List ℕ)) (bytes line : List ℕ) → Gathers start (place read bytes left) line
    → (line_limit < length line + position_or_len is_newline bytes) ⊎ (input_limit < read + min (position_or_len is_newline bytes + 1) (length bytes)) → IfSome start.rest (λ rest. PassesLimit start.read rest)
PassesLimit-piece start read left bytes line h over = passes start.rest left start.read read bytes line h.bytes h.count h.plain over

no_newline : (line : List ℕ) → IsPlain line → list_any is_newline line ≡ false
no_newline [] plain = refl
no_newline (byte ∷ line) plain = ap (λ (is : Bool). is || list_any is_newline line) plain.0 ∙ no_newline line plain.1

broken_off : (all left : Option (List ℕ)) (bytes line : List ℕ) → Consumes all (option_map (λ more. bytes ++ more) left) line → bytes ≡ [] → IsPlain line → BreaksOff all left
broken_off None left bytes line e none plain = tt
broken_off (Some rest) None bytes line e none plain = absurd e
broken_off (Some rest) (Some more) bytes line e none plain = (line, e ∙ ap (λ b. line ++ (b ++ more)) none, no_newline line plain)

-- where nothing is unread, the piece of the line is all that was taken
pub BreaksOff-gathered : (start : Place) (read : ℕ) (left : Option (List ℕ)) (bytes line : List ℕ) → Gathers start (place read bytes left) line → bytes ≡ [] → BreaksOff start.rest left
BreaksOff-gathered start read left bytes line h none = broken_off start.rest left bytes line h.bytes none h.plain

ended_told : (all left : Option (List ℕ)) (begun read : ℕ) (line : List ℕ) → Consumes all left (line ++ 10 ∷ []) → read ≡ begun + length line + 1 → IsPlain line → ReadsTold begun read all left (Some line)
ended_told None left begun read line e count plain = tt
ended_told (Some rest) None begun read line e count plain = absurd e
ended_told (Some rest) (Some more) begun read line e count plain = (
  (line ++ 10 ∷ [], record { bytes = e; count = omega (arith, length-append line (10 ∷ [])) }),
  ap lines_of (e ∙ append_assoc line (10 ∷ []) more) ∙ lines_of-ended line more plain,
)

-- a line with its newline is the next
pub ReadsLine-ended : (start now : Place) (line : List ℕ) → Ends start now line → ReadsLine start now (Some line)
ReadsLine-ended start now line h = ended_told start.rest now.rest start.read now.read line h.bytes h.count h.plain

last_told : (all left after : Option (List ℕ)) (begun read : ℕ) (line : List ℕ) → Consumes all left line → IsAtEnd left → Keeps left after → read ≡ begun + length line → IsPlain line → 0 < length line
    → ReadsTold begun read all after (Some line)
last_told None left after begun read line e end kept count plain some = tt
last_told (Some rest) None after begun read line e end kept count plain some = absurd e
last_told (Some rest) (Some more) None begun read line e end kept count plain some = absurd kept
last_told (Some rest) (Some more) (Some later) begun read [] e end kept count plain some = absurd (omega (arith, some))
last_told (Some rest) (Some more) (Some later) begun read (x ∷ line) e end kept count plain some = (
  (x ∷ line, record { bytes = e ∙ ap (λ b. (x ∷ line) ++ b) (sym kept); count = count }),
  ap lines_of (e ∙ ap (λ b. (x ∷ line) ++ b) end ∙ append-nil (x ∷ line)) ∙ lines_of-last x line plain ∙ ap (λ b. (x ∷ line) ∷ lines_of b) (sym (kept ∙ end)),
)

-- what was gathered at the end of the input is the last line
pub ReadsLine-last : (start now later : Place) (line : List ℕ) → Gathers start now line → IsAtEnd now.rest → Keeps now.rest later.rest → later.read ≡ now.read → 0 < length line → ReadsLine start later (Some line)
ReadsLine-last start now later line h end kept same some = last_told start.rest now.rest later.rest start.read later.read line h.bytes end kept (same ∙ h.count) h.plain some

ended_within : (all left : Option (List ℕ)) (begun read : ℕ) (line : List ℕ) → Consumes all left (line ++ 10 ∷ []) → read ≡ begun + length line + 1 → IsPlain line → length line ≤ line_limit → read ≤ input_limit
    → IfSome all (λ rest. ¬ PassesLimit begun rest)
ended_within None left begun read line e count plain short within = tt
ended_within (Some rest) None begun read line e count plain short within = absurd e
ended_within (Some rest) (Some more) begun read line e count plain short within =
    let size : length (before_first is_newline rest) ≡ length line + 0 =
    length-before_first rest ∙ ap (position_or_len is_newline) (e ∙ append_assoc line (10 ∷ []) more) ∙ position-plain line (10 ∷ more) plain in
    ⊎_elim (λ long. omega arith) (λ far. omega (arith, far.0))

-- and passes no limit
pub IsWithin-ended : (start now : Place) (line : List ℕ) → Ends start now line → now.read ≤ input_limit → IfSome start.rest (λ rest. ¬ PassesLimit start.read rest)
IsWithin-ended start now line h within = ended_within start.rest now.rest start.read now.read line h.bytes h.count h.plain h.short within

total_line : (all left : Option (List ℕ)) (begun read : ℕ) (line : List ℕ) → Consumes all left line → read ≡ begun + length line → TotalTold begun read all left
total_line None left begun read line e count = tt
total_line (Some rest) None begun read line e count = absurd e
total_line (Some rest) (Some more) begun read line e count = omega (arith, ap length e, length-append line more, count)

total_kept : (all left after : Option (List ℕ)) (begun read read' : ℕ) → TotalTold begun read all left → Keeps left after → read' ≡ read → TotalTold begun read' all after
total_kept None left after begun read read' h kept same = tt
total_kept (Some rest) None after begun read read' h kept same = absurd h
total_kept (Some rest) (Some more) None begun read read' h kept same = absurd kept
total_kept (Some rest) (Some more) (Some later) begun read read' h kept same = omega (arith, h, ap length kept, same)

-- what was gathered was read, and the bytes in all are as many as they were
pub KeepsTotal-gathered : (start now : Place) (line : List ℕ) → Gathers start now line → KeepsTotal start now
KeepsTotal-gathered start now line h = total_line start.rest now.rest start.read now.read line h.bytes h.count

-- so they are after a line with its newline
pub KeepsTotal-ended : (start now : Place) (line : List ℕ) → Ends start now line → KeepsTotal start now
KeepsTotal-ended start now line h = total_line start.rest now.rest start.read now.read (line ++ 10 ∷ []) h.bytes (omega (arith, h.count, length-append line (10 ∷ [])))

-- and where a place is kept
pub KeepsTotal-kept : (start now later : Place) → KeepsTotal start now → Keeps now.rest later.rest → later.read ≡ now.read → KeepsTotal start later
KeepsTotal-kept start now later h kept same = total_kept start.rest now.rest later.rest start.read now.read later.read h kept same

-- the same unread bytes before what is left
pub Keeps-unread : (left : Option (List ℕ)) (bytes same : List ℕ) → same ≡ bytes → Keeps (option_map (λ more. bytes ++ more) left) (option_map (λ more. same ++ more) left)
Keeps-unread None bytes same e = tt
Keeps-unread (Some more) bytes same e = ap (λ b. b ++ more) e
