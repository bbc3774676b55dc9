-- What a played script has read and given.
use Rattle.std.proofs.Common.{◌≡◌, ℕ, List, [], ◌∷◌, ◌++◌, Bool, true, false, ◌||◌, Option, Some, None, option_map, is_none, refl, sym, ap, subst, ◌∙◌, append-nil, arith}
use Rattle.std.specs.Io.KnownBytes.{IsAtEnd}
use Rattle.std.proofs.lemmas.Grind.{flat_map-append}
use Rattle.std.proofs.lemmas.List.Folds.{list_any-append}
use Rattle.sea_lines.specs.Lines.{Place, TotalTold, KeepsTotal, TakesWithin}
use Rattle.sea_drive.specs.Outcome.{is_disk_fault}
use Rattle.sea_drive.specs.Play.{replies, ran_out_of_memory, disk_failed}
use Rattle.sea_drive.specs.Reply.{reply_line}
use Rattle.sea_drive.specs.declared.outcome.LineOutcome.{LineOutcome}

-- ---- replies

-- one result more has its reply behind the others
pub replies-push : (results : List (Option LineOutcome)) (result : Option LineOutcome) → replies (results ++ result ∷ []) ≡ replies results ++ reply_line result
replies-push results result = flat_map-append reply_line results (result ∷ []) ∙ ap (λ (t : List ℕ). replies results ++ t) (append-nil (reply_line result))

or-false : (b : Bool) → (b || false) ≡ b
or-false true = refl
or-false false = refl

pub ran_out_of_memory-push : (results : List (Option LineOutcome)) (result : Option LineOutcome) → ran_out_of_memory (results ++ result ∷ []) ≡ (ran_out_of_memory results || is_none result)
ran_out_of_memory-push results result = list_any-append is_none results (result ∷ []) ∙ ap (λ (b : Bool). ran_out_of_memory results || b) (or-false (is_none result))

pub disk_failed-push : (results : List (Option LineOutcome)) (result : Option LineOutcome) → disk_failed (results ++ result ∷ []) ≡ (disk_failed results || is_disk_fault result)
disk_failed-push results result = list_any-append is_disk_fault results (result ∷ []) ∙ ap (λ (b : Bool). disk_failed results || b) (or-false (is_disk_fault result))

-- ---- where the script stands

-- nothing is left where the bytes unread and those left are none together
append_none : (xs ys : List ℕ) → xs ++ ys ≡ [] → ys ≡ []
append_none [] ys h = h
append_none (_ ∷ _) ys h = cc

some_same : (a b : List ℕ) → Some a ≡ Some b → a ≡ b
some_same a b h = cc

pub at_end_of : (unread : List ℕ) (left : Option (List ℕ)) (bytes : List ℕ) → option_map (λ b. unread ++ b) left ≡ Some bytes → bytes ≡ [] → IsAtEnd left
at_end_of unread None bytes same none = tt
at_end_of unread (Some rest) bytes same none = append_none unread rest (some_same (unread ++ rest) bytes same ∙ none)

-- a reader with nothing unread stands before what is left
pub nothing_unread : (unread : List ℕ) (left : Option (List ℕ)) → unread ≡ [] → option_map (λ b. unread ++ b) left ≡ left
nothing_unread unread None h = refl
nothing_unread unread (Some bytes) h = ap (λ (front : List ℕ). Some (front ++ bytes)) h

-- ---- how many bytes were taken

pub total_first : (place : Place) (left : Option (List ℕ)) → place.rest ≡ left → place.read ≡ 0 → KeepsTotal (record { read = 0; rest = left }) place
total_first place left rest none = subst (λ (now : Option (List ℕ)). TotalTold 0 place.read left now) (sym rest) (same left)
  where
    same : (bytes : Option (List ℕ)) → TotalTold 0 place.read bytes bytes
    same None = tt
    same (Some bytes) = omega (arith, none)

totals : (first middle last : ℕ) (all before now : Option (List ℕ)) → TotalTold first middle all before → TotalTold middle last before now → TotalTold first last all now
totals first middle last None before now h k = tt
totals first middle last (Some _) None now h k = absurd h
totals first middle last (Some _) (Some _) None h k = absurd k
totals first middle last (Some _) (Some _) (Some _) h k = h ∙ k

pub total_then : (start before now : Place) → KeepsTotal start before → KeepsTotal before now → KeepsTotal start now
total_then start before now h k = totals start.read before.read now.read start.rest before.rest now.rest h k

pub takes_none : (left : Option (List ℕ)) → TakesWithin left left
takes_none None = tt
takes_none (Some bytes) = omega arith
