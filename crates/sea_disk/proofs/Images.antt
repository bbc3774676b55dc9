-- What a stop leaves by choice, and a disk that is made of it.
use Rattle.std.proofs.Common.{◌≡◌, ℕ, ◌+◌, ◌<◌, max, List, [], ◌∷◌, ◌++◌, length, map, fold, get_or, Bool, true, false, refl, sym, ◌∙◌, ap, subst, ◌⊎◌, inl, inr, arith}
use Rattle.std.specs.Prelude.{◌==◌, ◌&&◌, ◌||◌, not, nat_lt, if◌then◌else◌}
use Rattle.std.specs.List.{list_any, list_all, range_with_len}
use Rattle.std.proofs.lemmas.List.{append-nil, drop_all}
use Rattle.std.proofs.lemmas.List.FromFn.{length-map-range_with_len, get_or-map-range_with_len}
use Rattle.std.proofs.lemmas.Bool.Decides.{nat_tests}
use Rattle.sea_disk.specs.declared.file.File.{File}
use Rattle.sea_disk.specs.declared.file.File.TheVariants.{Base0, Base1, Log0, Log1, Arch}
use Rattle.sea_disk.specs.declared.calls.Call.{Call}
use Rattle.sea_disk.specs.declared.calls.Note.{Note}
use Rattle.sea_disk.specs.declared.calls.Track.{Track}
use Rattle.sea_disk.specs.Shown.{IsImage, IsSettled}
use Rattle.sea_disk.specs.Calls.{overlaid}
use Rattle.sea_disk.specs.Traced.{track_of, with_laid, touches, sizes, is_safe, largest, safe_or_one, left_by, IsLeft, shown_of}
use Rattle.sea_disk.specs.TracedLaws.{Agrees, is_ordered, track_agrees}
use Rattle.sea_disk.proofs.Before.{only_seen}

-- ---- what is left by choice may be left

or_true : (b : Bool) → (b || true) ≡ true
or_true true = refl
or_true false = refl

-- the largest size is the first or one of a note's
largest_among : (notes : List Note) (size : ℕ) → list_all is_ordered notes ≡ true → (fold (λ (n : ℕ) (note : Note). max n note.most) size notes ≡ size) ⊎ (list_any (sizes (fold (λ (n : ℕ) (note : Note). max n note.most) size notes)) notes ≡ true)
largest_among [] size ordered = inl refl
largest_among (note ∷ notes) size ordered = elim (largest_among notes (max size note.most) (rest (is_ordered note) (list_all is_ordered notes) ordered)) [
  | inl is ↦ elim (either size note.most) [
    | inl first ↦ inl (is ∙ first)
    | inr this ↦ inr (ap (λ (b : Bool). b || list_any (sizes (fold (λ (n : ℕ) (note : Note). max n note.most) (max size note.most) notes)) notes) (among (is ∙ this)))
  ]
  | inr some ↦ inr (ap (λ (b : Bool). sizes (fold (λ (n : ℕ) (note : Note). max n note.most) (max size note.most) notes) note || b) some ∙ or_true (sizes (fold (λ (n : ℕ) (note : Note). max n note.most) (max size note.most) notes) note))
]
  where
    rest : (a b : Bool) → (a && b) ≡ true → b ≡ true
    rest true b both = both
    rest false b both = absurd (cc)

    first_of : (a b : Bool) → (a && b) ≡ true → a ≡ true
    first_of true b both = refl
    first_of false b both = absurd (cc)

    either : (m n : ℕ) → (max m n ≡ m) ⊎ (max m n ≡ n)
    either m n = grind (arith, nat_tests)

    among : {n : ℕ} → n ≡ note.most → sizes n note ≡ true
    among is = let in_order : is_ordered note ≡ true = first_of (is_ordered note) (list_all is_ordered notes) ordered in grind (arith, nat_tests)

ones_left : (track : Track) → Agrees track → IsLeft track (map (safe_or_one track) (range_with_len 0 (largest track)))
ones_left track agrees = record {
  size = ap (λ (n : ℕ). (n == length track.safe) || list_any (sizes n) track.since) (length-map-range_with_len (safe_or_one track) 0 (largest track)) ∙ may;
  kept = λ place within safe none.
      get_or-map-range_with_len (safe_or_one track) 0 (largest track) place place 0 (omega (arith, length-map-range_with_len (safe_or_one track) 0 (largest track))) (omega arith)
      ∙ ap (λ (b : Bool). if b then get_or track.safe place 0 else 1) (kept_safe place safe none);
}
  where
    may : ((largest track == length track.safe) || list_any (sizes (largest track)) track.since) ≡ true
    may = elim (largest_among track.since (length track.safe) agrees.ordered) [
      | inl is ↦ ap (λ (b : Bool). b || list_any (sizes (largest track)) track.since) (same (largest track) (length track.safe) is)
      | inr some ↦ ap (λ (b : Bool). (largest track == length track.safe) || b) some ∙ or_true (largest track == length track.safe)
    ]
      where
        same : (m n : ℕ) → m ≡ n → (m == n) ≡ true
        same m n is = grind (arith, nat_tests)

    kept_safe : (place : ℕ) → place < length track.safe → list_any (touches place) track.since ≡ false → is_safe track place ≡ true
    kept_safe place safe none = both (nat_lt place (length track.safe)) (list_any (touches place) track.since) (grind (arith, nat_tests)) none
      where
        both : (a b : Bool) → a ≡ true → b ≡ false → (a && not b) ≡ true
        both true false _ _ = refl
        both true true _ is = absurd (cc)
        both false _ is _ = absurd (cc)

pub left_by_left : (choice : ℕ) (track : Track) → Agrees track → IsLeft track (left_by choice track)
left_by_left choice track agrees = first (choice == 0) (choice == 1)
  where
    first : (zero one : Bool) → IsLeft track (if zero then track.safe else (if one then track.seen else map (safe_or_one track) (range_with_len 0 (largest track))))
    first true one = record { size = ap (λ (b : Bool). b || list_any (sizes (length track.safe)) track.since) (same (length track.safe)); kept = λ place _ safe none. refl }
      where
        same : (n : ℕ) → (n == n) ≡ true
        same n = grind (arith, nat_tests)
    first false true = record { size = agrees.size; kept = λ place _ safe none. (agrees.within place safe none).1 }
    first false false = ones_left track agrees

-- ---- a disk that is made of five byte lists

abbrev pub laid : (File → List ℕ) → List Call
laid bytes = with_laid (bytes Arch) (with_laid (bytes Log1) (with_laid (bytes Log0) (with_laid (bytes Base1) (with_laid (bytes Base0) [] Base0) Base1) Log0) Log1) Arch

-- five files are laid one after another
pub laid_in_turn : (bytes : File → List ℕ) (none one two three four five : List Call) → none ≡ [] → one ≡ with_laid (bytes Base0) none Base0 → two ≡ with_laid (bytes Base1) one Base1 → three ≡ with_laid (bytes Log0) two Log0 → four ≡ with_laid (bytes Log1) three Log1 → five ≡ with_laid (bytes Arch) four Arch → five ≡ laid bytes
laid_in_turn bytes none one two three four five is_none is_one is_two is_three is_four is_five =
    is_five ∙ ap (λ (calls : List Call). with_laid (bytes Arch) calls Arch)
    (is_four ∙ ap (λ (calls : List Call). with_laid (bytes Log1) calls Log1)
    (is_three ∙ ap (λ (calls : List Call). with_laid (bytes Log0) calls Log0)
    (is_two ∙ ap (λ (calls : List Call). with_laid (bytes Base1) calls Base1)
    (is_one ∙ ap (λ (calls : List Call). with_laid (bytes Base0) calls Base0) is_none))))

overlaid_empty : (piece : List ℕ) → overlaid [] 0 piece ≡ piece
overlaid_empty piece = ap (λ (rest : List ℕ). piece ++ rest) (drop_all (0 + length piece) [] (omega arith)) ∙ append-nil piece

-- a file that holds just these bytes, all of them safe
abbrev at_rest : List ℕ → Track
at_rest bytes = record { seen = bytes; safe = bytes; since = [] }

laid_track : (bytes : File → List ℕ) (file : File) → track_of (laid bytes) file ≡ at_rest (bytes file)
laid_track bytes Base0 = ap at_rest (overlaid_empty (bytes Base0))
laid_track bytes Base1 = ap at_rest (overlaid_empty (bytes Base1))
laid_track bytes Log0 = ap at_rest (overlaid_empty (bytes Log0))
laid_track bytes Log1 = ap at_rest (overlaid_empty (bytes Log1))
laid_track bytes Arch = ap at_rest (overlaid_empty (bytes Arch))

pub laid_seen : (bytes : File → List ℕ) (calls : List Call) → calls ≡ laid bytes → (file : File) → (shown_of calls).seen file ≡ bytes file
laid_seen bytes calls is file = ap (λ (made : List Call). (track_of made file).seen) is ∙ ap (λ (track : Track). track.seen) (laid_track bytes file)

pub laid_settled : (bytes : File → List ℕ) (calls : List Call) → calls ≡ laid bytes → (file : File) → IsSettled (shown_of calls) file
laid_settled bytes calls is file = λ left now.
    only_seen (at_rest (bytes file)) left (subst (λ (track : Track). IsLeft track left) (ap (λ (made : List Call). track_of made file) is ∙ laid_track bytes file) now)
    ∙ sym (laid_seen bytes calls is file)

-- a disk that is made of what a choice leaves has an image of the other one
pub laid_image : (choice : ℕ) (old calls : List Call) → calls ≡ laid (λ file. left_by choice (track_of old file)) → IsImage (shown_of old) (shown_of calls).seen
laid_image choice old calls is = λ file. subst (λ (bytes : List ℕ). IsLeft (track_of old file) bytes) (sym (laid_seen (λ file. left_by choice (track_of old file)) calls is file)) (left_by_left choice (track_of old file) (track_agrees old file))
