-- Parts of a file that stand in a piece of it.
use Rattle.std.proofs.Common.{◌≡◌, ℕ, ◌+◌, ◌-◌, ◌^◌, ◌<◌, ◌≤◌, List, ◌∷◌, ◌++◌, length, take, drop, Some, sym, ap, ◌∙◌, arith}
use Rattle.std.proofs.lemmas.List.{append_assoc, take-append-drop, drop-take, drop-drop, take-take}
use Rattle.std.specs.Int.{w32, to_be_bytes}
use Rattle.sea_fields.specs.Fields.{led}
use Rattle.sea_log.specs.Reading.{StandAt, HasPayload}

-- what stands in a piece from a place on stands in the file there
pub part_stands : (bytes content : List ℕ) (from at count : ℕ) → StandAt bytes from content → from ≤ at → at + count ≤ from + length bytes → take count (drop (at - from) bytes) ≡ take count (drop at content)
part_stands bytes content from at count stands behind within =
    let skipped : ℕ = at - from in
    let left : ℕ = length bytes - skipped in
    let all : length bytes ≡ skipped + left = omega arith in
    let place : from + skipped ≡ at = omega arith in
    let tail : drop skipped bytes ≡ take left (drop at content) =
    ap (λ row. drop skipped row) (stands ∙ ap (λ n. take n (drop from content)) all)
    ∙ drop-take skipped left (drop from content)
    ∙ ap (λ row. take left row) (drop-drop skipped from content ∙ ap (λ n. drop n content) place) in
    ap (λ row. take count row) tail ∙ take-take count left (drop at content) (omega arith)

-- an open gate, a length and as many bytes are a record
pub record_stands : (rest payload : List ℕ) (count : ℕ) → take 5 rest ≡ 1 ∷ to_be_bytes w32 count → payload ≡ take count (drop 5 rest) → length payload ≡ count → count < 2 ^ 32 → HasPayload (Some payload) rest
record_stands rest payload count header same long fits =
    let behind : drop count (drop 5 rest) ≡ drop (5 + length payload) rest = drop-drop count 5 rest ∙ ap (λ n. drop (5 + n) rest) (sym long) in
    let tail : drop 5 rest ≡ payload ++ drop (5 + length payload) rest =
    sym (take-append-drop count (drop 5 rest)) ∙ ap (λ row. row ++ drop count (drop 5 rest)) (sym same) ∙ ap (λ row. payload ++ row) behind in
    let split : rest ≡ (1 ∷ led payload) ++ drop (5 + length payload) rest =
    sym (take-append-drop 5 rest)
    ∙ ap (λ row. row ++ drop 5 rest) (header ∙ ap (λ n. 1 ∷ to_be_bytes w32 n) (sym long))
    ∙ ap (λ row. (1 ∷ to_be_bytes w32 (length payload)) ++ row) tail
    ∙ sym (append_assoc (1 ∷ to_be_bytes w32 (length payload)) payload (drop (5 + length payload) rest)) in
    (split, omega arith)
