-- The JSON of entries with the versions that they made.
use Rattle.std.proofs.Common.{◌≡◌, ℕ, ◌+◌, ◌<◌, List, [], ◌∷◌, ◌++◌, length, take, get_or, map, add-one, refl, sym, ap, ◌∙◌, arith}
use Rattle.std.proofs.Math.Seq.{take-suc}
use Rattle.std.proofs.lemmas.List.{length-take}
use Rattle.serde_json.specs.Data.{Data}
use Rattle.sea_operation.specs.declared.operation.Entry.{Entry}
use Rattle.sea_drive.specs.Fed.{entry_json, entries_json}

-- an entry more
entries_push : (version : ℕ) (entries : List Entry) (entry : Entry) → entries_json version (entries ++ entry ∷ []) ≡ entries_json version entries ++ entry_json (version + length entries) entry ∷ []
entries_push version [] entry = ap (λ (at : ℕ). entry_json at entry ∷ []) (omega arith)
entries_push version (first ∷ entries) entry = ap (λ (rest : List Data). entry_json version first ∷ rest) (entries_push (version + 1) entries entry ∙ ap (λ (at : ℕ). entries_json (version + 1) entries ++ entry_json at entry ∷ []) (omega arith))

-- the next of some entries
pub entries_next : (version : ℕ) (entries : List Entry) (at : ℕ) (entry : Entry) → at < length entries → entry ≡ get_or entries at entry → entries_json version (take (at + 1) entries) ≡ entries_json version (take at entries) ++ entry_json (version + at) entry ∷ []
entries_next version entries at entry within is =
    let front : take (at + 1) entries ≡ take at entries ++ entry ∷ [] = rw (add-one, take-suc entries at entry within) (ap (λ (it : Entry). take at entries ++ it ∷ []) (sym is)) in
    let long : length (take at entries) ≡ at = omega (arith, length-take at entries) in
    ap (entries_json version) front ∙ entries_push version (take at entries) entry ∙ ap (λ (count : ℕ). entries_json version (take at entries) ++ entry_json (version + count) entry ∷ []) long

-- an item more, seen
pub map_push : {X Y : Type 0} (f : X → Y) (items : List X) (item : X) → map f (items ++ item ∷ []) ≡ map f items ++ f item ∷ []
map_push f [] item = refl
map_push f (first ∷ items) item = ap (λ rest. f first ∷ rest) (map_push f items item)
