-- What a line asks for.
use Rattle.std.specs.Prelude.{ℕ, ◌==◌, ◌||◌, List, [], ◌∷◌, length, slice_index, Bool, if◌then◌else◌, codes}
use Rattle.std.specs.List.{list_any, before_first, after_first}
use Rattle.std.specs.Str.{bytes_eq, is_utf8}
use Rattle.sea_drive.specs.declared.verb.Verb.{Verb}
use Rattle.sea_drive.specs.declared.verb.Verb.TheVariants.{Nothing, Unknown, Later, Edit, Select, Feed, Reopen}

-- the words of the lines that aren't built yet
abbrev pub later_words : List (List ℕ)
later_words =
    codes "open" ∷ codes "read" ∷ codes "close" ∷ codes "state" ∷ codes "archive" ∷ codes "put"
    ∷ codes "settle" ∷ codes "move" ∷ codes "drop" ∷ codes "unarchive" ∷ codes "save" ∷ codes "write"
    ∷ codes "publish" ∷ codes "retire" ∷ codes "cut" ∷ []

-- an empty line, or one that begins with `#`
abbrev pub is_silent : List ℕ → Bool
is_silent text = (length text == 0) || (slice_index text 0 == 35)

-- what a word asks for that has something behind it, be it one space
abbrev pub with_rest : Verb → List ℕ → List ℕ → Verb
with_rest verb word text = if bytes_eq word text then Unknown else verb

-- by its first word; `op`, `sql` and `feed` have something behind them, and `reopen` stands alone
abbrev pub verb_of : List ℕ → List ℕ → Verb
verb_of word text =
    if bytes_eq (codes "op") word then with_rest Edit word text
    else (if bytes_eq (codes "sql") word then with_rest Select word text
    else (if bytes_eq (codes "feed") word then with_rest Feed word text
    else (if bytes_eq (codes "reopen") text then Reopen
    else (if list_any (bytes_eq word) later_words then Later else Unknown))))

-- what a line without its carriage return asks for, and what stands behind its first word, which ends at the first space
abbrev pub asked_by : List ℕ → Verb × List ℕ
asked_by text =
    if is_silent text then (Nothing, [])
    else (if is_utf8 text then (verb_of (before_first (λ byte. byte == 32) text) text, after_first (λ byte. byte == 32) text) else (Unknown, []))
