-- The JSON of a feed.
use Rattle.std.specs.Prelude.{ℕ, ◌+◌, List, [], ◌∷◌, codes}
use Rattle.serde_json.specs.Data.{Data, number, unsigned, string, array, object, member, no_members}
use Rattle.serde_json.specs.View.{items_of}
use Rattle.sea_moment.specs.Dates.{moment_text}
use Rattle.sea_operation.specs.declared.operation.Entry.{Entry}
use Rattle.sea_ops.specs.Texts.{json_of}
use Rattle.sea_core.specs.declared.feed.Feed.{Feed}

-- an entry with the version that it made
abbrev pub entry_json : ℕ → Entry → Data
entry_json version entry =
    object (member (codes "moment") (string (moment_text entry.moment.0)) (member (codes "op") (json_of entry.op)
    (member (codes "user") (string entry.user) (member (codes "version") (number (unsigned version)) no_members))))

-- entries with their versions, where the first one made this version
abbrev pub entries_json : ℕ → List Entry → List Data
entries_json version [] = []
entries_json version (entry ∷ entries) = entry_json version entry ∷ entries_json (version + 1) entries

-- the entries, and the base's version
abbrev pub feed_json : Feed → Data
feed_json feed =
    object (member (codes "entries") (array (items_of (entries_json feed.first feed.entries))) (member (codes "version") (number (unsigned feed.version)) no_members))
