-- What a feed gives: the entries that were accepted since the opening, by the versions that they made.
use Rattle.std.specs.Prelude.{◌≡◌, ℕ, ◌+◌, ◌-◌, ◌<◌, ◌≤◌, length, take, drop, slice_get, Option, Result, Ok, Err}
use Rattle.sea_operation.specs.declared.operation.Entry.{Entry}
use Rattle.sea_core.specs.declared.fault.CoreFault.{CoreFault}
use Rattle.sea_core.specs.declared.fault.CoreFault.TheVariants.{Memory, FeedGone, FeedAhead}
use Rattle.sea_core.specs.declared.feed.Feed.{Feed}
use Rattle.sea_core.specs.State.{CoreState}

-- A feed behind the version `from`, of at most `most` entries, which begins with the version behind it. Entries from before
-- the opening are gone, and a version that the base doesn't have yet has none behind it. Want of memory may come in place
-- of any answer.
abbrev pub Fed : {D : Type 0} → CoreState D → ℕ → ℕ → Result Feed CoreFault → Type 0
Fed core from most (Ok feed) =
    (core.opening.version ≤ from) × (from ≤ core.content.version) × (feed.first ≡ from + 1)
    × (feed.entries ≡ take most (drop (from - core.opening.version) core.history)) × (feed.version ≡ core.content.version)
Fed core from most (Err (FeedGone opening)) = (from < opening) × (opening ≡ core.opening.version)
Fed core from most (Err (FeedAhead version)) = (core.opening.version ≤ from) × (version < from) × (version ≡ core.content.version)
Fed core from most (Err Memory) = Unit {0}
Fed core from most (Err _) = ⊥

-- the entry that made a version, if it was accepted since the opening
abbrev pub entry_at : {D : Type 0} → CoreState D → ℕ → Option Entry
entry_at core version = slice_get core.history (version - core.opening.version - 1)

-- each version since the opening has its entry
abbrev pub IsCounted : {D : Type 0} → CoreState D → Type 0
IsCounted core = core.content.version ≡ core.opening.version + length core.history
