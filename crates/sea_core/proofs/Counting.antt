-- Each version since the opening has its entry.
use Rattle.std.proofs.Common.{◌≡◌, ◌++◌, ◌<◌, ℕ, ◌+◌, ◌-◌, min, List, [], ◌∷◌, length, take, drop, slice_get, get_or, Some, Ok, refl, sym, ap, ◌∙◌, arith}
use Rattle.std.proofs.lemmas.List.{length-take, length-drop, get_or-take, get_or-drop}
use Rattle.std.proofs.lemmas.Option.{slice_get_within, get_or_from_slice_get, slice_get-get_or}
use Rattle.sea_operation.specs.declared.base.Plain.{Plain}
use Rattle.sea_operation.specs.declared.operation.Entry.{Entry}
use Rattle.sea_operation.specs.Apply.{apply, after, after_from, after_result}
use Rattle.sea_core.specs.declared.feed.Feed.{Feed}
use Rattle.sea_core.specs.Edits.{Edited}
use Rattle.sea_core.specs.Feeds.{Fed, entry_at, IsCounted}
use Rattle.sea_core.specs.State.{CoreState}
use Rattle.sea_core.proofs.Making.{version_rises, first_is_taken}

-- ---- a base after a list of entries

-- each of them made a version
after_counts : (count : ℕ) (base : Plain) (entries : List Entry) (final : Plain) → after_from count base entries ≡ Ok final → final.version ≡ base.version + length entries
after_counts count base [] final same = let is : base ≡ final = cc in omega (arith, ap (λ (it : Plain). it.version) is)
after_counts count base (entry ∷ entries) final same =
    let first = first_is_taken (λ next. after_from (count + 1) next entries) count (apply base entry) final same in
    omega (arith, after_counts (count + 1) first.0 entries final first.2, version_rises base first.0 entry first.1)

pub counted_as : (opening : Plain) (history : List Entry) (content : Plain) → after opening history ≡ Ok content → content.version ≡ opening.version + length history
counted_as opening history content held = after_counts 0 opening history content held

pub counted : {D : Type 0} (core : CoreState D) → after core.opening core.history ≡ Ok core.content → IsCounted core
counted core held = counted_as core.opening core.history core.content held

-- one entry more
after_one_more : (count : ℕ) (base : Plain) (entries : List Entry) (mid : Plain) (entry : Entry) (next : Plain) → after_from count base entries ≡ Ok mid → apply mid entry ≡ Ok next → after_from count base (entries ++ entry ∷ []) ≡ Ok next
after_one_more count base [] mid entry next same made =
    let is : base ≡ mid = cc in
    ap (after_result (λ it. after_from (count + 1) it []) count) (ap (λ it. apply it entry) is ∙ made)
after_one_more count base (first ∷ entries) mid entry next same made =
    let taken = first_is_taken (λ it. after_from (count + 1) it entries) count (apply base first) mid same in
    ap (after_result (λ it. after_from (count + 1) it (entries ++ entry ∷ [])) count) taken.1 ∙ after_one_more (count + 1) taken.0 entries mid entry next taken.2 made

pub after_entry : (opening : Plain) (history longer : List Entry) (content next : Plain) (entry : Entry) → after opening history ≡ Ok content → apply content entry ≡ Ok next → longer ≡ history ++ entry ∷ [] → after opening longer ≡ Ok next
after_entry opening history longer content next entry held made pushed = ap (after opening) pushed ∙ after_one_more 0 opening history content entry next held made

-- ---- each version's entry

last_of : {X : Type 0} (front : List X) (last : X) → slice_get (front ++ last ∷ []) (length front) ≡ Some last
last_of [] last = refl
last_of (_ ∷ front) last = last_of front last

-- an accepted entry is that of the version that the edit answers
pub edit_places : {D : Type 0} (old new : CoreState D) (entry : Entry) (version : ℕ) → Edited old new entry (Ok version) → IsCounted old → entry_at new version ≡ Some entry
edit_places old new entry version edited counted =
    let rises = version_rises old.content new.content entry edited.1 in
    let opening : new.opening ≡ old.opening = ap (λ (it : CoreState _). it.opening) edited.3 in
    let history : new.history ≡ old.history ++ entry ∷ [] = ap (λ (it : CoreState _). it.history) edited.3 in
    let place : version - new.opening.version - 1 ≡ length old.history = omega (arith, edited.2, rises, counted, ap (λ (it : Plain). it.version) opening) in
    ap (λ (all : List Entry). slice_get all (version - new.opening.version - 1)) history ∙ ap (slice_get (old.history ++ entry ∷ [])) place ∙ last_of old.history entry

-- ---- feeds

-- an item of a part of a list
part_at : {X : Type 0} (items : List X) (skipped most at : ℕ) (item : X) → slice_get (take most (drop skipped items)) at ≡ Some item → slice_get items (skipped + at) ≡ Some item
part_at items skipped most at item is =
    let part = take most (drop skipped items) in
    let within : at < length part = slice_get_within part at item is in
    let few : at < most = omega (arith, within, length-take most (drop skipped items)) in
    let there : skipped + at < length items = omega (arith, within, length-take most (drop skipped items), length-drop skipped items) in
    let same : get_or items (skipped + at) item ≡ item = sym (get_or-take most (drop skipped items) at item few ∙ get_or-drop skipped items at item) ∙ get_or_from_slice_get part at item item is in
    slice_get-get_or items (skipped + at) item there ∙ ap Some same

-- a feed gives each version behind its own with that version's entry
pub feed_gives : {D : Type 0} (core : CoreState D) (from most : ℕ) (feed : Feed) → Fed core from most (Ok feed) → (at : ℕ) (entry : Entry) → slice_get feed.entries at ≡ Some entry → entry_at core (feed.first + at) ≡ Some entry
feed_gives core from most feed fed at entry is =
    let skipped = from - core.opening.version in
    let place : feed.first + at - core.opening.version - 1 ≡ skipped + at = omega (arith, fed.0, fed.2) in
    ap (slice_get core.history) place ∙ part_at core.history skipped most at entry (ap (λ (it : List Entry). slice_get it at) (sym fed.3) ∙ is)

-- it has all of them that lie behind its version, or as many as may be
pub feed_counts : {D : Type 0} (core : CoreState D) (from most : ℕ) (feed : Feed) → Fed core from most (Ok feed) → IsCounted core → length feed.entries ≡ min most (core.content.version - from)
feed_counts core from most feed fed counted =
    let rest = drop (from - core.opening.version) core.history in
    omega (arith, ap length fed.3, length-take most rest, length-drop (from - core.opening.version) core.history, counted, fed.0, fed.1)
