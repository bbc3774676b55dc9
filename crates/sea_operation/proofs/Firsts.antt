-- What is told as the first is the first.
use Rattle.std.proofs.Common.{◌≡◌, ℕ, ◌+◌, List, [], ◌∷◌, ◌++◌, length, filter, Bool, true, false, cond, not, ◌||◌, ◌&&◌, Option, Some, None, Result, Ok, Err, refl, sym, ap, ◌∙◌, subst, arith}
use Rattle.std.proofs.lemmas.List.{append_assoc, append-nil}
use Rattle.std.proofs.lemmas.List.Folds.{list_any-append}
use Rattle.std.proofs.lemmas.Slice.Eq.{bytes_eq-Decides}
use Rattle.std.specs.List.{list_all, list_any}
use Rattle.std.specs.Str.{bytes_eq}
use Rattle.sea_text.specs.Distinct.{is_among, differs_from, once}
use Rattle.sea_cell.specs.declared.column.Column.{Column}
use Rattle.sea_operation.specs.declared.base.Plain.{Plain}
use Rattle.sea_operation.specs.declared.operation.Entry.{Entry}
use Rattle.sea_operation.specs.declared.operation.NewFilter.{NewFilter}
use Rattle.sea_operation.specs.declared.refusal.OpRefusal.{OpRefusal}
use Rattle.sea_operation.specs.declared.refusal.OpRefusal.TheVariants as refusal
use Rattle.sea_operation.specs.Names.{first_repeat}
use Rattle.sea_operation.specs.Refusal.{bad_filter_from, refusal_of}
use Rattle.sea_operation.specs.Apply.{applied, apply, unless_refused, after, after_from, after_result}
use Rattle.sea_operation.specs.Firsts.{AreFresh, IsFirstRepeat, fits, IsFirstBad, IsFirstRefused, IsLastTaken}

or_false : (a b : Bool) → (a || b) ≡ false → (a ≡ false) × (b ≡ false)
or_false true b h = cc
or_false false b h = (refl, h)

or_none : (a : Bool) → (a || false) ≡ a
or_none true = refl
or_none false = refl

-- ---- repeats

-- a test that each of the texts passes keeps them all
keeps_all : (test : List ℕ → Bool) (texts : List (List ℕ)) → ((one : List ℕ) → is_among texts one ≡ true → test one ≡ true) → filter test texts ≡ texts
keeps_all test [] passes = refl
keeps_all test (text ∷ texts) passes =
    ap (λ (stays : Bool). cond stays (text ∷ filter test texts) (filter test texts)) (passes text (ap (λ (same : Bool). same || is_among texts text) ((bytes_eq-Decides text text).1 refl)))
    ∙ ap (λ (rest : List (List ℕ)). text ∷ rest) (keeps_all test texts (λ one among. passes one (among_more (bytes_eq text one) (is_among texts one) among)))
  where
    among_more : (same among : Bool) → among ≡ true → (same || among) ≡ true
    among_more true among h = refl
    among_more false among h = h

-- these texts are fresh, and none of them stands before them
record FreshBehind (used : List ℕ → Bool) (before texts : List (List ℕ)) : Type 0 where
  fresh : AreFresh used texts
  apart : (one : List ℕ) → is_among texts one ≡ true → is_among before one ≡ false

-- what stands neither before nor is one more
apart_from_both : (before : List (List ℕ)) (text one : List ℕ) → is_among (before ++ text ∷ []) one ≡ false → (is_among before one ≡ false) × (bytes_eq text one ≡ false)
apart_from_both before text one h =
    let both = or_false (is_among before one) (bytes_eq text one || false) (sym (list_any-append (λ it. bytes_eq it one) before (text ∷ [])) ∙ h) in
    (both.0, sym (or_none (bytes_eq text one)) ∙ both.1)

-- one more text in front that isn't told
one_more : (used : List ℕ → Bool) (before texts : List (List ℕ)) (text : List ℕ) → used text ≡ false → is_among before text ≡ false → FreshBehind used (before ++ text ∷ []) texts → FreshBehind used before (text ∷ texts)
unfolding once
one_more used before texts text unused new rest = record {
  fresh = record {
    unused = ap (λ (is : Bool). is || list_any used texts) unused ∙ rest.fresh.unused;
    different = ap (λ (others : List (List ℕ)). text ∷ filter (differs_from text) others) rest.fresh.different ∙ ap (λ (others : List (List ℕ)). text ∷ others) (keeps_all (differs_from text) texts differ);
  };
  apart = λ one among. place one (bytes_eq text one) refl among;
}
  where
    differ : (one : List ℕ) → is_among texts one ≡ true → differs_from text one ≡ true
    differ one among = ap not (apart_from_both before text one (rest.apart one among)).1

    place : (one : List ℕ) (same : Bool) → bytes_eq text one ≡ same → (same || is_among texts one) ≡ true → is_among before one ≡ false
    place one true same among = subst (λ it. is_among before it ≡ false) ((bytes_eq-Decides text one).0 same) new
    place one false same among = (apart_from_both before text one (rest.apart one among)).0

-- where none is told, all are fresh
none_from : (used : List ℕ → Bool) (before texts : List (List ℕ)) → first_repeat used before texts ≡ None → FreshBehind used before texts
unfolding once
none_from used before [] h = record { fresh = record { unused = refl; different = refl }; apart = λ one among. cc }
none_from used before (text ∷ texts) h = place (used text || is_among before text) refl h (none_from used (before ++ text ∷ []) texts)
  where
    place : (told : Bool) → (used text || is_among before text) ≡ told → cond told (Some text) (first_repeat used (before ++ text ∷ []) texts) ≡ None
        → (first_repeat used (before ++ text ∷ []) texts ≡ None → FreshBehind used (before ++ text ∷ []) texts) → FreshBehind used before (text ∷ texts)
    place true is h rest = cc
    place false is h rest = let new = or_false (used text) (is_among before text) is in one_more used before texts text new.0 new.1 (rest h)

pub none_repeats : (used : List ℕ → Bool) (texts : List (List ℕ)) → first_repeat used [] texts ≡ None → AreFresh used texts
none_repeats used texts h = (none_from used [] texts h).fresh

-- the text that is told, and what stands around it
record Told (used : List ℕ → Bool) (before texts : List (List ℕ)) (text : List ℕ) : Type 0 where
  front : List (List ℕ)
  behind : List (List ℕ)
  parts : texts ≡ front ++ text ∷ behind
  repeats : (used text || is_among (before ++ front) text) ≡ true
  none : first_repeat used before front ≡ None

told_from : (used : List ℕ → Bool) (before texts : List (List ℕ)) (text : List ℕ) → first_repeat used before texts ≡ Some text → Told used before texts text
told_from used before [] text h = cc
told_from used before (one ∷ texts) text h = place (used one || is_among before one) refl h (told_from used (before ++ one ∷ []) texts text)
  where
    place : (told : Bool) → (used one || is_among before one) ≡ told → cond told (Some one) (first_repeat used (before ++ one ∷ []) texts) ≡ Some text
        → (first_repeat used (before ++ one ∷ []) texts ≡ Some text → Told used (before ++ one ∷ []) texts text) → Told used before (one ∷ texts) text
    place true is h more =
        let same : one ≡ text = cc in
        record {
          front = [];
          behind = texts;
          parts = ap (λ (it : List ℕ). it ∷ texts) same;
          repeats = ap (λ (all : List (List ℕ)). used text || is_among all text) (append-nil before) ∙ subst (λ it. (used it || is_among before it) ≡ true) same is;
          none = refl;
        }
    place false is h more =
        let rest = more h in
        record {
          front = one ∷ rest.front;
          behind = rest.behind;
          parts = ap (λ (others : List (List ℕ)). one ∷ others) rest.parts;
          repeats = ap (λ (all : List (List ℕ)). used text || is_among all text) (sym (append_assoc before (one ∷ []) rest.front)) ∙ rest.repeats;
          none = ap (λ (told : Bool). cond told (Some one) (first_repeat used (before ++ one ∷ []) rest.front)) is ∙ rest.none;
        }

pub first_repeats : (used : List ℕ → Bool) (texts : List (List ℕ)) (text : List ℕ) → first_repeat used [] texts ≡ Some text → IsFirstRepeat used texts text
first_repeats used texts text h =
    let told = told_from used [] texts text h in
    record { front = told.front; behind = told.behind; parts = told.parts; repeats = told.repeats; fresh = none_repeats used told.front told.none }

-- ---- filters

-- where no filter is told, all fit
pub all_fit : (count : ℕ) (columns : List Column) (filters : List NewFilter) → bad_filter_from count columns filters ≡ None → list_all (fits columns) filters ≡ true
all_fit count columns [] h = refl
all_fit count columns (filter ∷ filters) h = place (fits columns filter) h (all_fit (count + 1) columns filters)
  where
    place : (fit : Bool) → cond fit (bad_filter_from (count + 1) columns filters) (Some (refusal.BadFilter count)) ≡ None
        → (bad_filter_from (count + 1) columns filters ≡ None → list_all (fits columns) filters ≡ true) → (fit && list_all (fits columns) filters) ≡ true
    place true h rest = rest h
    place false h rest = cc

-- the filter whose place is told, counted from here
record Bad (count : ℕ) (columns : List Column) (filters : List NewFilter) (place : ℕ) : Type 0 where
  front : List NewFilter
  filter : NewFilter
  behind : List NewFilter
  parts : filters ≡ front ++ filter ∷ behind
  counted : count + length front ≡ place
  fit : list_all (fits columns) front ≡ true
  bad : fits columns filter ≡ false

bad_from : (count : ℕ) (columns : List Column) (filters : List NewFilter) (place : ℕ) → bad_filter_from count columns filters ≡ Some (refusal.BadFilter place) → Bad count columns filters place
bad_from count columns [] place h = cc
bad_from count columns (filter ∷ filters) place h = at (fits columns filter) refl h (bad_from (count + 1) columns filters place)
  where
    at : (fit : Bool) → fits columns filter ≡ fit → cond fit (bad_filter_from (count + 1) columns filters) (Some (refusal.BadFilter count)) ≡ Some (refusal.BadFilter place)
        → (bad_filter_from (count + 1) columns filters ≡ Some (refusal.BadFilter place) → Bad (count + 1) columns filters place) → Bad count columns (filter ∷ filters) place
    at true is h more =
        let rest = more h in
        record {
          front = filter ∷ rest.front;
          filter = rest.filter;
          behind = rest.behind;
          parts = ap (λ (others : List NewFilter). filter ∷ others) rest.parts;
          counted = omega (arith, rest.counted);
          fit = ap (λ (fit : Bool). fit && list_all (fits columns) rest.front) is ∙ rest.fit;
          bad = rest.bad;
        }
    at false is h more =
        let same : count ≡ place = cc in
        record { front = []; filter = filter; behind = filters; parts = refl; counted = omega (arith, same); fit = refl; bad = is }

pub first_bad : (columns : List Column) (filters : List NewFilter) (place : ℕ) → bad_filter_from 0 columns filters ≡ Some (refusal.BadFilter place) → IsFirstBad columns filters place
first_bad columns filters place h =
    let found = bad_from 0 columns filters place h in
    record { front = found.front; filter = found.filter; behind = found.behind; parts = found.parts; place = omega (arith, found.counted); fit = found.fit; bad = found.bad }

-- ---- entries

-- an entry that is refused, counted from here
record Refused (count : ℕ) (base : Plain) (entries : List Entry) (place : ℕ) (refusal : OpRefusal) : Type 0 where
  front : List Entry
  entry : Entry
  behind : List Entry
  made : Plain
  parts : entries ≡ front ++ entry ∷ behind
  counted : count + length front ≡ place
  taken : after_from count base front ≡ Ok made
  refused : apply made entry ≡ Err refusal

-- one place and one refusal are told
err_parts : (told : Result Plain (ℕ × OpRefusal)) (count place : ℕ) (first other : OpRefusal) → told ≡ Err (count, first) → told ≡ Err (place, other) → (count ≡ place) × (first ≡ other)
err_parts told count place first other is says =
    let same : (count, first) ≡ (place, other) = cc in
    (ap (λ (it : ℕ × OpRefusal). it.0) same, ap (λ (it : ℕ × OpRefusal). it.1) same)

refused_from : (count : ℕ) (base : Plain) (entries : List Entry) (place : ℕ) (refusal : OpRefusal) → after_from count base entries ≡ Err (place, refusal) → Refused count base entries place refusal
refused_from count base [] place refusal h = cc
refused_from count base (entry ∷ entries) place refusal h = at (apply base entry) refl h (λ next. refused_from (count + 1) next entries place refusal)
  where
    at : (made : Result Plain OpRefusal) → apply base entry ≡ made → after_result (λ next. after_from (count + 1) next entries) count made ≡ Err (place, refusal)
        → ((next : Plain) → after_from (count + 1) next entries ≡ Err (place, refusal) → Refused (count + 1) next entries place refusal) → Refused count base (entry ∷ entries) place refusal
    at (Ok next) is h more =
        let rest = more next h in
        record {
          front = entry ∷ rest.front;
          entry = rest.entry;
          behind = rest.behind;
          made = rest.made;
          parts = ap (λ (others : List Entry). entry ∷ others) rest.parts;
          counted = omega (arith, rest.counted);
          taken = ap (after_result (λ more. after_from (count + 1) more rest.front) count) is ∙ rest.taken;
          refused = rest.refused;
        }
    at (Err first) is h more =
        let same = err_parts (Err (count, first)) count place first refusal refl h in
        record { front = []; entry = entry; behind = entries; made = base; parts = refl; counted = omega (arith, same.0); taken = refl; refused = is ∙ ap Err same.1 }

pub first_refused : (base : Plain) (entries : List Entry) (place : ℕ) (refusal : OpRefusal) → after base entries ≡ Err (place, refusal) → IsFirstRefused base entries place refusal
first_refused base entries place refusal h =
    let found = refused_from 0 base entries place refusal h in
    record { front = found.front; entry = found.entry; behind = found.behind; made = found.made; parts = found.parts; place = omega (arith, found.counted); taken = found.taken; refused = found.refused }

-- what takes the last entry is what those before it make
record Taken (count : ℕ) (base : Plain) (before : List Entry) (entry : Entry) (final : Plain) : Type 0 where
  made : Plain
  taken : after_from count base before ≡ Ok made
  last : apply made entry ≡ Ok final

taken_from : (count : ℕ) (base : Plain) (before : List Entry) (entry : Entry) (final : Plain) → after_from count base (before ++ entry ∷ []) ≡ Ok final → Taken count base before entry final
taken_from count base [] entry final h = at (apply base entry) refl h
  where
    at : (made : Result Plain OpRefusal) → apply base entry ≡ made → after_result (λ next. Ok next) count made ≡ Ok final → Taken count base [] entry final
    at (Ok next) is h = let same : next ≡ final = cc in record { made = base; taken = refl; last = is ∙ ap Ok same }
    at (Err refusal) is h = cc
taken_from count base (first ∷ before) entry final h = at (apply base first) refl h (λ next. taken_from (count + 1) next before entry final)
  where
    at : (made : Result Plain OpRefusal) → apply base first ≡ made → after_result (λ next. after_from (count + 1) next (before ++ entry ∷ [])) count made ≡ Ok final
        → ((next : Plain) → after_from (count + 1) next (before ++ entry ∷ []) ≡ Ok final → Taken (count + 1) next before entry final) → Taken count base (first ∷ before) entry final
    at (Ok next) is h more =
        let rest = more next h in
        record { made = rest.made; taken = ap (after_result (λ more. after_from (count + 1) more before) count) is ∙ rest.taken; last = rest.last }
    at (Err refusal) is h more = cc

pub last_taken : (base : Plain) (before : List Entry) (entry : Entry) (final : Plain) → after base (before ++ entry ∷ []) ≡ Ok final → IsLastTaken base before entry final
last_taken base before entry final h =
    let found = taken_from 0 base before entry final h in
    record { made = found.made; taken = found.taken; last = found.last }

-- what isn't refused is the new base, whose version is one more
one_version : (refusal : Option OpRefusal) (base new next : Plain) → new.version ≡ base.version + 1 → unless_refused refusal new ≡ Ok next → next.version ≡ base.version + 1
one_version None base new next rises same = let is : new ≡ next = cc in ap (λ (it : Plain). it.version) (sym is) ∙ rises
one_version (Some refusal) base new next rises same = cc

-- each entry makes one version
versions_from : (count : ℕ) (base : Plain) (entries : List Entry) (final : Plain) → after_from count base entries ≡ Ok final → final.version ≡ base.version + length entries
versions_from count base [] final h = let same : base ≡ final = cc in omega (arith, ap (λ (it : Plain). it.version) same)
versions_from count base (entry ∷ entries) final h = at (apply base entry) refl h (λ next. versions_from (count + 1) next entries final)
  where
    at : (made : Result Plain OpRefusal) → apply base entry ≡ made → after_result (λ next. after_from (count + 1) next entries) count made ≡ Ok final
        → ((next : Plain) → after_from (count + 1) next entries ≡ Ok final → final.version ≡ next.version + length entries) → final.version ≡ base.version + length (entry ∷ entries)
    at (Ok next) is h rest =
        let rises = one_version (refusal_of base entry.moment entry.op) base (applied base entry.moment entry.op) next refl is in
        omega (arith, rest next h, rises)
    at (Err refusal) is h rest = cc

pub versions : (base : Plain) (entries : List Entry) (final : Plain) → after base entries ≡ Ok final → final.version ≡ base.version + length entries
versions base entries final h = versions_from 0 base entries final h
