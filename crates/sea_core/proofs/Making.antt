-- What payloads make, record by record, and one record more.
use Rattle.std.proofs.Common.{◌≡◌, ◌≢◌, ℕ, suc, ◌+◌, ◌<◌, ◌≤◌, ◌^◌, nat_lt, true, if◌then◌else◌, inl, inr, arith, List, [], ◌∷◌, ◌++◌, length, get_or, drop, add-one, Option, Some, None, Result, Ok, Err, IsErr, refl, sym, ap, ◌∙◌, subst}
use Rattle.std.proofs.Math.Seq.{drop-cons}
use Rattle.std.proofs.lemmas.List.{drop_all}
use Rattle.sea_cell.specs.declared.keys.Moment.{Moment}
use Rattle.sea_operation.specs.declared.base.Plain.{Plain}
use Rattle.sea_operation.specs.declared.operation.Entry.{Entry}
use Rattle.sea_operation.specs.declared.operation.Op.{Op}
use Rattle.sea_operation.specs.declared.refusal.OpRefusal.{OpRefusal}
use Rattle.sea_operation.specs.Base.{empty_base}
use Rattle.sea_operation.specs.Apply.{applied, apply, unless_refused, after_result, after_from}
use Rattle.sea_operation.specs.Refusal.{refusal_of, or_else, spent}
use Rattle.sea_operation.specs.declared.refusal.Counter.TheVariants as counter
use Rattle.sea_operation.specs.declared.refusal.OpRefusal.TheVariants as refusal_of_op
use Rattle.std.proofs.lemmas.Bool.{cases_lt}
use Rattle.std.proofs.lemmas.Bool.Decides.{nat_tests}
use Rattle.sea_record.specs.Record.{IsRecord}
use Rattle.sea_core.specs.Stands.{AreRecords, Makes}
use Rattle.sea_core.specs.Taking.{TakesRecord}

-- ---- an entry that a base takes

applied-version : (base : Plain) (moment : Moment) (op : Op) → (applied base moment op).version ≡ base.version + 1
applied-version base moment op = refl

-- what isn't refused is the new base
not_refused : (refusal : Option OpRefusal) (base next : Plain) → unless_refused refusal base ≡ Ok next → base ≡ next
not_refused None base next same = cc
not_refused (Some refusal) base next same = cc

-- the version rises by one
pub version_rises : (base next : Plain) (entry : Entry) → apply base entry ≡ Ok next → next.version ≡ base.version + 1
version_rises base next entry same =
    let made = not_refused (refusal_of base entry.moment entry.op) (applied base entry.moment entry.op) next same in
    ap (λ (it : Plain). it.version) (sym made) ∙ applied-version base entry.moment entry.op

-- what is taken isn't refused
taken_unrefused : (refusal : Option OpRefusal) (base next : Plain) → unless_refused refusal base ≡ Ok next → refusal ≡ None
taken_unrefused None base next same = refl
taken_unrefused (Some refusal) base next same = absurd (cc)

first_none : {X : Type 0} (first later : Option X) → or_else first later ≡ None → first ≡ None
first_none None later none = refl
first_none (Some x) later none = absurd (cc)

-- a version that isn't spent
unspent : (version : ℕ) → spent counter.Version version 1 (2 ^ 62) ≡ None → version + 1 ≤ 2 ^ 62
unspent version none = elim (cases_lt (2 ^ 62) (version + 1)) [ inl large ↦ absurd (is_spent large) | inr small ↦ small ]
  where
    is_spent : 2 ^ 62 < version + 1 → ⊥
    is_spent large =
        let test : nat_lt (2 ^ 62) (version + 1) ≡ true = grind (arith, nat_tests, large) in
        let some : (if true then Some (refusal_of_op.NumbersSpent counter.Version) else None) ≡ None = ap (λ it. if it then Some (refusal_of_op.NumbersSpent counter.Version) else None) (sym test) ∙ none in
        cc

-- no base is made of a version above 2^62
pub version_within : (base next : Plain) (entry : Entry) → apply base entry ≡ Ok next → next.version ≤ 2 ^ 62
version_within base next entry same =
    let none = taken_unrefused (refusal_of base entry.moment entry.op) (applied base entry.moment entry.op) next same in
    let numbers = first_none _ _ (first_none _ _ none) in
    omega (arith, version_rises base next entry same, unspent base.version (first_none _ _ numbers))

-- where all entries are taken, the first one is
pub first_is_taken : (rest : Plain → Result Plain (ℕ × OpRefusal)) (count : ℕ) (made : Result Plain OpRefusal) (final : Plain) → after_result rest count made ≡ Ok final → (next : Plain) × (made ≡ Ok next) × (rest next ≡ Ok final)
first_is_taken rest count (Ok next) final same = (next, refl, same)
first_is_taken rest count (Err refusal) final same = cc

-- ---- records that a base takes one after another

-- The payloads are the records of the entries that come next, and the base takes them.
abbrev pub MakesFrom : Plain → List (List ℕ) → Plain → Type 0
MakesFrom base [] final = base ≡ final
MakesFrom base (payload ∷ payloads) final = (next : Plain) × TakesRecord base payload next × MakesFrom next payloads final

-- the entries of records are taken one after another
from_entries : (count : ℕ) (base : Plain) (payloads : List (List ℕ)) (entries : List Entry) (final : Plain) → AreRecords (base.version + 1) payloads entries → after_from count base entries ≡ Ok final → MakesFrom base payloads final
from_entries count base [] [] final _ same = cc
from_entries count base [] (entry ∷ entries) final are _ = absurd are
from_entries count base (payload ∷ payloads) [] final are _ = absurd are
from_entries count base (payload ∷ payloads) (entry ∷ entries) final are same =
    let first = first_is_taken (λ next. after_from (count + 1) next entries) count (apply base entry) final same in
    let version = version_rises base first.0 entry first.1 in
    let rest = subst (λ lsn. AreRecords (lsn + 1) payloads entries) (sym version) are.1 in
    (first.0, record { entry = entry; is_record = are.0; applied = first.1 }, from_entries (count + 1) first.0 payloads entries final rest first.2)

-- entries whose records payloads are, and which make one base of another
record Entries (count : ℕ) (base : Plain) (payloads : List (List ℕ)) (final : Plain) : Type 0 where
  entries : List Entry
  are : AreRecords (base.version + 1) payloads entries
  taken : after_from count base entries ≡ Ok final

-- payloads that are taken one after another are the records of entries
entries_of : (count : ℕ) (base : Plain) (payloads : List (List ℕ)) (final : Plain) → MakesFrom base payloads final → Entries count base payloads final
entries_of count base [] final same = record { entries = []; are = tt; taken = ap Ok same }
entries_of count base (payload ∷ payloads) final (next, takes, rest) =
    let more = entries_of (count + 1) next payloads final rest in
    let version = version_rises base next takes.entry takes.applied in
    record {
      entries = takes.entry ∷ more.entries;
      are = (takes.is_record, subst (λ lsn. AreRecords (lsn + 1) payloads more.entries) version more.are);
      taken = ap (after_result (λ after. after_from (count + 1) after more.entries) count) takes.applied ∙ more.taken;
    }

-- what payloads make, they make record by record from the empty base on
pub makes_from : (payloads : List (List ℕ)) (base : Plain) → Makes payloads base → MakesFrom empty_base payloads base
makes_from payloads base makes = from_entries 0 empty_base payloads makes.entries base makes.records makes.taken

pub from_makes : (payloads : List (List ℕ)) (base : Plain) → MakesFrom empty_base payloads base → Makes payloads base
from_makes payloads base from =
    let all = entries_of 0 empty_base payloads base from in
    record { entries = all.entries; records = all.are; taken = all.taken }

-- one record more
from_push : (base : Plain) (payloads : List (List ℕ)) (mid : Plain) (payload : List ℕ) (next : Plain) → MakesFrom base payloads mid → TakesRecord mid payload next → MakesFrom base (payloads ++ payload ∷ []) next
from_push base [] mid payload next same takes = (next, subst (λ was. TakesRecord was payload next) (sym same) takes, refl)
from_push base (first ∷ payloads) mid payload next (after, took, rest) takes = (after, took, from_push after payloads mid payload next rest takes)

pub makes_push : (payloads : List (List ℕ)) (base : Plain) (payload : List ℕ) (next : Plain) → Makes payloads base → TakesRecord base payload next → Makes (payloads ++ payload ∷ []) next
makes_push payloads base payload next makes takes = from_makes (payloads ++ payload ∷ []) next (from_push empty_base payloads base payload next (makes_from payloads base makes) takes)

-- ---- what payloads make is one base

-- no payload is the record of two entries
abbrev pub HaveOneEntry : Type 0
HaveOneEntry = (payload : List ℕ) (lsn other_lsn : ℕ) (entry other : Entry) → IsRecord payload lsn entry → IsRecord payload other_lsn other → (lsn ≡ other_lsn) × (entry ≡ other)

-- a base that takes a record becomes one base
pub one_next : HaveOneEntry → (base : Plain) (payload : List ℕ) (one other : Plain) → TakesRecord base payload one → TakesRecord base payload other → one ≡ other
one_next unique base payload one other first second =
    let same = (unique payload (base.version + 1) (base.version + 1) first.entry second.entry first.is_record second.is_record).1 in
    let made : Ok one ≡ Ok other = sym first.applied ∙ ap (apply base) same ∙ second.applied in
    cc

one_from : HaveOneEntry → (base : Plain) (payloads : List (List ℕ)) (one other : Plain) → MakesFrom base payloads one → MakesFrom base payloads other → one ≡ other
one_from unique base [] one other first second = sym first ∙ second
one_from unique base (payload ∷ payloads) one other (next, takes, rest) (after, took, more) =
    let same = one_next unique base payload next after takes took in
    one_from unique after payloads one other (subst (λ it. MakesFrom it payloads one) same rest) more

pub one_made : HaveOneEntry → (payloads : List (List ℕ)) (one other : Plain) → Makes payloads one → Makes payloads other → one ≡ other
one_made unique payloads one other first second = one_from unique empty_base payloads one other (makes_from payloads one first) (makes_from payloads other second)

-- ---- the next record of a base

-- the record is the next one of a base that takes its entry
pub takes_record : (base : Plain) (payload : List ℕ) (lsn : ℕ) (entry : Entry) (next : Plain) → IsRecord payload lsn entry → apply base entry ≡ Ok next → lsn ≡ next.version → TakesRecord base payload next
takes_record base payload lsn entry next is made number =
    record { entry = entry; is_record = subst (λ n. IsRecord payload n entry) (number ∙ version_rises base next entry made) is; applied = made }

-- it isn't where its number is another
pub another_number : HaveOneEntry → (base : Plain) (payload : List ℕ) (lsn : ℕ) (entry : Entry) (next : Plain) → IsRecord payload lsn entry → apply base entry ≡ Ok next → lsn ≢ next.version → (other : Plain) → ¬ TakesRecord base payload other
another_number unique base payload lsn entry next is made differs other takes =
    let number = (unique payload lsn (base.version + 1) entry takes.entry is takes.is_record).0 in
    differs (number ∙ sym (version_rises base next entry made))

-- nor where the base refuses its entry
pub refused_record : HaveOneEntry → (base : Plain) (payload : List ℕ) (lsn : ℕ) (entry : Entry) → IsRecord payload lsn entry → IsErr (apply base entry) → (other : Plain) → ¬ TakesRecord base payload other
refused_record unique base payload lsn entry is refused other takes =
    let same = (unique payload lsn (base.version + 1) entry takes.entry is takes.is_record).1 in
    let made : apply base entry ≡ Ok other = ap (apply base) same ∙ takes.applied in
    none_refused (apply base entry) made refused
  where
    none_refused : (made : Result Plain OpRefusal) → made ≡ Ok other → IsErr made → ⊥
    none_refused (Ok _) _ h = absurd (cc)
    none_refused (Err _) same _ = absurd (cc)

-- ---- a replay

-- the payloads that are left make of the present base what all of them make
pub record IsReplayed (payloads : List (List ℕ)) (base : Plain) (rest : List (List ℕ)) : Type 0 where
  pub there : (final : Plain) → MakesFrom empty_base payloads final → MakesFrom base rest final
  pub back : (final : Plain) → MakesFrom base rest final → MakesFrom empty_base payloads final

pub replayed_none : (payloads : List (List ℕ)) → IsReplayed payloads empty_base payloads
replayed_none payloads = record { there = λ final from. from; back = λ final from. from }

pub replayed_more : (payloads : List (List ℕ)) (base : Plain) (payload : List ℕ) (rest : List (List ℕ)) (next : Plain) → IsReplayed payloads base (payload ∷ rest) → TakesRecord base payload next → ((other : Plain) → TakesRecord base payload other → other ≡ next) → IsReplayed payloads next rest
replayed_more payloads base payload rest next replayed takes only = record {
  there = λ final from.
      let (after, took, more) = replayed.there final from in
      subst (λ it. MakesFrom it rest final) (only after took) more;
  back = λ final from. replayed.back final (next, takes, from);
}

-- what is left begins with the next payload
pub replayed_at : (payloads : List (List ℕ)) (base : Plain) (at : ℕ) (payload : List ℕ) → at < length payloads → payload ≡ get_or payloads at payload → IsReplayed payloads base (drop at payloads) → IsReplayed payloads base (payload ∷ drop (at + 1) payloads)
replayed_at payloads base at payload within is replayed =
    let begins : drop at payloads ≡ payload ∷ drop (at + 1) payloads = rw (add-one, drop-cons payloads at payload) (ap (λ it. it ∷ drop (suc at) payloads) (sym is)) in
    subst (λ rest. IsReplayed payloads base rest) begins replayed

-- no base is made where a record isn't the next one
pub replayed_bad : (payloads : List (List ℕ)) (base : Plain) (payload : List ℕ) (rest : List (List ℕ)) → IsReplayed payloads base (payload ∷ rest) → ((next : Plain) → ¬ TakesRecord base payload next) → (final : Plain) → ¬ Makes payloads final
replayed_bad payloads base payload rest replayed none final makes =
    let (after, took, more) = replayed.there final (makes_from payloads final makes) in
    none after took

-- the base is made where no record is left
pub replayed_all : (payloads : List (List ℕ)) (base : Plain) (at : ℕ) → length payloads ≤ at → IsReplayed payloads base (drop at payloads) → Makes payloads base
replayed_all payloads base at past replayed =
    from_makes payloads base (replayed.back base (subst (λ rest. MakesFrom base rest base) (sym (drop_all at payloads past)) refl))

-- ---- the version of what is made

after_within : (count : ℕ) (base : Plain) (entries : List Entry) (final : Plain) → base.version ≤ 2 ^ 62 → after_from count base entries ≡ Ok final → final.version ≤ 2 ^ 62
after_within count base [] final small same = let is : base ≡ final = cc in subst (λ (it : Plain). it.version ≤ 2 ^ 62) is small
after_within count base (entry ∷ entries) final small same =
    let first = first_is_taken (λ next. after_from (count + 1) next entries) count (apply base entry) final same in
    after_within (count + 1) first.0 entries final (version_within base first.0 entry first.1) first.2

pub made_within : (payloads : List (List ℕ)) (base : Plain) → Makes payloads base → base.version ≤ 2 ^ 62
made_within payloads base makes = after_within 0 empty_base makes.entries base (omega arith) makes.taken
