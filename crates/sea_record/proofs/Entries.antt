-- The record of an entry is that of no other.
use Rattle.std.proofs.Common.{◌≡◌, ℕ, ◌+◌, ◌-◌, ◌^◌, List, length, take, drop, Some, Result, Ok, sym, ap, ◌∙◌, arith}
use Rattle.std.specs.Int.{w64}
use Rattle.sea_fields.specs.Fields.{number_at, row_at}
use Rattle.sea_cell.specs.declared.keys.Moment.{Moment}
use Rattle.sea_operation.specs.declared.operation.Entry.{Entry}
use Rattle.sea_operation.specs.declared.operation.Op.{Op}
use Rattle.sea_ops.specs.Operations.{op_of}
use Rattle.sea_record.specs.Record.{minutes_of, IsRecord, HasPlaces, IsReadable}
use Rattle.sea_ops.specs.Texts.{text_of}
use Rattle.sea_record.proofs.Fields.{ReadsAgain, reads_again, same_moment, minutes_fit}

-- what is found twice is the same
same_ok : {A E : Type 0} (r : Result A E) (a b : A) → r ≡ Ok a → r ≡ Ok b → a ≡ b
same_ok r a b e f = cc

-- what is found twice at a place is the same, and so is the next place
pub same_found : {A E : Type 0} (r : Result (A × ℕ) E) (a b : A) (m n : ℕ) → r ≡ Ok (a, m) → r ≡ Ok (b, n) → (a ≡ b) × (m ≡ n)
same_found {A} r a b m n e f = let same = same_ok r (a, m) (b, n) e f in (ap (λ (x : A × ℕ). x.0) same, ap (λ (x : A × ℕ). x.1) same)

-- the fields of a record have places in it
pub places : (payload : List ℕ) (lsn : ℕ) (entry : Entry) → IsRecord payload lsn entry → HasPlaces lsn (minutes_of entry.moment.0) entry.user (text_of entry.op)
places payload lsn entry h = record { number = h.number; time = omega (arith, minutes_fit entry.moment.0 h.moment); user_fits = h.user_fits; text_fits = h.text_fits }

-- the fields of a record of two are the same
pub record SameFields (lsn minutes : ℕ) (user text : List ℕ) (other_lsn other_minutes : ℕ) (other_user other_text : List ℕ) : Type 0 where
  pub number : lsn ≡ other_lsn
  pub time : minutes ≡ other_minutes
  pub name : user ≡ other_user
  pub form : text ≡ other_text

same_fields : (payload : List ℕ) (l m : ℕ) (u t : List ℕ) (k n : ℕ) (v s : List ℕ) → ReadsAgain payload l m u t → ReadsAgain payload k n v s → SameFields l m u t k n v s
same_fields payload l m u t k n v s r q =
    let user = same_found (row_at payload 17 (2 ^ 32 - 1)) _ _ _ _ r.user_at q.user_at in
    let user_length : length u ≡ length v = omega (arith, user.1) in
    let text_there = ap (λ (j : ℕ). row_at payload (21 + j) (2 ^ 32 - 1)) user_length in
    let text = same_found (row_at payload (21 + length u) (2 ^ 32 - 1)) _ _ _ _ r.text_at (text_there ∙ q.text_at) in
    let text_length : length t ≡ length s = omega (arith, text.1) in
    record {
      number = (same_found (number_at w64 payload 0) _ _ _ _ r.lsn_at q.lsn_at).0;
      time = (same_found (number_at w64 payload 9) _ _ _ _ r.minutes_at q.minutes_at).0;
      name = sym r.user_is ∙ ap (λ (j : ℕ). take j (drop 21 payload)) user_length ∙ q.user_is;
      form = sym r.text_is ∙ ap (λ (j : ℕ). take (length t) (drop (25 + j) payload)) user_length ∙ ap (λ (j : ℕ). take j (drop (25 + length v) payload)) text_length ∙ q.text_is;
    }

-- an entry is its parts
abbrev entry_of : Op → Moment → List ℕ → Entry
entry_of op moment user = record { op = op; moment = moment; user = user }

same_parts : (a b : Op) (m n : Moment) (u v : List ℕ) → a ≡ b → m ≡ n → u ≡ v → entry_of a m u ≡ entry_of b n v
same_parts a b m n u v e f g = ap (λ x. entry_of x m u) e ∙ ap (λ x. entry_of b x u) f ∙ ap (entry_of b n) g

-- entries that could be read are the same where their fields are
pub same_entry : (entry other : Entry) → IsReadable entry → IsReadable other → minutes_of entry.moment.0 ≡ minutes_of other.moment.0 → entry.user ≡ other.user → text_of entry.op ≡ text_of other.op → entry ≡ other
same_entry entry other h k time name form =
    let same : Some entry.op ≡ Some other.op = sym h.form ∙ ap op_of form ∙ k.form in
    let moment = same_moment entry.moment.0 other.moment.0 h.moment k.moment time in
    same_parts entry.op other.op entry.moment other.moment entry.user other.user (cc) (ap (λ z. record { 0 = z }) moment) name

-- the entry of a record could be read
pub readable : (payload : List ℕ) (lsn : ℕ) (entry : Entry) → IsRecord payload lsn entry → IsReadable entry
readable payload lsn entry h = record { moment = h.moment; user = h.user; form = h.form }

-- bytes are the record of one entry, under one number
pub one_entry : (payload : List ℕ) (lsn other_lsn : ℕ) (entry other : Entry) → IsRecord payload lsn entry → IsRecord payload other_lsn other → (lsn ≡ other_lsn) × (entry ≡ other)
one_entry payload lsn other_lsn entry other h k =
    let r = reads_again payload _ _ _ _ (places payload lsn entry h) h.bytes in
    let q = reads_again payload _ _ _ _ (places payload other_lsn other k) k.bytes in
    let same = same_fields payload _ _ _ _ _ _ _ _ r q in
    (same.number, same_entry entry other (readable payload lsn entry h) (readable payload other_lsn other k) same.time same.name same.form)
