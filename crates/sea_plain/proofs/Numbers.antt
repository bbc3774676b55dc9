-- Numbers that aren't spent have room for what an operation makes.
use Rattle.std.proofs.Common.{◌≡◌, ◌⊎◌, ℕ, ◌+◌, ◌^◌, ◌≤◌, Bool, true, false, cond, nat_lt, ◌&&◌, Option, Some, None, inl, inr, refl}
use Rattle.std.proofs.lemmas.Bool.{ltb-false}
use Rattle.sea_operation.specs.declared.operation.Op.{Op}
use Rattle.sea_operation.specs.declared.refusal.Counter.{Counter}
use Rattle.sea_operation.specs.declared.refusal.Counter.TheVariants as counter
use Rattle.sea_operation.specs.declared.refusal.OpRefusal.TheVariants.{NumbersSpent}
use Rattle.sea_operation.specs.Makes.{columns_made, links_made, tables_made, rows_made}
use Rattle.sea_operation.specs.Refusal.{or_else, spent, numbers_spent, seen_refusal}
use Rattle.sea_operation.specs.Seen.{Seen}

-- where neither of two is there
neither : {X : Type 0} → (one other : Option X) → or_else one other ≡ None → (one ≡ None) × (other ≡ None)
neither None other h = (refl, h)
neither (Some x) other h = cc

-- nothing comes of a test only where it fails
fails : {X : Type 0} → (b : Bool) (x : X) → cond b (Some x) None ≡ None → b ≡ false
fails true x h = cc
fails false x h = refl

-- one of two tests fails
one_fails : (a b : Bool) → (a && b) ≡ false → (a ≡ false) ⊎ (b ≡ false)
one_fails true b h = inr h
one_fails false b h = inl refl

-- a number that isn't spent doesn't rise, or stays within its last value
within : (name : Counter) (value more last : ℕ) → spent name value more last ≡ None → (more ≤ 0) ⊎ (value + more ≤ last)
within name value more last h =
    elim (one_fails (nat_lt 0 more) (nat_lt last (value + more)) (fails (nat_lt 0 more && nat_lt last (value + more)) (NumbersSpent name) h)) [
      | inl none ↦ inl (ltb-false 0 more none)
      | inr low ↦ inr (ltb-false last (value + more) low)
    ]

-- a base has room for what an operation makes
pub record HasRoom (seen : Seen) (op : Op) : Type 0 where
  pub rows : (rows_made op ≤ 0) ⊎ (seen.counters.row + rows_made op ≤ 2 ^ 62)
  pub tables : (tables_made op ≤ 0) ⊎ (seen.counters.table + tables_made op ≤ 4294967295)
  pub columns : (columns_made op ≤ 0) ⊎ (seen.counters.column + columns_made op ≤ 4294967295)
  pub links : (links_made op ≤ 0) ⊎ (seen.counters.link + links_made op ≤ 4294967295)

pub has_room : (seen : Seen) (op : Op) → numbers_spent seen op ≡ None → HasRoom seen op
has_room seen op h =
    let version = neither (spent counter.Version seen.counters.version 1 (2 ^ 62)) _ h in
    let rows = neither (spent counter.NextRow seen.counters.row (rows_made op) (2 ^ 62)) _ version.1 in
    let tables = neither (spent counter.NextTable seen.counters.table (tables_made op) 4294967295) _ rows.1 in
    let columns = neither (spent counter.NextColumn seen.counters.column (columns_made op) 4294967295) _ tables.1 in
    record {
      rows = within counter.NextRow seen.counters.row (rows_made op) (2 ^ 62) rows.0;
      tables = within counter.NextTable seen.counters.table (tables_made op) 4294967295 tables.0;
      columns = within counter.NextColumn seen.counters.column (columns_made op) 4294967295 columns.0;
      links = within counter.NextLink seen.counters.link (links_made op) 4294967295 columns.1;
    }

-- an operation that isn't refused spends no number
pub unspent : (seen : Seen) (op : Op) → seen_refusal seen op ≡ None → numbers_spent seen op ≡ None
unspent seen op h = (neither (numbers_spent seen op) _ h).0
