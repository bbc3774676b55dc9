-- What is shown of a plain base is what is seen of it.
use Rattle.std.proofs.Common.{◌≡◌, ℕ, List, Bool, ap, ◌∙◌}
use Rattle.sea_cell.specs.declared.keys.TableNo.{TableNo}
use Rattle.sea_schema.specs.Layout.{Layout}
use Rattle.sea_operation.specs.declared.base.Plain.{Plain}
use Rattle.sea_operation.specs.declared.seen.Counters.{Counters}
use Rattle.sea_operation.specs.Seen.{seen_of}
use Rattle.sea_ops.specs.Beside.{seen_beside, Shows}

-- two tests that agree everywhere are one
one_test : (one other : TableNo → List ℕ → Bool) → ((table : TableNo) (id : List ℕ) → one table id ≡ other table id) → one ≡ other
one_test one other same = λ i. λ table id. same table id i

one_relation : (one other : ℕ → List ℕ → List ℕ → Bool) → ((link : ℕ) (first second : List ℕ) → one link first second ≡ other link first second) → one ≡ other
one_relation one other same = λ i. λ link first second. same link first second i

pub same_seen : (schema : Layout) (counters : Counters) (has : TableNo → List ℕ → Bool) (linked : ℕ → List ℕ → List ℕ → Bool) (count : ℕ) (base : Plain)
    → Shows schema counters has linked count base → seen_beside schema counters has linked count ≡ seen_of base
same_seen schema counters has linked count base shows =
    ap (λ it. record { tables = it; counters = counters; has = has; linked = linked; pair_count = count }) shows.tables
    ∙ ap (λ it. record { tables = (seen_of base).tables; counters = it; has = has; linked = linked; pair_count = count }) shows.numbers
    ∙ ap (λ it. record { tables = (seen_of base).tables; counters = (seen_of base).counters; has = it; linked = linked; pair_count = count }) (one_test has (seen_of base).has shows.ids)
    ∙ ap (λ it. record { tables = (seen_of base).tables; counters = (seen_of base).counters; has = (seen_of base).has; linked = it; pair_count = count }) (one_relation linked (seen_of base).linked shows.links)
    ∙ ap (λ it. record { tables = (seen_of base).tables; counters = (seen_of base).counters; has = (seen_of base).has; linked = (seen_of base).linked; pair_count = it }) shows.pairs
