use Rattle.std.proofs.Common.{List, ℕ, Some, ap, ◌∙◌, rules, cond, bytes_eq}
use Rattle.std.proofs.lemmas.Map.Text.{btree_map_updates_text}
use Rattle.std.proofs.lemmas.Result.{err_from_is_err_and}
use Rattle.std.specs.BTreeMap.{get_by_text}
use Rattle.std.specs.BTreeSet.{insert_key}
use Rattle.std.specs.Ordering.{nat_cmp}
use Rattle.sea_links.specs.Index.{keys_in, numbers_under}
use Rattle.sea_links.proofs.RowsLaws.{row-written, cond-same}
use Rattle.sea_links.proofs.row_numbers.add_in_rows.Goals as goal

pub returns-in_err-insert-in-Some-clause-err : goal.returns-in_err-insert-in-Some-clause-err
returns-in_err-insert-in-Some-clause-err c =
    let left = c.insert.new.self in
    let new = c.get_mut.follows.lender left in
    let p = err_from_is_err_and c.from_residual.result c.from_residual.ensures.1 in
    rw p.1
    (λ other.
    row-written c.args.rows.now new c.args.id.now left (λ numbers. numbers)
    (btree_map_updates_text c.args.id.now c.args.rows.now new (Some left) ((c.get_mut.follows.holds left).3 (search rules)))
    (c.in_err-insert-in-Some.ensures.err ∙ ap keys_in c.in-Some.ensures.value)
    other
    ∙ cond-same (bytes_eq c.args.id.now other) (numbers_under c.args.rows.now other))

pub returns-in_ok-insert-in-Some-clause-ok : goal.returns-in_ok-insert-in-Some-clause-ok
returns-in_ok-insert-in-Some-clause-ok c =
    let left = c.insert.new.self in
    let new = c.get_mut.follows.lender left in
    row-written c.args.rows.now new c.args.id.now left (λ numbers. insert_key nat_cmp numbers c.args.number)
    (btree_map_updates_text c.args.id.now c.args.rows.now new (Some left) ((c.get_mut.follows.holds left).3 (search rules)))
    (c.in_ok-insert-in-Some.ensures.keys ∙ ap (λ found. insert_key nat_cmp (keys_in found) c.args.number) c.in-Some.ensures.value)

pub returns-in_ok-insert-in-None-2-clause-ok : goal.returns-in_ok-insert-in-None-2-clause-ok
returns-in_ok-insert-in-None-2-clause-ok c =
    row-written c.args.rows.now c.insert-in-None-2.new.self c.args.id.now c.insert-in-None.new.self (λ numbers. insert_key nat_cmp numbers c.args.number)
    (λ other.
    btree_map_updates_text _ c.args.rows.now c.insert-in-None-2.new.self (Some c.insert-in-None.new.self) (rw c.get_mut.follows.holds-at-none at c.in_ok-insert-in-None-2.ensures.updates) other
    ∙ ap (λ (bytes : List ℕ). cond (bytes_eq bytes other) (Some c.insert-in-None.new.self) (get_by_text c.args.rows.now other)) c.in_ok-from_str-in-None.ensures.ok)
    (c.in_ok-insert-in-None.ensures.keys ∙ ap (λ numbers. insert_key nat_cmp numbers c.args.number) (c.new-numbers.ensures.empty ∙ ap keys_in c.in-None.ensures.value))
