use Rattle.std.proofs.Common.{◌≡◌, ℕ, List, false, sym, ◌∙◌, refl, rules}
use Rattle.std.specs.BTreeSet.{contains_text}
use Rattle.sea_operation.specs.Seen.{has_id}
use Rattle.sea_refusal.proofs.Repeats.{none_there}
use Rattle.sea_refusal.proofs.ids.which.Goals as goal

-- a table that isn't there has no rows
pub returns-in-None : goal.returns-in-None
returns-in-None g c =
    let has = has_id (g.S.SeenBase.seen c.args.seen.now) c.args.table.now in
    let none : (text : List ℕ) → has text ≡ false = λ text. rw (← c.table.ensures, c.in-None.is) refl in
    let empty : (id : List ℕ) → contains_text c.new.result id ≡ false = λ id. search rules in
    λ id. empty id ∙ sym (none_there has c.args.ids.now id none)
