use Rattle.std.proofs.Common.{ℕ, List, [], map, ◌∙◌}
use Rattle.std.proofs.lemmas.Result.{IfOk-weaker}
use Rattle.std.specs.BTreeSet.{contains_text}
use Rattle.sea_operation.specs.Seen.{has_id}
use Rattle.sea_refusal.proofs.Repeats.{agree_on_ids, same_repeat}
use Rattle.sea_refusal.proofs.ids.first_used_of_many.Goals as goal

-- the ids that were found are those that rows have
pub returns : goal.returns
returns g c =
    let found = λ (id : List ℕ). contains_text c.in_ok-found.found id in
    let has = has_id (g.S.SeenBase.seen c.args.seen.now) c.args.table.now in
    let ids = map (λ id. id.0) c.args.ids.now in
    let agree = agree_on_ids found has c.args.ids.now c.in_ok-found.ensures in
    IfOk-weaker c.first_repeat.result _ _ (λ repeat is. is ∙ same_repeat found has [] ids agree) c.first_repeat.ensures
