use Rattle.std.proofs.Common.{sym, ap, ◌∙◌, ◌&&◌, Bool}
use Rattle.std.proofs.lemmas.Result.{IfOk-weaker}
use Rattle.sea_operation.specs.Seen.{has_row}
use Rattle.sea_operation.proofs.There.{any_there}
use Rattle.sea_operation.proofs.seen.which_of_base.Goals as goal

-- the ids that are wanted are the ids
pub returns : goal.returns
returns c =
    let has = has_row c.args.tables.now c.args.no in
    IfOk-weaker c.which_of_tables.result _ _
    (λ found is id. is id ∙ ap (λ (wanted : Bool). wanted && has id) (c.in_ok-wanted.ensures id) ∙ sym (any_there has c.args.ids.now id))
    c.which_of_tables.ensures
