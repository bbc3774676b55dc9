use Rattle.std.proofs.Common.{◌≡◌, None, Ok}
use Rattle.std.proofs.lemmas.Result.{err_from_is_err_and}
use Rattle.sea_operation.specs.Apply.{apply}
use Rattle.sea_core.specs.Taking.{IsTooLarge}
use Rattle.sea_core.proofs.Editing.{cause_too_large}
use Rattle.sea_core.proofs.base.Core.prepare.Goals as goal

pub returns-in_err-payload : goal.returns-in_err-payload
returns-in_err-payload g c =
    let p = err_from_is_err_and c.from_residual-in_err-payload.result c.from_residual-in_err-payload.ensures.1 in
    let core = c.args.self.now in
    let entry = c.args.entry.now in
    let next = c.in_ok-next.next in
    let fault = c.in_err-payload.field-0.0 in
    let whole : core.failed ≡ None = rw (← c.self.view_is) c.in_default.is in
    let made : apply core.content entry ≡ Ok next = rw (← c.self.view_is) c.in_ok-next.ensures in
    let large : IsTooLarge core.log_end next.version entry fault = rw (← c.self.view_is) c.in_err-payload.ensures in
    rw (p.1, p.2) (cause_too_large core entry next fault whole made large)
