use Rattle.std.proofs.Common.{Err, ap}
use Rattle.std.proofs.lemmas.Result.{err_from_is_err_and}
use Rattle.sea_core.proofs.Found.{only_bad}
use Rattle.sea_core.proofs.contents.scan_log.Goals as goal

pub returns-in_err-found-clause-bad : goal.returns-in_err-found-clause-bad
returns-in_err-found-clause-bad g c told bad payloads holds =
    let p = err_from_is_err_and c.from_residual.result c.from_residual.ensures.1 in
    let is = only_bad c.in_err-found.field-0.0 (cc (p.1, p.2, bad)) (λ size e. c.in_err-found.ensures.not_full size (ap Err e)) in
    c.in_err-found.ensures.bad told (ap Err is) payloads holds
