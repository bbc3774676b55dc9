use Rattle.std.proofs.Common.{[], arith}
use Rattle.std.proofs.lemmas.Result.{err_from_is_err_and}
use Rattle.sea_core.proofs.Found.{some_record}
use Rattle.sea_core.proofs.contents.check_empty.Goals as goal

pub returns-in_err-found-clause-some : goal.returns-in_err-found-clause-some
returns-in_err-found-clause-some g c told bad =
    let p = err_from_is_err_and c.from_residual.result c.from_residual.ensures.1 in
    c.in_err-found.ensures.bad told (cc (p.1, p.2, bad)) []

pub returns-then-len-gt0-clause-some : goal.returns-then-len-gt0-clause-some
returns-then-len-gt0-clause-some g c told _ =
    let found = c.in_ok-found.found in
    some_record c.one_list_at_most.ensures ((g.D.Disk.shows c.args.disk.now).seen c.args.file) found.payloads found.end (c.in_ok-found.ensures.list told) (omega arith)
