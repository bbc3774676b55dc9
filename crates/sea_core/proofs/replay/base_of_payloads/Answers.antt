use Rattle.std.proofs.Common.{◌+◌, drop}
use Rattle.std.proofs.lemmas.Result.{err_from_is_err_and}
use Rattle.sea_core.proofs.Making.{replayed_at, replayed_bad, replayed_more, replayed_all}
use Rattle.sea_core.proofs.replay.base_of_payloads.Goals as goal

pub returns-in_err-base-clause-none : goal.returns-in_err-base-clause-none
returns-in_err-base-clause-none c bad =
    let payloads = c.args.payloads.now in
    let at = c.loop-payload.payload-index in
    let p = err_from_is_err_and c.from_residual.result c.from_residual.ensures.1 in
    let none = c.in_err-base.ensures.none (cc (p.1, p.2, bad)) in
    let left = replayed_at payloads c.loop-payload.base at c.payload-item.result c.loop-payload-test.true c.payload-item.is c.loop-payload.invariant in
    replayed_bad payloads c.loop-payload.base c.payload-item.result (drop (at + 1) payloads) left (λ next takes. none next (rw c.as_slice.ensures takes))

pub loop-payload-preserved : goal.loop-payload-preserved
loop-payload-preserved c =
    let payloads = c.args.payloads.now in
    let at = c.loop-payload.payload-index in
    let left = replayed_at payloads c.loop-payload.base at c.payload-item.result c.loop-payload-test.true c.payload-item.is c.loop-payload.invariant in
    replayed_more payloads c.loop-payload.base c.payload-item.result (drop (at + 1) payloads) c.in_ok-base.base left (rw c.as_slice.ensures at c.in_ok-base.ensures.taken) (λ other takes. c.in_ok-base.ensures.only other (rw c.as_slice.ensures takes))

pub returns-clause-made : goal.returns-clause-made
returns-clause-made c = replayed_all c.args.payloads.now c.loop-payload.base c.loop-payload.payload-index c.loop-payload-test.false c.loop-payload.invariant
