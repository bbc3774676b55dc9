use Rattle.std.proofs.Common.{◌+◌, ◌<◌, ◌≤◌, length, drop, Some, subst, ◌∙◌, arith}
use Rattle.std.proofs.lemmas.Result.{err_from_is_err_and}
use Rattle.sea_log.specs.Reading.{IsNoRecord, HasPayload}
use Rattle.sea_log.proofs.Scanned.{scanned_more, ends_bad}
use Rattle.sea_log.proofs.traversal.scan.Goals as goal

pub returns-in_err-payload-clause-bad : goal.returns-in_err-payload-clause-bad
returns-in_err-payload-clause-bad g c told bad payloads holds =
    let seen = (g.D.Disk.shows c.args.disk.now).seen c.args.file in
    let returned = err_from_is_err_and c.from_residual-in_err-payload.result c.from_residual-in_err-payload.ensures.1 in
    let none = c.in_err-payload.ensures.bad told (cc (returned.1, returned.2, bad)) in
    let scanned = c.loop-piece.invariant.scanned told in
    let long : 6 ≤ length seen = omega (arith, scanned.size_is, c.loop-piece.invariant.long) in
    ends_bad seen c.loop-piece.payloads payloads c.loop-piece.end scanned.begins long (subst (λ content. IsNoRecord (drop c.loop-piece.end content)) (scanned.rests.seen c.args.file) none) holds

pub loop-piece-preserved : goal.loop-piece-preserved
loop-piece-preserved g c =
    let payload = c.in-Some.payload in
    let further : c.loop-piece.end + 5 + length payload < c.in_ok-size.size = rw c.in-Some.is at c.in_ok-payload.ensures.further in
    record {
      within = omega (arith, c.len.ensures);
      long = c.loop-piece.invariant.long;
      scanned = λ told.
          let has : HasPayload (Some payload) (drop c.loop-piece.end ((g.D.Disk.shows c.loop-piece.disk).seen c.args.file)) = rw c.in-Some.is at (c.in_ok-payload.ensures.payload told) in
          rw (c.in_ok-push.ensures.ok, c.len.ensures) (scanned_more payload c.next_payload.new.piece.bytes.items c.next_payload.new.piece.from (c.loop-piece.invariant.scanned told) has (c.in_ok-payload.ensures.piece told) (c.next_payload.ensures.rests told));
      faults_are = c.in_ok-payload.ensures.faults ∙ c.loop-piece.invariant.faults_are;
      failed_are = c.next_payload.ensures.failed ∙ c.loop-piece.invariant.failed_are;
    }
