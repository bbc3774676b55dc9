use Rattle.std.proofs.Common.{◌≡◌, ◌+◌, ◌-◌, ◌^◌, ◌<◌, min, length, take, drop, Some, sym, ap, ◌∙◌, arith}
use Rattle.std.proofs.lemmas.List.{length-drop, drop-drop}
use Rattle.sea_log.specs.Reading.{HasLength}
use Rattle.sea_log.proofs.Pieces.{record_stands}
use Rattle.sea_log.proofs.traversal.next_payload.Goals as goal

pub returns-clause-payload : goal.returns-clause-payload
returns-clause-payload g c told =
    let seen = (g.D.Disk.shows c.args.disk.now).seen c.args.whole.file in
    let rest = drop c.args.end seen in
    let count = c.in-Some.length in
    let left : c.args.whole.size - c.args.end ≡ length rest = omega (arith, length-drop c.args.end seen, c.requires.size told) in
    let header : c.part.result.now ≡ take (min (c.args.whole.size - c.args.end) 5) rest = c.part.ensures.bytes seen (c.in_ok-reach.ensures.piece told) ∙ ap (λ n. take n rest) c.min-count.ensures in
    let has : HasLength (Some count) rest = rw c.in-Some.is at (c.in_ok-length.ensures.length rest header left) in
    let mid = (g.D.Disk.shows c.reach.new.disk).seen c.args.whole.file in
    let moved : mid ≡ seen = (c.reach.ensures.rests told).seen c.args.whole.file in
    let all : c.from.result ≡ count = omega arith in
    let same : c.in_ok-payload.payload ≡ take count (drop 5 rest) =
    c.in_ok-payload.ensures.payload told
    ∙ ap (λ n. take n (drop (c.args.end + 5) mid)) all
    ∙ ap (λ content. take count (drop (c.args.end + 5) content)) moved
    ∙ ap (λ row. take count row) (sym (drop-drop 5 c.args.end seen)) in
    let fits : count < 2 ^ 32 = rw c.in-Some.is at c.in_ok-length.ensures.fits in
    record_stands rest c.in_ok-payload.payload count has.0 same (c.in_ok-payload.ensures.length ∙ all) fits
