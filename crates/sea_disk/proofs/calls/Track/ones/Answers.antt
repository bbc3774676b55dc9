use Rattle.std.proofs.Common.{arith}
use Rattle.std.proofs.lemmas.List.FromFn.{map-range_with_len_more}
use Rattle.sea_disk.specs.Traced.{safe_or_one}
use Rattle.sea_disk.proofs.calls.Track.ones.Goals as goal

pub loop-place-preserved : goal.loop-place-preserved
loop-place-preserved c =
    let more = map-range_with_len_more (safe_or_one c.args.self.now) 0 c.loop-place.place c.loop-place.place (omega arith) in
    cc (more, c.in_ok-push.ensures.items)
