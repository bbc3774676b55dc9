use Rattle.std.proofs.Common.{◌≡◌, take}
use Rattle.sea_disk.specs.Traced.{track_of}
use Rattle.sea_disk.proofs.calls.Track.after.Given as goal

abbrev pub invariant-loop-call : goal.invariant-loop-call
invariant-loop-call l = l.track ≡ track_of (take l.call-index l.calls) l.file
