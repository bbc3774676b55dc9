use Rattle.std.proofs.Common.{◌≡◌, map}
use Rattle.std.specs.List.{range_with_len}
use Rattle.sea_disk.specs.Traced.{safe_or_one}
use Rattle.sea_disk.proofs.calls.Track.ones.Given as goal

abbrev pub invariant-loop-place : goal.invariant-loop-place
invariant-loop-place l = l.bytes.items ≡ map (safe_or_one l.self) (range_with_len 0 l.place)
