use Rattle.std.proofs.Common.{◌≡◌, max, length, take, fold}
use Rattle.sea_disk.proofs.calls.Track.largest.Given as goal

abbrev pub invariant-loop-note : goal.invariant-loop-note
invariant-loop-note l = l.size ≡ fold (λ size note. max size note.most) (length l.self.safe) (take l.note-index l.self.since)
