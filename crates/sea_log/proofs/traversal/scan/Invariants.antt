use Rattle.std.proofs.Common.{◌-◌}
use Rattle.sea_log.proofs.Scanned.{IsScanning}
use Rattle.sea_log.proofs.traversal.scan.Given as goal

abbrev pub invariant-loop-piece : goal.invariant-loop-piece
invariant-loop-piece g l =
    IsScanning g.D.Disk.told (g.D.Disk.shows l.fn.disk) (g.D.Disk.shows l.disk) l.fn.file l.whole.size l.payloads l.end l.piece.bytes.items l.piece.from (g.D.Disk.faults l.fn.disk) (g.D.Disk.faults l.disk) (g.D.Disk.failed l.fn.disk) (g.D.Disk.failed l.disk)

abbrev pub decreases-loop-piece : goal.decreases-loop-piece
decreases-loop-piece g l = l.whole.size - l.end
