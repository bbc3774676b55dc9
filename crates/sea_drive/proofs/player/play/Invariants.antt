use Rattle.std.proofs.Common.{◌≡◌}
use Rattle.sea_lines.specs.Lines.{KeepsTotal}
use Rattle.sea_faults.specs.Counts.{IsCaused}
use Rattle.sea_lines.specs.Reader.{bytes_read, place_of}
use Rattle.sea_drive.specs.Rounds.{Rounds, CountsRound, has_source_fault, has_sink_fault, rounds_left}
use Rattle.sea_drive.specs.Setting.{setting, tape}
use Rattle.sea_drive.proofs.player.play.Given as goal

-- the script goes on or has ended, its clock tells the same, and each fault is counted
abbrev pub invariant-rounds : goal.invariant-rounds
invariant-rounds g l = record {
  rounds : Rounds (setting (g.C.Clock.told l.fn.clock) g.D.Disk.told g.D.Disk.shows g.D.Disk.faults g.D.Disk.failed) l.fn.limits l.fn.disk (tape (g.S.Source.left l.fn.source) (g.S.Source.left l.source) (g.K.Sink.taken l.fn.sink) (g.K.Sink.taken l.sink)) (place_of l.reader (g.S.Source.left l.source)) l.next;
  clock : g.C.Clock.told l.clock ≡ g.C.Clock.told l.fn.clock;
  source : IsCaused (has_source_fault l.next) (g.S.Source.faults l.fn.source) (g.S.Source.faults l.source);
  sink : IsCaused (has_sink_fault l.next) (g.K.Sink.faults l.fn.sink) (g.K.Sink.faults l.sink);
  disk : CountsRound g.D.Disk.faults (g.D.Disk.faults l.fn.disk) l.next;
  total : KeepsTotal (record { read = 0; rest = g.S.Source.left l.fn.source }) (place_of l.reader (g.S.Source.left l.source));
}

abbrev pub decreases-rounds : goal.decreases-rounds
decreases-rounds g l = rounds_left (bytes_read l.reader) l.next
