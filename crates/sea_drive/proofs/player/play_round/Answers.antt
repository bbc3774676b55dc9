use Rattle.std.proofs.Common.{◌≤◌, length, Err, ap, sym, arith}
use Rattle.sea_lines.specs.Lines.{line_limit}
use Rattle.sea_lines.specs.Reader.{place_of, unread}
use Rattle.sea_drive.specs.Setting.{setting, tape}
use Rattle.sea_drive.proofs.PlayLaws.{at_end_of}
use Rattle.sea_drive.proofs.RoundLaws.{round_plays, round_ends, round_fails, ends_as}
use Rattle.sea_drive.proofs.player.play_round.Goals as goal

-- a line was read and played
pub returns-in-Ok-Some-clause-rounds : goal.returns-in-Ok-Some-clause-rounds
returns-in-Ok-Some-clause-rounds g c = λ limits disk input taken so_far.
    let line = c.in-Ok-Some.line in
    let read = rw c.in-Ok-Some.field-0-is at c.in-Ok-Some.ensures.line in
    let held = rw c.in-Ok-Some.field-0-is at c.in-Ok-Some.ensures.short in
    let short : length line.items ≤ line_limit = omega (arith, held, line.ok.0) in
    let plays = rw c.as_slice.ensures.value at c.play.ensures.plays in
    let left = g.S.Source.left c.next_line.new.source in
    round_plays (setting (g.C.Clock.told c.args.clock.now) g.D.Disk.told g.D.Disk.shows g.D.Disk.faults g.D.Disk.failed) g.met.D.Disk.sound limits disk input _ taken _ _ c.args.player so_far (place_of c.next_line.new.self left) line.items read (g.K.Sink.taken c.play.new.sink) short c.play.result left plays

-- no line was left
pub returns-in-Ok-None-clause-rounds : goal.returns-in-Ok-None-clause-rounds
returns-in-Ok-None-clause-rounds g c = λ limits disk input taken so_far.
    let left = g.S.Source.left c.next_line.new.source in
    let read = rw c.in-Ok-None.field-0-is at c.in-Ok-None.ensures.line in
    let ends = round_ends (setting (g.C.Clock.told c.args.clock.now) g.D.Disk.told g.D.Disk.shows g.D.Disk.faults g.D.Disk.failed) g.met.D.Disk.sound limits disk input _ taken _ _ c.args.player so_far (place_of c.next_line.new.self left) left read c.args.reader.now.within (λ bytes same none. at_end_of (unread c.next_line.new.self) left bytes same none) in
    ends_as (setting (g.C.Clock.told c.args.clock.now) g.D.Disk.told g.D.Disk.shows g.D.Disk.faults g.D.Disk.failed) limits disk _ _ _ _ (tape input left taken (g.K.Sink.taken c.args.sink.now)) (sym c.end_status-status.ensures) (sym c.finish.ensures) ends

-- the next line can't be read
pub returns-in-Err-clause-rounds : goal.returns-in-Err-clause-rounds
returns-in-Err-clause-rounds g c = λ limits disk input taken so_far.
    let left = g.S.Source.left c.next_line.new.source in
    let fails = round_fails (setting (g.C.Clock.told c.args.clock.now) g.D.Disk.told g.D.Disk.shows g.D.Disk.faults g.D.Disk.failed) g.met.D.Disk.sound limits disk input _ taken _ _ c.args.player so_far c.in-Err.fault left (λ long. c.in-Err.ensures.too_long (ap Err long)) (λ source. c.in-Err.ensures.broken (ap Err source)) in
    ends_as (setting (g.C.Clock.told c.args.clock.now) g.D.Disk.told g.D.Disk.shows g.D.Disk.faults g.D.Disk.failed) limits disk _ _ _ _ (tape input left taken (g.K.Sink.taken c.args.sink.now)) (sym c.fault_status.ensures) (sym c.finish-in-Err.ensures) fails
