use Rattle.std.proofs.Common.{refl, sym, arith}
use Rattle.sea_lines.specs.Reader.{place_of, unread, takes_within}
use Rattle.sea_drive.specs.Setting.{setting, tape}
use Rattle.sea_drive.proofs.PlayLaws.{nothing_unread, total_first}
use Rattle.sea_drive.proofs.RoundLaws.{goes_first, ends_first, ends_unstarted, ends_as, no_base_at_first}
use Rattle.sea_drive.proofs.player.play.Goals as goal

-- no memory for the reader
pub returns-in_default-clause-ends : goal.returns-in_default-clause-ends
returns-in_default-clause-ends g c = ends_first (setting (g.C.Clock.told c.args.clock.now) g.D.Disk.told g.D.Disk.shows g.D.Disk.faults g.D.Disk.failed) g.met.D.Disk.sound c.args.limits c.args.disk (g.S.Source.left c.args.source.now) _ (g.K.Sink.taken c.args.sink.now)

-- the first start was refused
pub returns-in-Err-clause-ends : goal.returns-in-Err-clause-ends
returns-in-Err-clause-ends g c =
    let set = (setting (g.C.Clock.told c.args.clock.now) g.D.Disk.told g.D.Disk.shows g.D.Disk.faults g.D.Disk.failed) in
    let left = g.S.Source.left c.args.source.now in
    let taken = g.K.Sink.taken c.args.sink.now in
    let unstarted = ends_unstarted set g.met.D.Disk.sound c.args.limits c.args.disk left left taken c.in-Err.fault c.in-Err.disk c.in-Err.ensures in
    ends_as set c.args.limits c.args.disk _ _ c.in-Err.disk c.in-Err.disk (tape left left taken taken) (sym c.start_status.ensures) refl unstarted

pub returns-in-Err-clause-no_base : goal.returns-in-Err-clause-no_base
returns-in-Err-clause-no_base g c = λ told is.
    let set = (setting (g.C.Clock.told c.args.clock.now) g.D.Disk.told g.D.Disk.shows g.D.Disk.faults g.D.Disk.failed) in
    let left = g.S.Source.left c.args.source.now in
    let taken = g.K.Sink.taken c.args.sink.now in
    let ends = ends_as set c.args.limits c.args.disk _ _ c.in-Err.disk c.in-Err.disk (tape left left taken taken) is refl (returns-in-Err-clause-ends g c) in
    no_base_at_first set g.met.D.Disk.sound c.args.limits c.args.disk c.in-Err.disk (tape left left taken taken) ends told

-- before the first line
pub rounds-init : goal.rounds-init
rounds-init g c =
    let left = g.S.Source.left c.args.source.now in
    let place = place_of c.in-Ok.reader left in
    let rest = nothing_unread (unread c.in-Ok.reader) left c.in-Ok.ensures.nothing_unread in
    record {
      rounds = goes_first (setting (g.C.Clock.told c.args.clock.now) g.D.Disk.told g.D.Disk.shows g.D.Disk.faults g.D.Disk.failed) g.met.D.Disk.sound c.args.limits c.args.disk left (g.K.Sink.taken c.args.sink.now) place c.in-Ok-start.core rest c.in-Ok.ensures.nothing_read c.in-Ok-start.ensures;
      clock = refl;
      source = refl;
      sink = refl;
      disk = c.in-Ok-start.ensures.faults;
      total = total_first place left rest c.in-Ok.ensures.nothing_read;
    }

-- the script has ended
pub returns-in-End-clause-no_base : goal.returns-in-End-clause-no_base
returns-in-End-clause-no_base g c = λ told is.
    let set = (setting (g.C.Clock.told c.args.clock.now) g.D.Disk.told g.D.Disk.shows g.D.Disk.faults g.D.Disk.failed) in
    let ended = rw c.in-End.is at c.rounds.invariant.rounds in
    let all = tape (g.S.Source.left c.args.source.now) (g.S.Source.left c.rounds.source) (g.K.Sink.taken c.args.sink.now) (g.K.Sink.taken c.rounds.sink) in
    let ends = ends_as set c.args.limits c.args.disk _ _ c.in-End.disk c.in-End.disk all is refl ended in
    no_base_at_first set g.met.D.Disk.sound c.args.limits c.args.disk c.in-End.disk all ends told

-- the reader has counted what it took
pub returns-in-End-clause-within : goal.returns-in-End-clause-within
returns-in-End-clause-within g c = takes_within c.rounds.reader (g.S.Source.left c.args.source.now) (g.S.Source.left c.rounds.source) c.rounds.invariant.total
