use Rattle.std.proofs.Common.{sym, subst, inl, rules, arith}
use Rattle.sea_drive.specs.Outcome.{is_disk_fault}
use Rattle.sea_drive.specs.Play.{CountsDisk}
use Rattle.sea_drive.specs.declared.status.Status.{Status}
use Rattle.sea_drive.specs.Setting.{setting}
use Rattle.sea_drive.proofs.Counts.{line_counted, refused_line, never_falls, counted_on, later_on, refused_counts, refused_later, cut_counts}
use Rattle.sea_drive.proofs.round.Player.play.Goals as goal

-- the line was played, and its reply given
pub returns-in-None-clause-plays : goal.returns-in-None-clause-plays
returns-in-None-clause-plays g c = (c.in-On.outcome, c.in-On.ensures.step, search rules, search rules, c.in-None.ensures.writes)

-- the line was played, and its reply couldn't be given whole
pub returns-in-On-clause-plays : goal.returns-in-On-clause-plays
returns-in-On-clause-plays g c = inl (c.in-On.outcome, c.in-On.core, c.in-On.ensures.step, c.finish.ensures, c.in-Some.ensures.writes)

-- the disk's faults are counted on
pub returns-in-None-clause-disk : goal.returns-in-None-clause-disk
returns-in-None-clause-disk g c = λ first counted.
    counted_on first (g.D.Disk.faults c.args.self.core.disk) (g.D.Disk.faults c.in-On.core.disk) c.args.self.disk_failed (is_disk_fault c.in-On.outcome) c.disk_failed_by-disk_failed.result
    c.disk_failed_by-disk_failed.ensures counted (line_counted (setting (g.C.Clock.told c.args.clock.now) g.D.Disk.told g.D.Disk.shows g.D.Disk.faults g.D.Disk.failed) c.args.self.core c.in-On.core c.args.line.now c.in-On.outcome c.in-On.ensures.step)

pub returns-in-On-clause-disk : goal.returns-in-On-clause-disk
returns-in-On-clause-disk g c = λ first counted.
    let later = later_on c.args.self.disk_failed (is_disk_fault c.in-On.outcome) first (g.D.Disk.faults c.args.self.core.disk) (g.D.Disk.faults c.in-On.core.disk) counted (line_counted (setting (g.C.Clock.told c.args.clock.now) g.D.Disk.told g.D.Disk.shows g.D.Disk.faults g.D.Disk.failed) c.args.self.core c.in-On.core c.args.line.now c.in-On.outcome c.in-On.ensures.step) in
    rw (← c.finish.ensures) at (cut_counts c.in-Some.status c.in-On.outcome _ _ first (g.D.Disk.faults c.in-On.core.disk) later c.in-Some.ensures.writes)

-- the same where a reopening was refused
pub returns-in-None-write-clause-disk : goal.returns-in-None-write-clause-disk
returns-in-None-write-clause-disk g c = λ first counted.
    let old = g.D.Disk.faults c.args.self.core.disk in
    let new = g.D.Disk.faults c.in-Refused.disk in
    let earlier = never_falls c.args.self.disk_failed first old counted in
    subst (λ (status : Status). CountsDisk status first new) (sym c.start_status.ensures) (refused_counts c.in-Refused.fault first old new earlier (refused_line (setting (g.C.Clock.told c.args.clock.now) g.D.Disk.told g.D.Disk.shows g.D.Disk.faults g.D.Disk.failed) c.args.self.core c.args.line.now c.in-Refused.fault c.in-Refused.disk c.in-Refused.ensures.step))

pub returns-clause-disk : goal.returns-clause-disk
returns-clause-disk g c = λ first counted.
    let old = g.D.Disk.faults c.args.self.core.disk in
    let new = g.D.Disk.faults c.in-Refused.disk in
    let earlier = never_falls c.args.self.disk_failed first old counted in
    let later = refused_later c.in-Refused.fault old new (refused_line (setting (g.C.Clock.told c.args.clock.now) g.D.Disk.told g.D.Disk.shows g.D.Disk.faults g.D.Disk.failed) c.args.self.core c.args.line.now c.in-Refused.fault c.in-Refused.disk c.in-Refused.ensures.step) in
    cut_counts c.in-Some-write.status c.start_outcome.result _ _ first new (omega (arith, earlier, later)) c.in-Some-write.ensures.writes
