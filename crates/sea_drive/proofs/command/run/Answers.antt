use Rattle.std.proofs.Common.{◌≡◌, Option, Some, sym, subst}
use Rattle.sea_drive.specs.Setting.{setting, tape}
use Rattle.sea_drive.specs.Words.{command_in, RunsBy}
use Rattle.sea_drive.specs.declared.command.Command.{Command}
use Rattle.sea_drive.specs.declared.command.Command.TheVariants.{Play, Dump}
use Rattle.sea_drive.proofs.command.run.Goals as goal

pub returns-in-Some-Play-clause-ends : goal.returns-in-Some-Play-clause-ends
returns-in-Some-Play-clause-ends g c =
    let is : command_in c.args.words.now ≡ Some Play = cc (c.command_of.ensures, c.in-Some-Play.is, c.in-Some-Play.field-0-is) in
    subst (λ (command : Option Command). RunsBy command c.play.result.0 (setting (g.C.Clock.told c.args.clock.now) g.D.Disk.told g.D.Disk.shows g.D.Disk.faults g.D.Disk.failed) c.args.disk c.play.result.1 (tape (g.S.Source.left c.args.source.now) (g.S.Source.left c.play.new.source) (g.K.Sink.taken c.args.sink.now) (g.K.Sink.taken c.play.new.sink))) (sym is) (c.standard.result, c.standard.ensures, c.play.ensures.ends)

pub returns-in-Some-Dump-clause-ends : goal.returns-in-Some-Dump-clause-ends
returns-in-Some-Dump-clause-ends g c =
    let is : command_in c.args.words.now ≡ Some Dump = cc (c.command_of.ensures, c.in-Some-Dump.is, c.in-Some-Dump.field-0-is) in
    let left = g.S.Source.left c.args.source.now in
    subst (λ (command : Option Command). RunsBy command c.dump.result.0 (setting (g.C.Clock.told c.args.clock.now) g.D.Disk.told g.D.Disk.shows g.D.Disk.faults g.D.Disk.failed) c.args.disk c.dump.result.1 (tape left left (g.K.Sink.taken c.args.sink.now) (g.K.Sink.taken c.dump.new.sink))) (sym is) (c.standard-in-Some-Dump.result, c.standard-in-Some-Dump.ensures, c.dump.ensures.ends)
