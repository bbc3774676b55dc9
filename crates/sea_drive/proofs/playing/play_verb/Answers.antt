use Rattle.std.proofs.Common.{sym, subst}
use Rattle.sea_drive.specs.Setting.{setting}
use Rattle.sea_drive.specs.Steps.{VerbStep}
use Rattle.sea_drive.specs.declared.verb.Verb.{Verb}
use Rattle.sea_drive.proofs.playing.play_verb.Goals as goal

pub returns-in-Reopen-clause-step : goal.returns-in-Reopen-clause-step
returns-in-Reopen-clause-step g c =
    subst (λ (verb : Verb). VerbStep (setting (g.C.Clock.told c.args.clock.now) g.D.Disk.told g.D.Disk.shows g.D.Disk.faults g.D.Disk.failed) c.args.core verb c.args.rest.now c.reopen.result) (sym c.in-Reopen.is) (c.reopen.ensures (g.C.Clock.told c.args.clock.now) c.args.rest.now)
