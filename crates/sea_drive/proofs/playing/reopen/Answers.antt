use Rattle.std.proofs.Common.{ap, Some}
use Rattle.sea_operation.specs.declared.base.Plain.{Plain}
use Rattle.sea_drive.specs.declared.outcome.LineOutcome.TheVariants as outcome
use Rattle.sea_core.specs.Events.{Starts, Refuses}
use Rattle.sea_core.specs.State.{known}
use Rattle.sea_drive.proofs.StandsLaws.{found_again}
use Rattle.sea_drive.proofs.playing.reopen.Goals as goal

pub returns-in-Err : goal.returns-in-Err
returns-in-Err g c = λ clock rest. rw c.finish.ensures at c.in-Err.ensures

pub returns-in-Ok : goal.returns-in-Ok
returns-in-Ok g c = λ clock rest.
    let starts : Starts (known g.D.Disk.told g.D.Disk.shows g.D.Disk.faults g.D.Disk.failed) c.args.core.disk c.args.core.limits c.in-Ok.core = rw (c.finish.ensures, c.limits-limits.ensures) at c.in-Ok.ensures in
    record {
      comes = ap (λ (base : Plain). Some (outcome.Reopened base.version)) c.content.ensures;
      starts = starts;
      found = λ told sound. found_again g.D.Disk.shows g.met.D.Disk.sound c.one_base_at_most.ensures c.args.core c.in-Ok.core.content sound (starts.found told);
    }
