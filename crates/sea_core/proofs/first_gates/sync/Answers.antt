use Rattle.std.proofs.Common.{◌≡◌}
use Rattle.sea_core.proofs.Alike.{at_each, keeps_synced}
use Rattle.sea_core.proofs.first_gates.sync.Goals as goal

pub returns-in_err-sync-clause-keeps : goal.returns-in_err-sync-clause-keeps
returns-in_err-sync-clause-keeps g c told = keeps_synced (g.met.D.Disk.sound c.args.disk.now) (c.sync.ensures.turns told) (c.sync.ensures.seen told)

pub returns-clause-keeps : goal.returns-clause-keeps
returns-clause-keeps g c told = keeps_synced (g.met.D.Disk.sound c.args.disk.now) (c.sync.ensures.turns told) (c.sync.ensures.seen told)

pub returns-in_err-sync-clause-seen : goal.returns-in_err-sync-clause-seen
returns-in_err-sync-clause-seen g c told =
    let old = g.D.Disk.shows c.args.disk.now in
    let new = g.D.Disk.shows c.sync.new.self in
    at_each c.args.file (λ file. new.seen file ≡ old.seen file) (c.sync.ensures.seen told) (λ other differs. (c.sync.ensures.turns told).others.seen other differs)

pub returns-clause-seen : goal.returns-clause-seen
returns-clause-seen g c told =
    let old = g.D.Disk.shows c.args.disk.now in
    let new = g.D.Disk.shows c.sync.new.self in
    at_each c.args.file (λ file. new.seen file ≡ old.seen file) (c.sync.ensures.seen told) (λ other differs. (c.sync.ensures.turns told).others.seen other differs)
