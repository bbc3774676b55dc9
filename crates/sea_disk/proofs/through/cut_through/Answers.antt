use Rattle.sea_disk.specs.Composition.{cut_works, works_synced}
use Rattle.sea_disk.proofs.through.cut_through.Goals as goal

-- the cut failed
pub returns-in_err-cut-clause-works : goal.returns-in_err-cut-clause-works
returns-in_err-cut-clause-works g c told = cut_works (g.met.D.Disk.sound c.args.disk.now) (c.cut.ensures.turns told)

-- the sync came too
pub returns-clause-works : goal.returns-clause-works
returns-clause-works g c told = works_synced (g.met.D.Disk.sound c.cut.new.self) (cut_works (g.met.D.Disk.sound c.args.disk.now) (c.cut.ensures.turns told)) (c.sync.ensures.turns told)
