use Rattle.sea_disk.specs.Composition.{write_works, works_synced}
use Rattle.sea_disk.proofs.through.write_through.Goals as goal

-- the write failed
pub returns-in_err-write_at-clause-works : goal.returns-in_err-write_at-clause-works
returns-in_err-write_at-clause-works g c told = write_works (g.met.D.Disk.sound c.args.disk.now) (c.write_at.ensures.turns told)

-- the sync came too
pub returns-clause-works : goal.returns-clause-works
returns-clause-works g c told = works_synced (g.met.D.Disk.sound c.write_at.new.self) (write_works (g.met.D.Disk.sound c.args.disk.now) (c.write_at.ensures.turns told)) (c.sync.ensures.turns told)
