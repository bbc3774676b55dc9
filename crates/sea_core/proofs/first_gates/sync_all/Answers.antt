use Rattle.std.proofs.Common.{◌∙◌}
use Rattle.sea_disk.specs.declared.file.File.TheVariants.{Base0, Base1, Log0, Log1}
use Rattle.sea_core.proofs.Alike.{keeps_then}
use Rattle.sea_core.proofs.Gates.{all_settled}
use Rattle.sea_core.proofs.first_gates.sync_all.Goals as goal

pub returns-in_err-sync-2-clause-keeps : goal.returns-in_err-sync-2-clause-keeps
returns-in_err-sync-2-clause-keeps g c told = keeps_then (c.sync.ensures.keeps told) (c.sync-2.ensures.keeps told)

pub returns-in_err-sync-3-clause-keeps : goal.returns-in_err-sync-3-clause-keeps
returns-in_err-sync-3-clause-keeps g c told = keeps_then (keeps_then (c.sync.ensures.keeps told) (c.sync-2.ensures.keeps told)) (c.sync-3.ensures.keeps told)

pub returns-in_err-sync-4-clause-keeps : goal.returns-in_err-sync-4-clause-keeps
returns-in_err-sync-4-clause-keeps g c told = keeps_then (keeps_then (keeps_then (c.sync.ensures.keeps told) (c.sync-2.ensures.keeps told)) (c.sync-3.ensures.keeps told)) (c.sync-4.ensures.keeps told)

pub returns-in_err-sync-5-clause-keeps : goal.returns-in_err-sync-5-clause-keeps
returns-in_err-sync-5-clause-keeps g c told =
    keeps_then (keeps_then (keeps_then (keeps_then (c.sync.ensures.keeps told) (c.sync-2.ensures.keeps told)) (c.sync-3.ensures.keeps told)) (c.sync-4.ensures.keeps told)) (c.sync-5.ensures.keeps told)

pub returns-clause-keeps : goal.returns-clause-keeps
returns-clause-keeps g c told =
    keeps_then (keeps_then (keeps_then (keeps_then (c.sync.ensures.keeps told) (c.sync-2.ensures.keeps told)) (c.sync-3.ensures.keeps told)) (c.sync-4.ensures.keeps told)) (c.sync-5.ensures.keeps told)

pub returns-clause-settled : goal.returns-clause-settled
returns-clause-settled g c told =
    all_settled (g.D.Disk.shows c.sync-5.new.disk)
    (c.sync-5.ensures.stays told Base0 (c.sync-4.ensures.stays told Base0 (c.sync-3.ensures.stays told Base0 (c.sync-2.ensures.stays told Base0 (c.in_ok-sync.ensures.settled told)))))
    (c.sync-5.ensures.stays told Base1 (c.sync-4.ensures.stays told Base1 (c.sync-3.ensures.stays told Base1 (c.in_ok-sync-2.ensures.settled told))))
    (c.sync-5.ensures.stays told Log0 (c.sync-4.ensures.stays told Log0 (c.in_ok-sync-3.ensures.settled told)))
    (c.sync-5.ensures.stays told Log1 (c.in_ok-sync-4.ensures.settled told))
    (c.in_ok-sync-5.ensures.settled told)

pub returns-clause-seen : goal.returns-clause-seen
returns-clause-seen g c told file =
    c.sync-5.ensures.seen told file ∙ c.sync-4.ensures.seen told file ∙ c.sync-3.ensures.seen told file ∙ c.sync-2.ensures.seen told file ∙ c.sync.ensures.seen told file
