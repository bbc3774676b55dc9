use Rattle.std.proofs.Common.{[], ◌∷◌, ◌++◌, Err, Some, refl, ap, subst, ◌∙◌}
use Rattle.std.proofs.lemmas.Result.{err_from_is_err_and}
use Rattle.sea_operation.specs.declared.operation.Entry.{Entry}
use Rattle.sea_operation.specs.Apply.{after}
use Rattle.sea_log.specs.declared.fault.LogFault.TheVariants as log
use Rattle.sea_core.specs.declared.fault.CoreFault.TheVariants as fault
use Rattle.sea_core.specs.Additions.{Added}
use Rattle.sea_core.proofs.Counting.{after_entry}
use Rattle.sea_core.proofs.Making.{version_within}
use Rattle.sea_core.proofs.Editing.{edit_untouched, edited_refused, counts_refused, refused_otherwise, edited_added, edited_doubted, edited_full, put_back, takes_prepared, leaves_added, leaves_doubted, ready_if_sound}
use Rattle.sea_core.proofs.base.Core.edit.Goals as goal

-- ---- a cause refuses the entry

pub returns-in_err-next-clause-edited : goal.returns-in_err-next-clause-edited
returns-in_err-next-clause-edited g c =
    let p = err_from_is_err_and c.from_residual.result c.from_residual.ensures.1 in
    rw (p.1, p.2) (edited_refused c.args.self.now c.args.entry c.in_err-next.field-0.0 c.in_err-next.ensures)

pub returns-in_err-next-clause-counted : goal.returns-in_err-next-clause-counted
returns-in_err-next-clause-counted g c =
    let p = err_from_is_err_and c.from_residual.result c.from_residual.ensures.1 in
    rw (p.1, p.2) (λ same. absurd (refused_otherwise c.args.self.now c.args.entry c.in_err-next.field-0.0 c.in_err-next.ensures same))

pub returns-in_err-next-clause-leaves : goal.returns-in_err-next-clause-leaves
returns-in_err-next-clause-leaves g c told sound =
    edit_untouched g.D.Disk.shows c.args.self.now c.args.self.now c.args.entry c.from_residual.result (g.met.D.Disk.sound c.args.self.now.disk) sound refl c.from_residual.ensures.0

pub returns-in_err-next-clause-faults : goal.returns-in_err-next-clause-faults
returns-in_err-next-clause-faults g c =
    let p = err_from_is_err_and c.from_residual.result c.from_residual.ensures.1 in
    rw (p.1, p.2) (counts_refused c.args.self.now c.args.entry c.in_err-next.field-0.0 (g.D.Disk.faults c.args.self.now.disk) c.in_err-next.ensures)

pub returns-in_err-next-clause-failed : goal.returns-in_err-next-clause-failed
returns-in_err-next-clause-failed g c =
    let p = err_from_is_err_and c.from_residual.result c.from_residual.ensures.1 in
    rw (p.1, p.2) (counts_refused c.args.self.now c.args.entry c.in_err-next.field-0.0 (g.D.Disk.failed c.args.self.now.disk) c.in_err-next.ensures)

-- ---- memory ran out

pub returns-in_err-new-clause-leaves : goal.returns-in_err-new-clause-leaves
returns-in_err-new-clause-leaves g c told sound =
    edit_untouched g.D.Disk.shows c.args.self.now _ c.args.entry c.from_residual-in_err-new.result (g.met.D.Disk.sound c.args.self.now.disk) sound c.self.view_is c.from_residual-in_err-new.ensures.0

pub returns-in_err-push-clause-leaves : goal.returns-in_err-push-clause-leaves
returns-in_err-push-clause-leaves g c told sound =
    edit_untouched g.D.Disk.shows c.args.self.now _ c.args.entry c.from_residual-in_err-push.result (g.met.D.Disk.sound c.args.self.now.disk) sound (rw (c.in_err-push.ensures.err) c.self.view_is) c.from_residual-in_err-push.ensures.0

-- ---- the record is safe

pub invariant_of-self-in-Ok : goal.invariant_of-self-in-Ok
invariant_of-self-in-Ok g c =
    let prepared = rw (← c.self.view_is) at c.in_ok-next.ensures in
    let pushed = c.in_ok-push.ensures.ok ∙ ap (λ (it : Entry). c.self.inside.history ++ it ∷ []) c.in_ok-new.ensures in
    (after_entry c.self.inside.opening.value c.self.inside.history c.push.new.self c.self.inside.base c.in_ok-next.next c.args.entry c.self.invariant.0 prepared.made pushed, version_within c.self.inside.base c.in_ok-next.next c.args.entry prepared.made)

pub returns-in-Ok-clause-edited : goal.returns-in-Ok-clause-edited
returns-in-Ok-clause-edited g c =
    let prepared = rw (← c.self.view_is) at c.in_ok-next.ensures in
    let pushed = c.in_ok-push.ensures.ok ∙ ap (λ (it : Entry). c.self.inside.history ++ it ∷ []) c.in_ok-new.ensures in
    let added = rw c.as_slice.ensures at c.in-Ok.ensures.added in
    rw (← c.self.view_is) (edited_added _ c.add_record.new.disk c.args.entry c.push.new.self c.in_ok-next.next c.in_ok-next.payload c.in-Ok.place prepared pushed added)

pub returns-in-Ok-clause-leaves : goal.returns-in-Ok-clause-leaves
returns-in-Ok-clause-leaves g c told sound =
    let prepared = rw (← c.self.view_is) at c.in_ok-next.ensures in
    let held = rw (← c.self.view_is) at sound in
    let takes = takes_prepared c.texts_are_forms.ensures _ c.args.entry c.in_ok-next.next c.in_ok-next.payload c.requires.moment c.requires.user c.requires.form prepared in
    let ready = ready_if_sound (g.D.Disk.shows c.self.inside.disk) c.self.inside.base c.self.inside.doubt c.self.inside.failed c.self.inside.end prepared.whole held in
    let record_leaves = rw c.as_slice.ensures at c.in-Ok.ensures.leaves in
    rw (← c.self.view_is) (leaves_added g.D.Disk.shows _ c.add_record.new.disk c.args.entry c.push.new.self c.in_ok-next.next c.in_ok-next.payload c.in-Ok.place prepared held (record_leaves told c.self.inside.base c.in_ok-next.next takes ready))

-- ---- a call of the disk failed

pub invariant_of-self-in-Err-DiskFault : goal.invariant_of-self-in-Err-DiskFault
invariant_of-self-in-Err-DiskFault g c =
    let pushed = c.in_ok-push.ensures.ok ∙ ap (λ (it : Entry). c.self.inside.history ++ it ∷ []) c.in_ok-new.ensures in
    (ap (after c.self.inside.opening.value) (c.put_in_doubt.ensures c.self.inside.history c.args.entry pushed).0 ∙ c.self.invariant.0, c.self.invariant.1)

pub returns-in-Err-DiskFault-clause-edited : goal.returns-in-Err-DiskFault-clause-edited
returns-in-Err-DiskFault-clause-edited g c =
    let prepared = rw (← c.self.view_is) at c.in_ok-next.ensures in
    let pushed = c.in_ok-push.ensures.ok ∙ ap (λ (it : Entry). c.self.inside.history ++ it ∷ []) c.in_ok-new.ensures in
    let taken = c.put_in_doubt.ensures c.self.inside.history c.args.entry pushed in
    let told = subst (λ it. Added c.self.inside.disk c.add_record.new.disk c.self.inside.end c.as_slice.result.now c.self.inside.limits.log_bytes (Err it)) c.in-Err-DiskFault.field-0-is c.in-Err-DiskFault.ensures.added in
    let added = subst (λ it. Added c.self.inside.disk c.add_record.new.disk c.self.inside.end it c.self.inside.limits.log_bytes (Err log.DiskFault)) c.as_slice.ensures told in
    rw (← c.self.view_is) (edited_doubted _ c.add_record.new.disk c.args.entry c.put_in_doubt.new.history c.put_in_doubt.new.doubt (Some c.faults.result) c.in_ok-next.next c.in_ok-next.payload prepared taken.0 taken.1 added)

pub returns-in-Err-DiskFault-clause-leaves : goal.returns-in-Err-DiskFault-clause-leaves
returns-in-Err-DiskFault-clause-leaves g c told sound =
    let prepared = rw (← c.self.view_is) at c.in_ok-next.ensures in
    let held = rw (← c.self.view_is) at sound in
    let pushed = c.in_ok-push.ensures.ok ∙ ap (λ (it : Entry). c.self.inside.history ++ it ∷ []) c.in_ok-new.ensures in
    let taken = c.put_in_doubt.ensures c.self.inside.history c.args.entry pushed in
    let takes = takes_prepared c.texts_are_forms.ensures _ c.args.entry c.in_ok-next.next c.in_ok-next.payload c.requires.moment c.requires.user c.requires.form prepared in
    let ready = ready_if_sound (g.D.Disk.shows c.self.inside.disk) c.self.inside.base c.self.inside.doubt c.self.inside.failed c.self.inside.end prepared.whole held in
    let record_leaves = rw (c.as_slice.ensures, c.in-Err-DiskFault.field-0-is) at c.in-Err-DiskFault.ensures.leaves in
    rw (← c.self.view_is) (leaves_doubted g.D.Disk.shows _ c.add_record.new.disk c.args.entry c.put_in_doubt.new.history c.put_in_doubt.new.doubt c.faults.result c.in_ok-next.next c.in_ok-next.payload prepared held taken.1 (record_leaves told c.self.inside.base c.in_ok-next.next takes ready))

-- ---- the log didn't take the record

pub returns-in-Err-LogFull-clause-edited : goal.returns-in-Err-LogFull-clause-edited
returns-in-Err-LogFull-clause-edited g c =
    let prepared = rw (← c.self.view_is) at c.in_ok-next.ensures in
    let pushed = c.in_ok-push.ensures.ok ∙ ap (λ (it : Entry). c.self.inside.history ++ it ∷ []) c.in_ok-new.ensures in
    let told = subst (λ it. Added c.self.inside.disk c.add_record.new.disk c.self.inside.end c.as_slice.result.now c.self.inside.limits.log_bytes (Err it)) c.in-Err-LogFull.field-0-is c.in-Err-LogFull.ensures.added in
    let added = subst (λ it. Added c.self.inside.disk c.add_record.new.disk c.self.inside.end it c.self.inside.limits.log_bytes (Err (log.LogFull c.in-Err-LogFull.size))) c.as_slice.ensures told in
    rw (← c.self.view_is) (edited_full _ c.add_record.new.disk c.args.entry c.drop_last.new.history c.in_ok-next.next c.in_ok-next.payload c.in-Err-LogFull.size prepared (c.drop_last.ensures c.self.inside.history c.args.entry pushed) added)

pub returns-in-Err-LogFull-clause-leaves : goal.returns-in-Err-LogFull-clause-leaves
returns-in-Err-LogFull-clause-leaves g c told sound =
    let held = rw (← c.self.view_is) at sound in
    let pushed = c.in_ok-push.ensures.ok ∙ ap (λ (it : Entry). c.self.inside.history ++ it ∷ []) c.in_ok-new.ensures in
    let added = subst (λ it. Added c.self.inside.disk c.add_record.new.disk c.self.inside.end c.as_slice.result.now c.self.inside.limits.log_bytes (Err it)) c.in-Err-LogFull.field-0-is c.in-Err-LogFull.ensures.added in
    rw (← c.self.view_is) (edit_untouched g.D.Disk.shows _ _ c.args.entry (Err (fault.LogFull c.in-Err-LogFull.size)) (g.met.D.Disk.sound c.self.inside.disk) held (put_back _ c.add_record.new.disk c.drop_last.new.history added.2 (c.drop_last.ensures c.self.inside.history c.args.entry pushed)) refl)

pub returns-in-Err-Memory-clause-leaves : goal.returns-in-Err-Memory-clause-leaves
returns-in-Err-Memory-clause-leaves g c told sound =
    let held = rw (← c.self.view_is) at sound in
    let pushed = c.in_ok-push.ensures.ok ∙ ap (λ (it : Entry). c.self.inside.history ++ it ∷ []) c.in_ok-new.ensures in
    let added = subst (λ it. Added c.self.inside.disk c.add_record.new.disk c.self.inside.end c.as_slice.result.now c.self.inside.limits.log_bytes (Err it)) c.in-Err-Memory.field-0-is c.in-Err-Memory.ensures.added in
    rw (← c.self.view_is) (edit_untouched g.D.Disk.shows _ _ c.args.entry (Err fault.Memory) (g.met.D.Disk.sound c.self.inside.disk) held (put_back _ c.add_record.new.disk c.drop_last-in-Err-Memory.new.history added (c.drop_last-in-Err-Memory.ensures c.self.inside.history c.args.entry pushed)) refl)
