use Rattle.sea_core.proofs.base.Core.step.Goals as goal

pub returns-in-Edit : goal.returns-in-Edit
returns-in-Edit g c = rw (c.in-Edit.is) (record {
  edited = c.edit.ensures.edited;
  counted = λ same. c.edit.ensures.counted same;
  leaves = λ told sound. c.edit.ensures.leaves told sound;
  faults = c.edit.ensures.faults;
  failed = c.edit.ensures.failed;
})
