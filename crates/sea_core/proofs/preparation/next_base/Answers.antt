use Rattle.sea_core.proofs.preparation.next_base.Goals as goal

pub returns-in-Err : goal.returns-in-Err
returns-in-Err c = c.refused.ensures c.args.base.now c.args.entry.now c.in-Err.ensures
