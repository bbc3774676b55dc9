use Rattle.sea_core.proofs.Editing.{add_leaves, added_of}
use Rattle.sea_core.proofs.addition.add_record.Goals as goal

pub returns-clause-added : goal.returns-clause-added
returns-clause-added g c = added_of c.args.disk.now c.append.new.disk c.args.end c.args.payload.now c.args.most c.append.result c.append.ensures.full c.append.ensures.place c.append.ensures.not_bad c.append.ensures.untouched_full c.append.ensures.untouched_memory

pub returns-clause-leaves : goal.returns-clause-leaves
returns-clause-leaves g c told base next takes ready =
    add_leaves c.append.result ready takes (c.append.ensures.any_moment told ready.payloads ready.log) (c.append.ensures.added told) (c.append.ensures.bytes told)
