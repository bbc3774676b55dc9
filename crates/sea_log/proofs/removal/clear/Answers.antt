use Rattle.sea_log.proofs.Gates.{closed_alone}
use Rattle.sea_log.proofs.Moments.{clear_gate, closed_is_safe, clear_rest}
use Rattle.sea_log.proofs.removal.clear.Goals as goal

pub returns-in_err-write_through-clause-any_moment : goal.returns-in_err-write_through-clause-any_moment
returns-in_err-write_through-clause-any_moment g c told payloads some holds = clear_gate payloads some holds (c.write_through.ensures.works told)

pub returns-in_err-cut_through-clause-any_moment : goal.returns-in_err-cut_through-clause-any_moment
returns-in_err-cut_through-clause-any_moment g c told payloads some holds =
    clear_rest (clear_gate payloads some holds (c.write_through.ensures.works told)) (closed_is_safe c.args.file (g.D.Disk.shows c.args.disk.now) (g.D.Disk.shows c.write_through.new.disk) (c.in_ok-write_through.ensures.written told) (c.in_ok-write_through.ensures.settled told)) (c.cut_through.ensures.works told)

pub returns-clause-any_moment : goal.returns-clause-any_moment
returns-clause-any_moment g c told payloads some holds =
    clear_rest (clear_gate payloads some holds (c.write_through.ensures.works told)) (closed_is_safe c.args.file (g.D.Disk.shows c.args.disk.now) (g.D.Disk.shows c.write_through.new.disk) (c.in_ok-write_through.ensures.written told) (c.in_ok-write_through.ensures.settled told)) (c.cut_through.ensures.works told)

pub returns-clause-emptied : goal.returns-clause-emptied
returns-clause-emptied g c told =
    let old = (g.D.Disk.shows c.args.disk.now).seen c.args.file in
    let mid = (g.D.Disk.shows c.write_through.new.disk).seen c.args.file in
    let new = (g.D.Disk.shows c.cut_through.new.disk).seen c.args.file in
    closed_alone old mid new (c.in_ok-write_through.ensures.written told) (c.in_ok-cut_through.ensures.cut told)
