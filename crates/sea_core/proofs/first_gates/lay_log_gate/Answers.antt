use Rattle.std.proofs.Common.{◌<◌, ◌≤◌, length, ap, ◌∙◌, arith}
use Rattle.sea_core.proofs.Alike.{keeps_then, keeps_rests, settled_rests}
use Rattle.sea_core.proofs.Gates.{log_gate_keeps, images_are_short, long_stays, short_is_laid}
use Rattle.sea_core.proofs.first_gates.lay_log_gate.Goals as goal

pub returns-in_err-size-clause-keeps : goal.returns-in_err-size-clause-keeps
returns-in_err-size-clause-keeps g c told settled = keeps_rests (g.met.D.Disk.sound c.args.disk.now) (c.size.ensures.rests told)

pub returns-then-branch-ge-SHORTEST_LOG-clause-keeps : goal.returns-then-branch-ge-SHORTEST_LOG-clause-keeps
returns-then-branch-ge-SHORTEST_LOG-clause-keeps g c told settled = keeps_rests (g.met.D.Disk.sound c.args.disk.now) (c.size.ensures.rests told)

pub returns-in_err-begin-clause-keeps : goal.returns-in_err-begin-clause-keeps
returns-in_err-begin-clause-keeps g c told settled =
    let rests = c.size.ensures.rests told in
    let short : length ((g.D.Disk.shows c.size.new.self).seen c.args.file) < 6 = omega (arith, c.in_ok-size.ensures.size told, ap length (rests.seen c.args.file)) in
    keeps_then (keeps_rests (g.met.D.Disk.sound c.args.disk.now) rests)
    (log_gate_keeps c.one_list_at_most.ensures c.requires (g.met.D.Disk.sound c.size.new.self) (g.met.D.Disk.sound c.begin.new.disk) (settled_rests rests settled) short (c.begin.ensures.any_moment told (images_are_short c.args.file (g.D.Disk.shows c.size.new.self) (settled_rests rests settled c.args.file) short)))

pub returns-clause-keeps : goal.returns-clause-keeps
returns-clause-keeps g c told settled =
    let rests = c.size.ensures.rests told in
    let short : length ((g.D.Disk.shows c.size.new.self).seen c.args.file) < 6 = omega (arith, c.in_ok-size.ensures.size told, ap length (rests.seen c.args.file)) in
    keeps_then (keeps_rests (g.met.D.Disk.sound c.args.disk.now) rests)
    (log_gate_keeps c.one_list_at_most.ensures c.requires (g.met.D.Disk.sound c.size.new.self) (g.met.D.Disk.sound c.begin.new.disk) (settled_rests rests settled) short (c.begin.ensures.any_moment told (images_are_short c.args.file (g.D.Disk.shows c.size.new.self) (settled_rests rests settled c.args.file) short)))

pub returns-then-branch-ge-SHORTEST_LOG-clause-others : goal.returns-then-branch-ge-SHORTEST_LOG-clause-others
returns-then-branch-ge-SHORTEST_LOG-clause-others g c told settled other differs = (c.size.ensures.rests told).seen other

pub returns-clause-others : goal.returns-clause-others
returns-clause-others g c told settled other differs =
    let rests = c.size.ensures.rests told in
    let short : length ((g.D.Disk.shows c.size.new.self).seen c.args.file) < 6 = omega (arith, c.in_ok-size.ensures.size told, ap length (rests.seen c.args.file)) in
    (c.begin.ensures.any_moment told (images_are_short c.args.file (g.D.Disk.shows c.size.new.self) (settled_rests rests settled c.args.file) short)).others.seen other differs ∙ rests.seen other

pub returns-then-branch-ge-SHORTEST_LOG-clause-laid : goal.returns-then-branch-ge-SHORTEST_LOG-clause-laid
returns-then-branch-ge-SHORTEST_LOG-clause-laid g c told =
    let old = (g.D.Disk.shows c.args.disk.now).seen c.args.file in
    let long : 6 ≤ length old = omega (arith, c.in_ok-size.ensures.size told) in
    long_stays 6 old ((g.D.Disk.shows c.size.new.self).seen c.args.file) long ((c.size.ensures.rests told).seen c.args.file)

pub returns-clause-laid : goal.returns-clause-laid
returns-clause-laid g c told =
    let old = (g.D.Disk.shows c.args.disk.now).seen c.args.file in
    let short : length old < 6 = omega (arith, c.in_ok-size.ensures.size told) in
    short_is_laid 6 old ((g.D.Disk.shows c.size.new.self).seen c.args.file) ((g.D.Disk.shows c.begin.new.disk).seen c.args.file) short ((c.size.ensures.rests told).seen c.args.file) (c.in_ok-begin.ensures.laid told)
