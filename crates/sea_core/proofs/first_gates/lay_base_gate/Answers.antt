use Rattle.std.proofs.Common.{◌<◌, ◌≤◌, length, ap, ◌∙◌, arith}
use Rattle.sea_core.proofs.Alike.{keeps_then, keeps_rests, settled_rests}
use Rattle.sea_core.proofs.Gates.{base_gate_keeps, long_stays, short_is_laid}
use Rattle.sea_core.proofs.first_gates.lay_base_gate.Goals as goal

pub returns-in_err-size-clause-keeps : goal.returns-in_err-size-clause-keeps
returns-in_err-size-clause-keeps g c told settled = keeps_rests (g.met.D.Disk.sound c.args.disk.now) (c.size.ensures.rests told)

pub returns-then-branch-ge-SHORTEST_BASE-clause-keeps : goal.returns-then-branch-ge-SHORTEST_BASE-clause-keeps
returns-then-branch-ge-SHORTEST_BASE-clause-keeps g c told settled = keeps_rests (g.met.D.Disk.sound c.args.disk.now) (c.size.ensures.rests told)

pub returns-in_err-write_through-clause-keeps : goal.returns-in_err-write_through-clause-keeps
returns-in_err-write_through-clause-keeps g c told settled =
    let rests = c.size.ensures.rests told in
    let short : length ((g.D.Disk.shows c.size.new.self).seen c.args.file) < 17 = omega (arith, c.in_ok-size.ensures.size told, ap length (rests.seen c.args.file)) in
    keeps_then (keeps_rests (g.met.D.Disk.sound c.args.disk.now) rests)
    (base_gate_keeps c.requires (g.met.D.Disk.sound c.size.new.self) (g.met.D.Disk.sound c.write_through.new.disk) (settled_rests rests settled) short (c.write_through.ensures.works told))

pub returns-clause-keeps : goal.returns-clause-keeps
returns-clause-keeps g c told settled =
    let rests = c.size.ensures.rests told in
    let short : length ((g.D.Disk.shows c.size.new.self).seen c.args.file) < 17 = omega (arith, c.in_ok-size.ensures.size told, ap length (rests.seen c.args.file)) in
    keeps_then (keeps_rests (g.met.D.Disk.sound c.args.disk.now) rests)
    (base_gate_keeps c.requires (g.met.D.Disk.sound c.size.new.self) (g.met.D.Disk.sound c.write_through.new.disk) (settled_rests rests settled) short (c.write_through.ensures.works told))

-- the gate is there
pub returns-then-branch-ge-SHORTEST_BASE-clause-laid : goal.returns-then-branch-ge-SHORTEST_BASE-clause-laid
returns-then-branch-ge-SHORTEST_BASE-clause-laid g c told =
    let old = (g.D.Disk.shows c.args.disk.now).seen c.args.file in
    let long : 17 ≤ length old = omega (arith, c.in_ok-size.ensures.size told) in
    long_stays 17 old ((g.D.Disk.shows c.size.new.self).seen c.args.file) long ((c.size.ensures.rests told).seen c.args.file)

pub returns-then-branch-ge-SHORTEST_BASE-clause-others : goal.returns-then-branch-ge-SHORTEST_BASE-clause-others
returns-then-branch-ge-SHORTEST_BASE-clause-others g c told other differs = (c.size.ensures.rests told).seen other

-- the gate is laid
pub returns-clause-laid : goal.returns-clause-laid
returns-clause-laid g c told =
    let old = (g.D.Disk.shows c.args.disk.now).seen c.args.file in
    let short : length old < 17 = omega (arith, c.in_ok-size.ensures.size told) in
    short_is_laid 17 old ((g.D.Disk.shows c.size.new.self).seen c.args.file) ((g.D.Disk.shows c.write_through.new.disk).seen c.args.file) short ((c.size.ensures.rests told).seen c.args.file) (c.in_ok-write_through.ensures.written told)

pub returns-clause-others : goal.returns-clause-others
returns-clause-others g c told other differs = (c.write_through.ensures.works told).others.seen other differs ∙ (c.size.ensures.rests told).seen other
