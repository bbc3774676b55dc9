use Rattle.std.proofs.Common.{◌∙◌}
use Rattle.std.proofs.lemmas.Result.{err_from_is_err_and}
use Rattle.sea_disk.specs.declared.file.File.TheVariants.{Log0, Log1}
use Rattle.sea_core.proofs.Alike.{keeps_then, keeps_rests, settled_rests}
use Rattle.sea_core.proofs.Gates.{has_gate}
use Rattle.sea_core.proofs.recovery.find.Goals as goal

-- ---- the files can't be made safe

pub returns-in_err-lay_gates-clause-leaves : goal.returns-in_err-lay_gates-clause-leaves
returns-in_err-lay_gates-clause-leaves g c told = (c.lay_gates.ensures.keeps told).leaves

-- ---- the files stand for no base, or can't be read

pub returns-in_err-found-clause-none : goal.returns-in_err-found-clause-none
returns-in_err-found-clause-none g c told bad base stands =
    let p = err_from_is_err_and c.from_residual-in_err-found.result c.from_residual-in_err-found.ensures.1 in
    c.in_err-found.ensures.none told (cc (p.1, p.2, bad)) base ((c.lay_gates.ensures.keeps told).alike.there base stands)

pub returns-in_err-found-clause-leaves : goal.returns-in_err-found-clause-leaves
returns-in_err-found-clause-leaves g c told = (keeps_then (c.lay_gates.ensures.keeps told) (keeps_rests (g.met.D.Disk.sound c.lay_gates.new.disk) (c.read_base.ensures.rests told))).leaves

-- ---- the base is found

pub returns-clause-found : goal.returns-clause-found
returns-clause-found g c told = (c.lay_gates.ensures.keeps told).alike.back c.in_ok-found.found.0 (c.in_ok-found.ensures.found told)

pub returns-clause-leaves : goal.returns-clause-leaves
returns-clause-leaves g c told = (keeps_then (c.lay_gates.ensures.keeps told) (keeps_rests (g.met.D.Disk.sound c.lay_gates.new.disk) (c.read_base.ensures.rests told))).leaves

pub returns-clause-ready : goal.returns-clause-ready
returns-clause-ready g c told =
    let old = g.D.Disk.shows c.args.disk.now in
    let mid = g.D.Disk.shows c.lay_gates.new.disk in
    let laid = c.in_ok-lay_gates.ensures.laid told in
    c.in_ok-found.ensures.ready told (c.in_ok-lay_gates.ensures.settled told) (has_gate (old.seen Log0) (mid.seen Log0) (laid Log0)) (has_gate (old.seen Log1) (mid.seen Log1) (laid Log1))

pub returns-clause-settled : goal.returns-clause-settled
returns-clause-settled g c told = settled_rests (c.read_base.ensures.rests told) (c.in_ok-lay_gates.ensures.settled told)

pub returns-clause-laid : goal.returns-clause-laid
returns-clause-laid g c told file = (c.read_base.ensures.rests told).seen file ∙ c.in_ok-lay_gates.ensures.laid told file

-- ---- the file `arch`

pub returns-in_err-lay_gates-clause-arch : goal.returns-in_err-lay_gates-clause-arch
returns-in_err-lay_gates-clause-arch g c told = (c.lay_gates.ensures.keeps told).arch

pub returns-in_err-found-clause-arch : goal.returns-in_err-found-clause-arch
returns-in_err-found-clause-arch g c told = (keeps_then (c.lay_gates.ensures.keeps told) (keeps_rests (g.met.D.Disk.sound c.lay_gates.new.disk) (c.read_base.ensures.rests told))).arch

pub returns-clause-arch : goal.returns-clause-arch
returns-clause-arch g c told = (keeps_then (c.lay_gates.ensures.keeps told) (keeps_rests (g.met.D.Disk.sound c.lay_gates.new.disk) (c.read_base.ensures.rests told))).arch
