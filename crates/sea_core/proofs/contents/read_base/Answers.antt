use Rattle.std.proofs.Common.{[], subst, sym}
use Rattle.std.proofs.lemmas.Result.{err_from_is_err_and}
use Rattle.sea_disk.specs.declared.file.File.TheVariants.{Log0, Log1}
use Rattle.sea_disk.specs.Composition.{rests_then}
use Rattle.sea_log.specs.Records.{IsLog, HoldsList}
use Rattle.sea_core.specs.Stands.{Makes}
use Rattle.sea_core.specs.Steps.{AreClosed}
use Rattle.sea_core.proofs.Making.{made_within}
use Rattle.sea_core.proofs.Found.{stands_for, stands_for_none, is_ready}
use Rattle.sea_core.proofs.contents.read_base.Goals as goal

-- a base file is open
pub returns-in_err-check_bases-clause-none : goal.returns-in_err-check_bases-clause-none
returns-in_err-check_bases-clause-none g c told bad base stands =
    let p = err_from_is_err_and c.from_residual.result c.from_residual.ensures.1 in
    c.in_err-check_bases.ensures.open told (cc (p.1, p.2, bad)) (stands.base0, stands.base1)

-- the second log holds a record
pub returns-in_err-check_empty-clause-none : goal.returns-in_err-check_empty-clause-none
returns-in_err-check_empty-clause-none g c told bad base stands =
    let p = err_from_is_err_and c.from_residual-in_err-check_empty.result c.from_residual-in_err-check_empty.ensures.1 in
    c.in_err-check_empty.ensures.some told (cc (p.1, p.2, bad)) (subst (HoldsList []) (sym ((c.check_bases.ensures.rests told).seen Log1)) stands.second)

-- the first log holds no list
pub returns-in_err-found-clause-none : goal.returns-in_err-found-clause-none
returns-in_err-found-clause-none g c told bad base stands =
    let p = err_from_is_err_and c.from_residual-in_err-found.result c.from_residual-in_err-found.ensures.1 in
    let rests = rests_then (c.check_bases.ensures.rests told) (c.check_empty.ensures.rests told) in
    c.in_err-found.ensures.bad told (cc (p.1, p.2, bad)) stands.payloads (subst (HoldsList stands.payloads) (sym (rests.seen Log0)) stands.log)

-- the payloads of the first log make no base
pub returns-in_err-base-clause-none : goal.returns-in_err-base-clause-none
returns-in_err-base-clause-none g c told bad =
    let old = g.D.Disk.shows c.args.disk.now in
    let found = c.in_ok-found.found in
    let p = err_from_is_err_and c.from_residual-in_err-base.result c.from_residual-in_err-base.ensures.1 in
    let rests = rests_then (c.check_bases.ensures.rests told) (c.check_empty.ensures.rests told) in
    let holds : IsLog (old.seen Log0) found.payloads found.end = subst (λ bytes. IsLog bytes found.payloads found.end) (rests.seen Log0) (c.in_ok-found.ensures.list told) in
    let none = c.in_err-base.ensures.none (cc (p.1, p.2, bad)) in
    stands_for_none c.one_list_at_most.ensures old.seen found.payloads found.end holds (λ made makes. none made (rw c.as_slice.ensures makes))

pub returns-clause-found : goal.returns-clause-found
returns-clause-found g c told =
    let old = g.D.Disk.shows c.args.disk.now in
    let found = c.in_ok-found.found in
    let first = c.check_bases.ensures.rests told in
    let rests = rests_then first (c.check_empty.ensures.rests told) in
    let closed : AreClosed old.seen = c.in_ok-check_bases.ensures.closed told in
    let empty : HoldsList [] (old.seen Log1) = subst (HoldsList []) (first.seen Log1) (c.in_ok-check_empty.ensures.empty told) in
    let holds : IsLog (old.seen Log0) found.payloads found.end = subst (λ bytes. IsLog bytes found.payloads found.end) (rests.seen Log0) (c.in_ok-found.ensures.list told) in
    let makes : Makes found.payloads c.in_ok-base.base = rw c.as_slice.ensures at c.in_ok-base.ensures.made in
    stands_for old.seen found.payloads found.end c.in_ok-base.base closed empty holds makes

pub returns-clause-ready : goal.returns-clause-ready
returns-clause-ready g c told settled gate second =
    let old = g.D.Disk.shows c.args.disk.now in
    let new = g.D.Disk.shows c.scan_log.new.disk in
    let found = c.in_ok-found.found in
    let first = c.check_bases.ensures.rests told in
    let rests = rests_then first (c.check_empty.ensures.rests told) in
    let closed : AreClosed old.seen = c.in_ok-check_bases.ensures.closed told in
    let empty : HoldsList [] (old.seen Log1) = subst (HoldsList []) (first.seen Log1) (c.in_ok-check_empty.ensures.empty told) in
    let holds : IsLog (old.seen Log0) found.payloads found.end = subst (λ bytes. IsLog bytes found.payloads found.end) (rests.seen Log0) (c.in_ok-found.ensures.list told) in
    let makes : Makes found.payloads c.in_ok-base.base = rw c.as_slice.ensures at c.in_ok-base.ensures.made in
    is_ready old new found.payloads found.end c.in_ok-base.base settled (rests_then rests (c.scan_log.ensures.rests told)) closed empty gate second holds makes

pub returns-clause-version : goal.returns-clause-version
returns-clause-version g c = made_within c.as_slice.result.now c.in_ok-base.base c.in_ok-base.ensures.made
