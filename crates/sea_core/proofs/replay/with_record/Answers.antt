use Rattle.std.proofs.lemmas.Result.{err_from_is_err_and}
use Rattle.sea_record.specs.Record.{IsRecord}
use Rattle.sea_core.specs.Taking.{TakesRecord}
use Rattle.sea_core.proofs.Making.{takes_record, another_number, refused_record, one_next}
use Rattle.sea_core.proofs.replay.with_record.Goals as goal

-- the base refuses the entry
pub returns-in_err-next-clause-none : goal.returns-in_err-next-clause-none
returns-in_err-next-clause-none c bad =
    let is : IsRecord c.args.payload.now c.in-Some.lsn c.in-Some.entry = rw c.in-Some.is at c.in_ok-lsn.ensures.some in
    let p = err_from_is_err_and c.from_residual-in_err-next.result c.from_residual-in_err-next.ensures.1 in
    let refused = c.in_err-next.ensures.refused (cc (p.1, p.2, bad)) in
    refused_record c.records_have_one_entry.ensures c.args.base.now c.args.payload.now c.in-Some.lsn c.in-Some.entry is refused

-- the record has another number
pub returns-then-lsn-next-clause-none : goal.returns-then-lsn-next-clause-none
returns-then-lsn-next-clause-none c bad =
    let is : IsRecord c.args.payload.now c.in-Some.lsn c.in-Some.entry = rw c.in-Some.is at c.in_ok-lsn.ensures.some in
    another_number c.records_have_one_entry.ensures c.args.base.now c.args.payload.now c.in-Some.lsn c.in-Some.entry c.in_ok-next.next is c.in_ok-next.ensures.taken c.if-lsn-next.true

pub returns-clause-taken : goal.returns-clause-taken
returns-clause-taken c =
    let is : IsRecord c.args.payload.now c.in-Some.lsn c.in-Some.entry = rw c.in-Some.is at c.in_ok-lsn.ensures.some in
    takes_record c.args.base.now c.args.payload.now c.in-Some.lsn c.in-Some.entry c.in_ok-next.next is c.in_ok-next.ensures.taken c.if-lsn-next.false

pub returns-clause-only : goal.returns-clause-only
returns-clause-only c other took =
    let is : IsRecord c.args.payload.now c.in-Some.lsn c.in-Some.entry = rw c.in-Some.is at c.in_ok-lsn.ensures.some in
    let takes : TakesRecord c.args.base.now c.args.payload.now c.in_ok-next.next = takes_record c.args.base.now c.args.payload.now c.in-Some.lsn c.in-Some.entry c.in_ok-next.next is c.in_ok-next.ensures.taken c.if-lsn-next.false in
    one_next c.records_have_one_entry.ensures c.args.base.now c.args.payload.now other c.in_ok-next.next took takes
