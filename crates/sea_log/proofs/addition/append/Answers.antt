use Rattle.std.proofs.Common.{◌≡◌, ◌+◌, ◌-◌, [], ◌∷◌, length, ap, ◌∙◌, arith}
use Rattle.sea_disk.specs.Calls.{overlaid}
use Rattle.sea_log.proofs.Gates.{appended_size}
use Rattle.sea_log.proofs.Moments.{append_untouched, append_record, record_is_safe, append_gate, gate_is_safe}
use Rattle.sea_log.proofs.addition.append.Goals as goal

pub returns-then-size-most-clause-any_moment : goal.returns-then-size-most-clause-any_moment
returns-then-size-most-clause-any_moment g c told payloads closed = append_untouched c.args.payload.now (g.met.D.Disk.sound c.args.disk.now) closed

pub returns-in_err-record-clause-any_moment : goal.returns-in_err-record-clause-any_moment
returns-in_err-record-clause-any_moment g c told payloads closed = append_untouched c.args.payload.now (g.met.D.Disk.sound c.args.disk.now) closed

pub returns-in_err-write_through-clause-any_moment : goal.returns-in_err-write_through-clause-any_moment
returns-in_err-write_through-clause-any_moment g c told payloads closed = append_record c.args.payload.now closed (c.write_through.ensures.works told)

pub returns-in_err-write_through-2-clause-any_moment : goal.returns-in_err-write_through-2-clause-any_moment
returns-in_err-write_through-2-clause-any_moment g c told payloads closed =
    let old = g.D.Disk.shows c.args.disk.now in
    let mid = g.D.Disk.shows c.write_through.new.disk in
    let safe = record_is_safe old mid (g.met.D.Disk.sound c.args.disk.now) closed (omega arith) (c.as_slice.ensures ∙ c.in_ok-record.ensures) (c.in_ok-write_through.ensures.written told) (c.in_ok-write_through.ensures.settled told) in
    append_gate (append_record c.args.payload.now closed (c.write_through.ensures.works told)) safe (c.write_through-2.ensures.works told)

pub returns-clause-any_moment : goal.returns-clause-any_moment
returns-clause-any_moment g c told payloads closed =
    let old = g.D.Disk.shows c.args.disk.now in
    let mid = g.D.Disk.shows c.write_through.new.disk in
    let safe = record_is_safe old mid (g.met.D.Disk.sound c.args.disk.now) closed (omega arith) (c.as_slice.ensures ∙ c.in_ok-record.ensures) (c.in_ok-write_through.ensures.written told) (c.in_ok-write_through.ensures.settled told) in
    append_gate (append_record c.args.payload.now closed (c.write_through.ensures.works told)) safe (c.write_through-2.ensures.works told)

pub returns-clause-added : goal.returns-clause-added
returns-clause-added g c told payloads closed =
    let place : c.log_size-size.result - 1 ≡ c.args.end + 5 + length c.args.payload.now = omega arith in
    let old = g.D.Disk.shows c.args.disk.now in
    let mid = g.D.Disk.shows c.write_through.new.disk in
    let safe = record_is_safe old mid (g.met.D.Disk.sound c.args.disk.now) closed (omega arith) (c.as_slice.ensures ∙ c.in_ok-record.ensures) (c.in_ok-write_through.ensures.written told) (c.in_ok-write_through.ensures.settled told) in
    gate_is_safe mid (g.D.Disk.shows c.write_through-2.new.disk) (g.met.D.Disk.sound c.write_through.new.disk) safe (c.in_ok-write_through-2.ensures.written told) (c.in_ok-write_through-2.ensures.settled told) place

pub returns-clause-size : goal.returns-clause-size
returns-clause-size g c told =
    let old = (g.D.Disk.shows c.args.disk.now).seen c.args.file in
    let mid = (g.D.Disk.shows c.write_through.new.disk).seen c.args.file in
    let new = (g.D.Disk.shows c.write_through-2.new.disk).seen c.args.file in
    appended_size old mid new c.args.payload.now c.as_slice.result.now c.args.end (c.as_slice.ensures ∙ c.in_ok-record.ensures) (c.in_ok-write_through.ensures.written told) (c.in_ok-write_through-2.ensures.written told)

pub returns-clause-bytes : goal.returns-clause-bytes
returns-clause-bytes g c told =
    let old = (g.D.Disk.shows c.args.disk.now).seen c.args.file in
    let laid = ap (overlaid old (c.args.end + 1)) (c.as_slice.ensures ∙ c.in_ok-record.ensures) in
    c.in_ok-write_through-2.ensures.written told ∙ ap (λ bytes. overlaid bytes c.args.end (1 ∷ [])) (c.in_ok-write_through.ensures.written told ∙ laid)
