use Rattle.std.proofs.Common.{sym, subst, ◌∙◌, inl, inr}
use Rattle.std.proofs.KnownBytes.{Appends-nil}
use Rattle.sea_dump.specs.Dump.{dump_lines}
use Rattle.sea_drive.specs.Dumps.{SaysOfLines}
use Rattle.sea_drive.specs.declared.status.Status.{Status}
use Rattle.sea_drive.proofs.DumpLaws.{says_of_lines, not_a_base}
use Rattle.sea_drive.proofs.dumping.dump.Goals as goal

pub returns-in-Ok-clause-ends : goal.returns-in-Ok-clause-ends
returns-in-Ok-clause-ends g c =
    let lines = dump_lines c.in-Ok.core.content in
    let taken = g.K.Sink.taken c.args.sink.now in
    let given = g.K.Sink.taken c.write_base-written.new.sink in
    let gives = rw c.content.ensures at c.write_base-written.ensures.gives in
    let says = says_of_lines c.write_base-written.result lines taken given gives in
    inl (record {
      core = c.in-Ok.core;
      start = c.in-Ok.ensures;
      back_is = c.finish.ensures;
      says = subst (λ (ending : Status). SaysOfLines ending lines taken given) (sym c.dump_status.ensures) says;
    })

-- the start was refused
pub returns-in-Err-clause-ends : goal.returns-in-Err-clause-ends
returns-in-Err-clause-ends g c = inr (record {
  fault = c.in-Err.fault;
  says = c.start_status.ensures;
  start = c.in-Err.ensures;
  nothing = Appends-nil (g.K.Sink.taken c.args.sink.now);
})

pub returns-in-Err-clause-no_base : goal.returns-in-Err-clause-no_base
returns-in-Err-clause-no_base g c = λ told is. c.in-Err.ensures.no_base told (not_a_base c.in-Err.fault (sym is ∙ c.start_status.ensures))
