use Rattle.std.proofs.Common.{◌≡◌, ◌+◌, List, sym, subst, rules}
use Rattle.sea_disk.specs.declared.calls.Call.{Call}
use Rattle.sea_disk.specs.declared.calls.Act.TheVariants.{FailedWrite}
use Rattle.sea_disk.specs.Calls.{Torn, Turns}
use Rattle.sea_disk.specs.Traced.{with_call, shown_of}
use Rattle.sea_disk.proofs.Recorded.{failed_write_turns}
use Rattle.sea_disk.proofs.history.History.fail_write.Goals as goal

pub returns-clause-turns : goal.returns-clause-turns
returns-clause-turns c =
    let old = c.args.self.now.calls in
    let made : c.push.new.self ≡ with_call old c.args.file (FailedWrite c.args.at (c.args.at + c.args.count)) = search rules in
    subst (λ (calls : List Call). Turns c.args.file (Torn c.args.at c.args.count) (shown_of old) (shown_of calls)) (sym made) (failed_write_turns old c.args.file c.args.at c.args.count)
