use Rattle.std.proofs.Common.{◌≡◌, List, sym, subst, rules}
use Rattle.sea_disk.specs.declared.calls.Call.{Call}
use Rattle.sea_disk.specs.declared.calls.Act.TheVariants.{FailedCut}
use Rattle.sea_disk.specs.Calls.{Cut, Turns}
use Rattle.sea_disk.specs.Traced.{with_call, shown_of}
use Rattle.sea_disk.proofs.Recorded.{failed_cut_turns}
use Rattle.sea_disk.proofs.history.History.fail_cut.Goals as goal

pub returns-clause-turns : goal.returns-clause-turns
returns-clause-turns c =
    let old = c.args.self.now.calls in
    let made : c.push.new.self ≡ with_call old c.args.file (FailedCut c.args.len) = search rules in
    subst (λ (calls : List Call). Turns c.args.file (Cut c.args.len) (shown_of old) (shown_of calls)) (sym made) (failed_cut_turns old c.args.file c.args.len)
