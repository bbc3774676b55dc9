use Rattle.std.proofs.Common.{◌≡◌, List, sym, subst, rules}
use Rattle.sea_disk.specs.declared.calls.Call.{Call}
use Rattle.sea_disk.specs.declared.calls.Act.TheVariants.{Sync}
use Rattle.sea_disk.specs.Shown.{IsSettled}
use Rattle.sea_disk.specs.Calls.{Turns}
use Rattle.sea_disk.specs.Traced.{with_call, shown_of}
use Rattle.sea_disk.proofs.Recorded.{sync_turns, sync_settles}
use Rattle.sea_disk.proofs.history.History.sync.Goals as goal

pub returns-clause-turns : goal.returns-clause-turns
returns-clause-turns c =
    let old = c.args.self.now.calls in
    let made : c.push.new.self ≡ with_call old c.args.file Sync = search rules in
    subst (λ (calls : List Call). Turns c.args.file (λ was now. now ≡ was) (shown_of old) (shown_of calls)) (sym made) (sync_turns old c.args.file)

pub returns-clause-settled : goal.returns-clause-settled
returns-clause-settled c =
    let old = c.args.self.now.calls in
    let made : c.push.new.self ≡ with_call old c.args.file Sync = search rules in
    subst (λ (calls : List Call). IsSettled (shown_of calls) c.args.file) (sym made) (sync_settles old c.args.file)
