use Rattle.std.proofs.Common.{◌≡◌, List, length, sym, subst, rules, arith}
use Rattle.std.proofs.lemmas.Grind.{common_steps}
use Rattle.sea_disk.specs.declared.calls.Call.{Call}
use Rattle.sea_disk.specs.declared.calls.Act.TheVariants.{Write}
use Rattle.sea_disk.specs.Calls.{Torn, Turns}
use Rattle.sea_disk.specs.Traced.{with_call, shown_of}
use Rattle.sea_disk.proofs.Recorded.{write_turns, turns_idle, torn_stays}
use Rattle.sea_disk.proofs.history.History.write.Goals as goal

pub returns-in-Ok-clause-turns : goal.returns-in-Ok-clause-turns
returns-in-Ok-clause-turns c =
    let old = c.args.self.now.calls in
    let made : c.push.new.self ≡ with_call old c.args.file (Write c.args.at c.args.bytes.now) = search rules in
    subst (λ (calls : List Call). Turns c.args.file (Torn c.args.at (length c.args.bytes.now)) (shown_of old) (shown_of calls)) (sym made) (write_turns old c.args.file c.args.at c.args.bytes.now)

-- the call was taken back
pub returns-in-Err-clause-turns : goal.returns-in-Err-clause-turns
returns-in-Err-clause-turns c =
    let old = c.args.self.now.calls in
    let back : c.pop.new.self ≡ old = grind (arith, common_steps) in
    subst (λ (calls : List Call). Turns c.args.file (Torn c.args.at (length c.args.bytes.now)) (shown_of old) (shown_of calls)) (sym back) (turns_idle old c.args.file (Torn c.args.at (length c.args.bytes.now)) (torn_stays c.args.at (length c.args.bytes.now)))
