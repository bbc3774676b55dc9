use Rattle.std.proofs.Common.{◌==◌, ap, sym, ◌∙◌, ℕ, Option, false}
use Rattle.std.specs.Option.{option_map_or}
use Rattle.serde_json.specs.Data.{Members}
use Rattle.sea_ops.specs.Operations.{count_of}
use Rattle.sea_ops.proofs.OperationsLaws.{count-members}
use Rattle.sea_ops.proofs.members.has_members.Goals as goal

pub returns-in-Some : goal.returns-in-Some
returns-in-Some c =
    ap (λ (n : ℕ). n == c.args.count) (c.len.ensures.len ∙ sym (count-members c.in-Some.members.now.entries))
    ∙ ap (λ (object : Option Members). option_map_or (λ members. count_of members == c.args.count) object false) c.in-Some.ensures
