use Rattle.std.proofs.Common.{ℕ, List, not, ap, ◌∙◌}
use Rattle.std.specs.BTreeSet.{contains_text}
use Rattle.sea_plain.proofs.Gone.{same_row}
use Rattle.sea_plain.proofs.joined.has_no_row.Goals as goal

pub returns : goal.returns
returns c = λ texts agree. ap not c.has_row.ensures ∙ same_row (λ (id : List ℕ). contains_text c.args.ids.now id) texts c.args.pair.now c.args.ends.now agree
