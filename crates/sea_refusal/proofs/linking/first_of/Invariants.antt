use Rattle.std.proofs.Common.{◌≡◌, ℕ, List, [], take, drop}
use Rattle.std.specs.BTreeSet.{contains_text}
use Rattle.sea_text.specs.Distinct.{is_among}
use Rattle.sea_operation.specs.Joined.{texts_of_ids}
use Rattle.sea_operation.specs.Names.{first_repeat}
use Rattle.sea_operation.specs.Refusal.{is_so_linked}
use Rattle.sea_refusal.proofs.linking.first_of.Given as goal

-- the set has the ids so far, and the first one is among what is left
abbrev pub invariant-loop-other : goal.invariant-loop-other
invariant-loop-other g l = record {
  known : (id : List ℕ) → contains_text l.before id ≡ is_among (texts_of_ids (take l.other-index l.others)) id;
  rest : first_repeat (is_so_linked l.linked (g.S.SeenBase.seen l.seen) l.end l.row) (texts_of_ids (take l.other-index l.others)) (texts_of_ids (drop l.other-index l.others)) ≡ first_repeat (is_so_linked l.linked (g.S.SeenBase.seen l.seen) l.end l.row) [] (texts_of_ids l.others);
}
