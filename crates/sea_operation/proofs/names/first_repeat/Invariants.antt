use Rattle.std.proofs.Common.{◌≡◌, ℕ, List, [], map, take, drop}
use Rattle.std.specs.BTreeSet.{contains_text}
use Rattle.sea_text.specs.Distinct.{is_among}
use Rattle.sea_operation.specs.Names.{first_repeat}
use Rattle.sea_operation.proofs.names.first_repeat.Given as goal

-- the set has the names so far, and the first repeat is among what is left
abbrev pub invariant-loop-item : goal.invariant-loop-item
invariant-loop-item g l = record {
  known : (name : List ℕ) → contains_text l.seen name ≡ is_among (map g.T.Named.name (take l.item-index l.items)) name;
  rest : first_repeat (contains_text l.used) (map g.T.Named.name (take l.item-index l.items)) (map g.T.Named.name (drop l.item-index l.items)) ≡ first_repeat (contains_text l.used) [] (map g.T.Named.name l.items);
}
