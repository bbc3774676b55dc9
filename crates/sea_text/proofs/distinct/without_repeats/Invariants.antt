use Rattle.std.proofs.Common.{drop}
use Rattle.std.specs.BTreeSet.{contains_text}
use Rattle.sea_text.proofs.DistinctLaws.{IsOnceSoFar}
use Rattle.sea_text.proofs.distinct.without_repeats.Given as goal

-- the set has the texts that were kept
abbrev pub invariant-loop-text : goal.invariant-loop-text
invariant-loop-text l = IsOnceSoFar (contains_text l.seen) l.texts l.kept (drop l.text-index l.texts)
