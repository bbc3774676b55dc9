-- What was placed is the front of what was left.
use Rattle.std.proofs.lemmas.List.{take_rest}
use Rattle.sea_edge.proofs.Placed.{placed_front, none_placed}
use Rattle.sea_edge.proofs.memory.MemSourceSource.take.Goals as goal

pub returns-clause-bytes : goal.returns-clause-bytes
returns-clause-bytes c =
    let front = rw (c.deref.ensures.value, take_rest) at c.place-count.ensures.placed in
    let count = rw (c.deref.ensures.value, take_rest) at c.place-count.ensures.count in
    (placed_front _ _ _ _ _ _ _ count front, none_placed _ _ _ _ c.args.self.now.moves c.requires count)
