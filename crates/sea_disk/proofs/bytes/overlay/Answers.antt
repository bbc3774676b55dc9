use Rattle.std.proofs.Common.{ℕ, ◌+◌, List, ◌++◌, length, take, drop, ap, ◌∙◌, arith}
use Rattle.std.proofs.lemmas.List.{with_items_is}
use Rattle.sea_disk.proofs.Overlays.{put-grown}
use Rattle.sea_disk.proofs.bytes.overlay.Goals as goal

pub returns-clause-ok : goal.returns-clause-ok
returns-clause-ok c =
    let at = c.args.at in
    let piece = c.args.piece.now in
    let grown = c.grow.new.bytes in
    with_items_is grown c.put.new.bytes (omega (arith, c.put.auto.bytes, c.as_mut_slice.ensures.len, grown.ok.0))
    ∙ c.put.ensures
    ∙ ap (λ (bytes : List ℕ). take at bytes ++ piece ++ drop (at + length piece) bytes) (c.as_mut_slice.ensures.value ∙ c.in_ok-grow.ensures.ok)
    ∙ put-grown c.args.bytes.now.items piece at c.in-Some.end (omega arith)
