use Rattle.std.proofs.Common.{rules}
use Rattle.std.proofs.lemmas.List.Sorted.{answers_always}
use Rattle.sea_cell.proofs.CellsLaws.{searched}
use Rattle.sea_cell.proofs.row.search.Goals as goal

-- the closure gives a cell's key
pub returns : goal.returns
returns c =
    let facts = c.binary_search_by_key.ensures in
    searched c.args.cells.now c.requires c.args.key c.binary_search_by_key.result facts.bound (facts.position (λ cell. cell.key.0) (answers_always _ _ _ (λ f a r g called. search rules)))
