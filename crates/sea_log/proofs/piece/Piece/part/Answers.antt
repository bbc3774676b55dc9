use Rattle.std.proofs.Common.{◌≡◌, ◌+◌, ◌-◌, arith}
use Rattle.sea_log.proofs.Pieces.{part_stands}
use Rattle.sea_log.proofs.piece.Piece.part.Goals as goal

pub returns-clause-bytes : goal.returns-clause-bytes
returns-clause-bytes c content stands =
    let self = c.args.self.now in
    let count : c.args.at - self.from + c.args.count - (c.args.at - self.from) ≡ c.args.count = omega arith in
    rw (count, c.deref.ensures.value) (part_stands self.bytes.items content self.from c.args.at c.args.count stands c.requires.from c.requires.to)
