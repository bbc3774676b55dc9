use Rattle.std.proofs.Common.{arith}
use Rattle.sea_lines.proofs.LinesBuffer.{piece_rest}
use Rattle.sea_lines.proofs.reader.LineReader.take_piece.Goals as goal

pub returns-clause-rest : goal.returns-clause-rest
returns-clause-rest c =
    let self = c.args.self.now in
    piece_rest c.deref.result.now self.buffer.items self.from self.to c.length_of_line-length.result c.min-count.result c.deref.ensures.value self.ordered (omega (arith, self.held, self.buffer.ok.0)) c.length_of_line-length.ensures.place c.min-count.ensures
