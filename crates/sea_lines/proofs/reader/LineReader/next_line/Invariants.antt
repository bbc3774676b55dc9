use Rattle.std.proofs.Common.{◌≡◌, ◌-◌}
use Rattle.sea_lines.specs.Lines.{input_limit}
use Rattle.sea_lines.proofs.LinesSteps.{Gathers}
use Rattle.sea_lines.specs.Reader.{place_of}
use Rattle.sea_lines.proofs.reader.LineReader.next_line.Given as goal

abbrev pub invariant-loop-line : goal.invariant-loop-line
invariant-loop-line g l = record {
  gathered : Gathers (place_of l.fn.self (g.S.Source.left l.fn.source)) (place_of l.self (g.S.Source.left l.source)) l.line.items;
  same : g.S.Source.faults l.source ≡ g.S.Source.faults l.fn.source;
}

abbrev pub decreases-loop-line : goal.decreases-loop-line
decreases-loop-line g l = input_limit - l.self.read
