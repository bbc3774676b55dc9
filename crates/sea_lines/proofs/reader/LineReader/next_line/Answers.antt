use Rattle.std.proofs.Common.{arith, ltb-true, ltb-false, Ok, ap, sym, ◌∙◌}
use Rattle.std.proofs.lemmas.Bool.{eqb-false}
use Rattle.std.proofs.lemmas.Result.{err_from_is_err_and}
use Rattle.sea_lines.specs.Reader.{place_of, unread}
use Rattle.sea_lines.proofs.LinesSteps.{Gathers-kept, Gathers-piece, Ends-piece, PassesLimit-piece, BreaksOff-gathered, ReadsLine-ended, ReadsLine-last, IsWithin-ended}
use Rattle.sea_lines.proofs.reader.LineReader.next_line.Goals as goal

pub returns-in_err-take_piece-clause-too_long : goal.returns-in_err-take_piece-clause-too_long
returns-in_err-take_piece-clause-too_long g c = λ e.
    let start = place_of c.args.self.now (g.S.Source.left c.args.source.now) in
    let before = place_of c.loop-line.self (g.S.Source.left c.loop-line.source) in
    let left = g.S.Source.left c.fetch.new.source in
    let reader = c.fetch.new.self in
    let kept = Gathers-kept start before (place_of reader left) c.loop-line.line.items c.loop-line.invariant.gathered c.in_ok-fetch.ensures.bytes c.in_ok-fetch.ensures.read in
    let answer = err_from_is_err_and c.from_residual-in_err-take_piece.result c.from_residual-in_err-take_piece.ensures.1 in
    let over = c.take_piece.ensures.too_long (cc (c.in_err-take_piece.was, answer.1, answer.2, e)) in
    PassesLimit-piece start reader.read left (unread reader) c.loop-line.line.items kept over

pub returns-in_err-fetch-clause-broken : goal.returns-in_err-fetch-clause-broken
returns-in_err-fetch-clause-broken g c = λ e.
    let start = place_of c.args.self.now (g.S.Source.left c.args.source.now) in
    let before = place_of c.loop-line.self (g.S.Source.left c.loop-line.source) in
    let left = g.S.Source.left c.fetch.new.source in
    let reader = c.fetch.new.self in
    let kept = Gathers-kept start before (place_of reader left) c.loop-line.line.items c.loop-line.invariant.gathered c.fetch.ensures.bytes c.fetch.ensures.read in
    BreaksOff-gathered start reader.read left (unread reader) c.loop-line.line.items kept c.in_err-fetch.ensures.none

pub returns-then-branch-2-clause-line : goal.returns-then-branch-2-clause-line
returns-then-branch-2-clause-line g c =
    let start = place_of c.args.self.now (g.S.Source.left c.args.source.now) in
    let before = place_of c.loop-line.self (g.S.Source.left c.loop-line.source) in
    let left = g.S.Source.left c.fetch.new.source in
    let reader = c.fetch.new.self in
    let kept = Gathers-kept start before (place_of reader left) c.loop-line.line.items c.loop-line.invariant.gathered c.in_ok-fetch.ensures.bytes c.in_ok-fetch.ensures.read in
    let after = c.take_piece.new.self in
    let piece = c.in_ok-take_piece.ensures in
    let some = ltb-true _ _ (sym piece.ended ∙ c.if-branch-2.true) in
    let ended = Ends-piece start reader.read after.read left (unread reader) (unread after) c.loop-line.line.items c.take_piece.new.line.items kept some piece.piece piece.rest piece.read piece.short in
    ReadsLine-ended start (place_of after left) c.take_piece.new.line.items ended

pub returns-then-branch-2-clause-within : goal.returns-then-branch-2-clause-within
returns-then-branch-2-clause-within g c =
    let start = place_of c.args.self.now (g.S.Source.left c.args.source.now) in
    let before = place_of c.loop-line.self (g.S.Source.left c.loop-line.source) in
    let left = g.S.Source.left c.fetch.new.source in
    let reader = c.fetch.new.self in
    let kept = Gathers-kept start before (place_of reader left) c.loop-line.line.items c.loop-line.invariant.gathered c.in_ok-fetch.ensures.bytes c.in_ok-fetch.ensures.read in
    let after = c.take_piece.new.self in
    let piece = c.in_ok-take_piece.ensures in
    let some = ltb-true _ _ (sym piece.ended ∙ c.if-branch-2.true) in
    let ended = Ends-piece start reader.read after.read left (unread reader) (unread after) c.loop-line.line.items c.take_piece.new.line.items kept some piece.piece piece.rest piece.read piece.short in
    IsWithin-ended start (place_of after left) c.take_piece.new.line.items ended after.within

pub loop-line-preserved : goal.loop-line-preserved
loop-line-preserved g c =
    let start = place_of c.args.self.now (g.S.Source.left c.args.source.now) in
    let before = place_of c.loop-line.self (g.S.Source.left c.loop-line.source) in
    let left = g.S.Source.left c.fetch.new.source in
    let reader = c.fetch.new.self in
    let kept = Gathers-kept start before (place_of reader left) c.loop-line.line.items c.loop-line.invariant.gathered c.in_ok-fetch.ensures.bytes c.in_ok-fetch.ensures.read in
    let after = c.take_piece.new.self in
    let piece = c.in_ok-take_piece.ensures in
    let none = ltb-false _ _ (sym piece.ended ∙ c.if-branch-2.false) in record {
      gathered = Gathers-piece start reader.read after.read left (unread reader) (unread after) c.loop-line.line.items c.take_piece.new.line.items kept none piece.piece piece.rest piece.read piece.short;
      same = c.in_ok-fetch.ensures.cause ∙ c.loop-line.invariant.same;
    }

pub returns-clause-line : goal.returns-clause-line
returns-clause-line g c =
    let start = place_of c.args.self.now (g.S.Source.left c.args.source.now) in
    let before = place_of c.loop-line.self (g.S.Source.left c.loop-line.source) in
    let later = place_of c.fetch.new.self (g.S.Source.left c.fetch.new.source) in
    let line = c.loop-line.line in
    let found = c.in_ok-fetch.ensures in
    let filled = eqb-false _ _ (sym c.is_empty.ensures ∙ c.if-is_empty.false) in
    ReadsLine-last start before later line.items c.loop-line.invariant.gathered (found.end (ap Ok c.if-branch.false)) found.bytes found.read (omega (arith, filled, line.ok.0))
