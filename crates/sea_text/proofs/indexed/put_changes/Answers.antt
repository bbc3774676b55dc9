use Rattle.std.proofs.Common.{sym, ◌∙◌, arith}
use Rattle.sea_text.specs.Named.{is_named}
use Rattle.sea_text.proofs.ChangesLaws.{next-stays, next-put}
use Rattle.sea_text.proofs.indexed.put_changes.Goals as goal

pub loop-at-preserved-then-is_named : goal.loop-at-preserved-then-is_named
loop-at-preserved-then-is_named g c = (
  omega (arith, c.loop-at.invariant.0),
  c.put_last.ensures.length ∙ c.loop-at.invariant.1,
  λ change made.
      let was = c.loop-at.invariant.2 change made in
      next-put (is_named g.T.Named.name c.args.name.now) change c.args.items.now c.loop-at.at c.loop-at.items c.index-as_slice-at.result c.loop-at.invariant.0 (omega arith) was.0 (rw (sym c.as_slice.ensures) c.index-as_slice-at.is)
      c.loop-at.news c.put_last.new.items c.put_last.new.news (sym c.is_named.ensures ∙ c.if-is_named.true) was.1 c.put_last.ensures.put,
)

pub loop-at-preserved : goal.loop-at-preserved
loop-at-preserved g c = (
  omega (arith, c.loop-at.invariant.0),
  c.loop-at.invariant.1,
  λ change made.
      let was = c.loop-at.invariant.2 change made in
      next-stays (is_named g.T.Named.name c.args.name.now) change c.args.items.now c.loop-at.at c.loop-at.items c.index-as_slice-at.result c.loop-at.invariant.0 (omega arith) was.0 (rw (sym c.as_slice.ensures) c.index-as_slice-at.is)
      c.loop-at.news (sym c.is_named.ensures ∙ c.if-is_named.false) was.1,
)
