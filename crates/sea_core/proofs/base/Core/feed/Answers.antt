use Rattle.std.proofs.Common.{◌≡◌, ◌-◌, take, drop, refl, ap, ◌∙◌, arith}
use Rattle.sea_core.proofs.Counting.{counted_as}
use Rattle.sea_core.proofs.base.Core.feed.Goals as goal

pub overflow_sub-opening : goal.overflow_sub-opening
overflow_sub-opening g c = omega (arith, counted_as c.self.inside.opening.value c.self.inside.history c.self.inside.base c.self.invariant.0, c.len.ensures)

pub returns-then-from-opening : goal.returns-then-from-opening
returns-then-from-opening g c =
    let counts = counted_as c.self.inside.opening.value c.self.inside.history c.self.inside.base c.self.invariant.0 in
    rw (← c.self.view_is) (omega (arith, c.if-from-opening.true), omega (arith, counts, c.len.ensures))

pub returns-then-version-from : goal.returns-then-version-from
returns-then-version-from g c =
    let counts = counted_as c.self.inside.opening.value c.self.inside.history c.self.inside.base c.self.invariant.0 in
    rw (← c.self.view_is) (omega (arith, counts, c.len.ensures, c.if-from-opening.false), omega (arith, c.if-version-from.true), omega arith)

pub overflow_add-result : goal.overflow_add-result
overflow_add-result g c = omega (arith, c.self.invariant.1, c.if-version-from.false)

pub returns : goal.returns
returns g c =
    let counts = counted_as c.self.inside.opening.value c.self.inside.history c.self.inside.base c.self.invariant.0 in
    let skipped : c.args.from - (c.self.inside.base.version - c.len.result) ≡ c.args.from - c.self.inside.opening.value.version = omega (arith, counts, c.len.ensures) in
    let shared = c.in_ok-entries.ensures ∙ c.first_of.ensures ∙ ap (take c.args.most) (c.behind-rest.ensures ∙ ap (λ it. drop it c.as_slice.result.now) skipped ∙ ap (drop (c.args.from - c.self.inside.opening.value.version)) c.as_slice.ensures) in
    rw (← c.self.view_is) (omega (arith, counts, c.len.ensures, c.if-from-opening.false), omega (arith, c.if-version-from.false), refl, shared, refl)
