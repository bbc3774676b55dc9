use Rattle.std.proofs.Common.{◌≡◌, Bool, true, false, ◌||◌, cond, List, ℕ, refl, ap, ◌∙◌}
use Rattle.std.proofs.lemmas.Map.Text.{btree_set_updates_text}
use Rattle.std.specs.BTreeSet.{contains_text}
use Rattle.std.specs.Str.{bytes_eq}
use Rattle.std.specs.String.{string_bytes}
use Rattle.sea_text.proofs.distinct.insert_text.Goals as goal

or_turned : (b x : Bool) → cond b true x ≡ (x || b)
or_turned true true = refl
or_turned true false = refl
or_turned false true = refl
or_turned false false = refl

pub returns-clause-after : goal.returns-clause-after
returns-clause-after c = λ other.
    btree_set_updates_text _ c.args.seen.now c.insert.new.self true c.in_ok-insert.ensures.updates other
    ∙ or_turned (bytes_eq (string_bytes c.in_ok-from_str.field-0) other) (contains_text c.args.seen.now other)
    ∙ ap (λ (bytes : List ℕ). contains_text c.args.seen.now other || bytes_eq bytes other) c.in_ok-from_str.ensures.ok
