use Rattle.std.proofs.Common.{IsUtf8, sym, ◌∙◌, subst}
use Rattle.sea_record.proofs.record.entry_of_fields.Goals as goal

-- the canonical text of an operation that was read is a form of it
pub returns-clause-some : goal.returns-clause-some
returns-clause-some c =
    let cases = c.in-Ok.ensures.cases in
    record {
      moment = c.in-Some.ensures.some;
      user = subst IsUtf8 (sym (c.in_ok-user.ensures ∙ cases.0)) cases.1;
      form = c.texts_are_forms.ensures c.in-Some-2.op c.args.text.now (sym c.in_ok-op.ensures ∙ c.in-Some-2.is);
    }
