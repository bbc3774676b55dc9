use Rattle.std.proofs.Common.{ℕ, ◌==◌, List, sym, ap, ◌∙◌}
use Rattle.std.specs.List.{before_first, after_first}
use Rattle.std.proofs.lemmas.Str.{is_utf8-from_IsUtf8}
use Rattle.sea_drive.specs.Asked.{verb_of}
use Rattle.sea_drive.specs.declared.verb.Verb.{Verb}
use Rattle.sea_drive.proofs.AskedLaws.{asked-bad, asked-words, utf8-false}
use Rattle.sea_drive.proofs.verb.asked_by.Goals as goal

pub returns-in_default-clause-verb : goal.returns-in_default-clause-verb
returns-in_default-clause-verb c = sym (ap (λ (asked : Verb × List ℕ). asked.0) (asked-bad c.args.text.now (sym c.is_silent.ensures ∙ c.if-is_silent.false) (utf8-false c.args.text.now c.in_default.ensures.cases.0)))

pub returns-in_default-clause-rest : goal.returns-in_default-clause-rest
returns-in_default-clause-rest c = sym (ap (λ (asked : Verb × List ℕ). asked.1) (asked-bad c.args.text.now (sym c.is_silent.ensures ∙ c.if-is_silent.false) (utf8-false c.args.text.now c.in_default.ensures.cases.0)))

-- the words of a line are those of its bytes
pub returns-clause-verb : goal.returns-clause-verb
returns-clause-verb c =
    let bytes = c.args.text.now in
    let same = c.in-Ok.ensures.cases.0 in
    let words = asked-words bytes (sym c.is_silent.ensures ∙ c.if-is_silent.false) (is_utf8-from_IsUtf8 bytes c.in-Ok.ensures.cases.1) in
    let word = c.split_word.ensures.word ∙ ap (before_first (λ byte. byte == 32)) same in
    c.verb_of.ensures ∙ ap (λ (w : List ℕ). verb_of w c.in-Ok.text.now) word ∙ ap (verb_of (before_first (λ byte. byte == 32) bytes)) same ∙ sym (ap (λ (asked : Verb × List ℕ). asked.0) words)

pub returns-clause-rest : goal.returns-clause-rest
returns-clause-rest c =
    let bytes = c.args.text.now in
    let words = asked-words bytes (sym c.is_silent.ensures ∙ c.if-is_silent.false) (is_utf8-from_IsUtf8 bytes c.in-Ok.ensures.cases.1) in
    c.split_word.ensures.rest ∙ ap (after_first (λ byte. byte == 32)) c.in-Ok.ensures.cases.0 ∙ sym (ap (λ (asked : Verb × List ℕ). asked.1) words)
