use Rattle.std.proofs.Common.{◌≡◌, ◌∙◌, ap, sym, Ok, arith}
use Rattle.std.specs.Prelude.{decimal}
use Rattle.std.proofs.lemmas.Bool.{false≢true}
use Rattle.std.proofs.lemmas.Fmt.{parse-decimal}
use Rattle.flow_app.proofs.Numbers.{is_text, no_number, number_is}
use Rattle.flow_app.proofs.words.number_of.Goals as goal

pub returns-in_default : goal.returns-in_default
returns-in_default c = sym (no_number c.args.word.now (λ n lt e. c.in_default.ensures.cases.0 (is_text c.args.word.now n lt e)))

pub returns-in_default-parse : goal.returns-in_default-parse
returns-in_default-parse c = sym (no_number c.args.word.now (λ n lt e.
    c.in_default-parse.not-Ok n (parse-decimal 64 n c.in-Ok.text.now c.parse.result lt lt (c.in-Ok.ensures.cases.0
    ∙ e) c.parse.ensures.value.0)))

pub returns-then-not-is_written : goal.returns-then-not-is_written
returns-then-not-is_written c = sym (no_number c.args.word.now (λ n lt e.
    let is : c.parse.result ≡ Ok n = parse-decimal 64 n c.in-Ok.text.now c.parse.result lt lt (c.in-Ok.ensures.cases.0
    ∙ e) c.parse.ensures.value.0 in
    let same : c.in-Ok-parse.number ≡ n = cc in
    false≢true (sym c.if-not-is_written.true ∙ c.is_written.ensures.1 (e ∙ ap decimal (sym same)))))

pub returns : goal.returns
returns c = sym (number_is c.args.word.now c.in-Ok-parse.number (omega arith) (c.is_written.ensures.0 c.if-not-is_written.false))
