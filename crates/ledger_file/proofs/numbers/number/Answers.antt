use Rattle.std.proofs.Common.{◌≡◌, ◌∙◌, ap, sym, Ok}
use Rattle.std.specs.Prelude.{decimal}
use Rattle.std.proofs.lemmas.Bool.{false≢true}
use Rattle.std.proofs.lemmas.Fmt.{parse-decimal}
use Rattle.ledger_file.proofs.Parsing.{number_utf8}
use Rattle.ledger_file.proofs.Plain.{long_is}
use Rattle.ledger_file.proofs.numbers.number.Goals as goal

pub returns-in_default : goal.returns-in_default
returns-in_default c = λ a inside e. c.in_default.ensures.cases.0 (number_utf8 c.args.word.now a inside e)

pub returns-in_default-parse : goal.returns-in_default-parse
returns-in_default-parse c = λ a inside e.
    let lt = long_is a inside in
    c.in_default-parse.not-Ok a (parse-decimal 64 a c.in-Ok.text.now c.parse.result lt lt (c.in-Ok.ensures.cases.0
    ∙ e) c.parse.ensures.value.0)

pub returns-then-not-is_written : goal.returns-then-not-is_written
returns-then-not-is_written c = λ a inside e.
    let lt = long_is a inside in
    let is : c.parse.result ≡ Ok a = parse-decimal 64 a c.in-Ok.text.now c.parse.result lt lt (c.in-Ok.ensures.cases.0
    ∙ e) c.parse.ensures.value.0 in
    let same : c.in-Ok-parse.n ≡ a = cc in
    false≢true (sym c.if-not-is_written.true ∙ c.is_written.ensures.1 (e ∙ ap decimal (sym same)))
