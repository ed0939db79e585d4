use Rattle.std.proofs.Common.{◌≡◌, ◌∙◌, ap, sym, Ok, arith, ℤ, w32}
use mir.Val.{to_z, of_z}
use Rattle.std.proofs.lemmas.Int.{to_z-of_z}
use Rattle.std.specs.Fmt.{signed_decimal}
use Rattle.std.proofs.lemmas.Bool.{false≢true}
use Rattle.std.proofs.lemmas.Fmt.{parse-signed_decimal}
use Rattle.ledger_file.proofs.Parsing.{prio_utf8, signed_size}
use Rattle.ledger_file.proofs.numbers.prio.Goals as goal

pub returns-in_default : goal.returns-in_default
returns-in_default c = λ a inside e. c.in_default.ensures.cases.0 (prio_utf8 c.args.word.now a inside e)

pub returns-in_default-parse : goal.returns-in_default-parse
returns-in_default-parse c = λ a inside e.
    let size = signed_size a inside in
    c.in_default-parse.not-Ok a (parse-signed_decimal _ a c.in-Ok.text.now c.parse.result (record { sfits = size }) (omega arith)
    (c.in-Ok.ensures.cases.0 ∙ e) c.parse.ensures.value.0)

pub returns-then-not-is_written : goal.returns-then-not-is_written
returns-then-not-is_written c = λ a inside e.
    let size = signed_size a inside in
    let is : c.parse.result ≡ Ok a = parse-signed_decimal _ a c.in-Ok.text.now c.parse.result (record { sfits = size }) (omega arith)
    (c.in-Ok.ensures.cases.0 ∙ e) c.parse.ensures.value.0 in
    let same : c.in-Ok-parse.prio ≡ a = cc in
    false≢true (sym c.if-not-is_written.true ∙ c.is_written.ensures.1 (e
    ∙ ap signed_decimal (sym (ap (λ (z : ℤ). to_z w32 (of_z w32 z)) same ∙ to_z-of_z w32 a (record { sfits = size })))))
