use Rattle.std.proofs.Common.{◌≡◌, ◌∙◌, ap, sym, subst, Ok, arith, ◌≤◌, ℕ}
use Rattle.std.specs.Prelude.{decimal}
use Rattle.std.proofs.lemmas.Bool.{false≢true}
use Rattle.std.proofs.lemmas.Fmt.{parse-decimal}
use Rattle.tour_search.proofs.Written.{is_text, no_number, number_is}
use Rattle.tour_search.proofs.numbers.number_up_to.Goals as goal

pub returns-in_default : goal.returns-in_default
returns-in_default c = sym (no_number c.args.most c.args.word.now (λ n le e.
    c.in_default.ensures.cases.0 (is_text c.args.word.now n (omega (arith, c.ranges.most)) e)))

pub returns-in_default-parse : goal.returns-in_default-parse
returns-in_default-parse c = sym (no_number c.args.most c.args.word.now (λ n le e.
    c.in_default-parse.not-Ok n (parse-decimal 32 n c.in-Ok.text.now c.parse.result (omega (arith, c.ranges.most)) (omega arith)
    (c.in-Ok.ensures.cases.0 ∙ e) c.parse.ensures.value.0)))

pub returns-then-number-most : goal.returns-then-number-most
returns-then-number-most c = sym (no_number c.args.most c.args.word.now (λ n le e.
    let is : c.parse.result ≡ Ok n = parse-decimal 32 n c.in-Ok.text.now c.parse.result (omega (arith, c.ranges.most)) (omega arith)
    (c.in-Ok.ensures.cases.0 ∙ e) c.parse.ensures.value.0 in
    let same : c.in-Ok-parse.number ≡ n = cc in
    omega (arith, same, le)))

pub returns-then-not-is_written : goal.returns-then-not-is_written
returns-then-not-is_written c = sym (no_number c.args.most c.args.word.now (λ n le e.
    let is : c.parse.result ≡ Ok n = parse-decimal 32 n c.in-Ok.text.now c.parse.result (omega (arith, c.ranges.most)) (omega arith)
    (c.in-Ok.ensures.cases.0 ∙ e) c.parse.ensures.value.0 in
    let same : c.in-Ok-parse.number ≡ n = cc in
    false≢true (sym c.if-not-is_written.true ∙ c.is_written.ensures.1 (e ∙ ap decimal (sym same)))))

pub returns : goal.returns
returns c = sym (number_is c.args.most c.args.word.now c.in-Ok-parse.number (omega (arith, c.ranges.most)) (omega arith)
    (c.is_written.ensures.0 c.if-not-is_written.false))
