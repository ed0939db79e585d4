use Rattle.std.proofs.Common.{◌≡◌, ◌∙◌, ap, take, drop, None, arith}
use Rattle.std.specs.Int.{from_be_bytes, w32, w64}
use Rattle.job_units.specs.Reading.{answer_of_body}
use Rattle.job_units.proofs.AnswerBodies.{answer_exact, answer_found, answer_unlike}
use Rattle.job_units.proofs.answers.Answer.read.Goals as goal

pub returns-then-body-ne-BYTES : goal.returns-then-body-ne-BYTES
returns-then-body-ne-BYTES c =
    let none : None ≡ answer_of_body c.args.body.now = answer_unlike c.args.body.now c.if-body-ne-BYTES.true in
    record { read = none; exact = answer_exact c.args.body.now None none }

pub returns : goal.returns
returns c =
    let last : c.split_at-2.result.1.now ≡ drop 4 (drop 4 c.args.body.now) =
    c.split_at-2.ensures.back ∙ ap (λ x. drop 4 x) c.split_at.ensures.back in
    let found = answer_found c.args.body.now _ c.if-body-ne-BYTES.false (λ i. omega (arith, c.type_inv.body i))
    (c.from_be_bytes.ensures ∙ ap (λ x. from_be_bytes w32 x) (c.array_of.ensures ∙ c.split_at.ensures.front))
    (c.from_be_bytes-2.ensures
    ∙ ap (λ x. from_be_bytes w32 x) (c.array_of-2.ensures ∙ c.split_at-2.ensures.front ∙ ap (λ x. take 4 x) c.split_at.ensures.back))
    (c.from_be_bytes-3.ensures ∙ ap (λ x. from_be_bytes w64 x) (c.array_of-3.ensures ∙ last)) in
    record { read = found; exact = answer_exact c.args.body.now _ found }
