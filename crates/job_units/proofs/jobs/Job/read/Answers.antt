use Rattle.std.proofs.Common.{◌≡◌, ◌∙◌, ap, sym, take, drop, None, refl, arith}
use Rattle.std.specs.Int.{from_be_bytes, w32}
use Rattle.job_units.specs.Reading.{job_of_body}
use Rattle.job_units.proofs.JobBodies.{job_exact, job_found, job_unlike, job_unread}
use Rattle.job_units.proofs.jobs.Job.read.Goals as goal

pub returns-then-body-ne-BYTES : goal.returns-then-body-ne-BYTES
returns-then-body-ne-BYTES c =
    let none : None ≡ job_of_body c.args.body.now = job_unlike c.args.body.now c.if-body-ne-BYTES.true in
    record { read = none; exact = job_exact c.args.body.now None none }

pub returns-in_err-item : goal.returns-in_err-item
returns-in_err-item c =
    let last : c.split_at-2.result.1.now ≡ drop 4 (drop 4 c.args.body.now) =
    c.split_at-2.ensures.back ∙ ap (λ x. drop 4 x) c.split_at.ensures.back in
    let none : None ≡ job_of_body c.args.body.now = job_unread c.args.body.now (λ i e. c.in_err-item.ensures.none refl i (last ∙ e)) in
    rw c.from_residual.ensures (record { read = none; exact = job_exact c.args.body.now None none })

pub returns : goal.returns
returns c =
    let last : c.split_at-2.result.1.now ≡ drop 4 (drop 4 c.args.body.now) =
    c.split_at-2.ensures.back ∙ ap (λ x. drop 4 x) c.split_at.ensures.back in
    let found = job_found c.args.body.now _ c.if-body-ne-BYTES.false (λ i. omega (arith, c.type_inv.body i))
    (c.from_be_bytes.ensures ∙ ap (λ x. from_be_bytes w32 x) (c.array_of.ensures ∙ c.split_at.ensures.front))
    (c.from_be_bytes-2.ensures
    ∙ ap (λ x. from_be_bytes w32 x) (c.array_of-2.ensures ∙ c.split_at-2.ensures.front ∙ ap (λ x. take 4 x) c.split_at.ensures.back))
    (sym last ∙ c.in_ok-item.ensures.some) in
    record { read = found; exact = job_exact c.args.body.now _ found }
