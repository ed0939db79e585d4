use Rattle.std.proofs.Common.{◌≤◌, ◌+◌, inl, inr, refl}
use Rattle.std.proofs.lemmas.Bool.{cases_lt}
use Rattle.work_queue.specs.Queue.{charge_of}
use Rattle.server_components.proofs.promising.push_query.Goals as goal

-- this number of bytes more would not go beyond the limit, since room was promised
pub returns-in-Ok-clause-promise : goal.returns-in-Ok-clause-promise
returns-in-Ok-clause-promise c =
    let q = c.args.queue.now in
    let fits : charge_of q + c.args.length ≤ q.limit = elim (cases_lt q.limit (charge_of q + c.args.length)) [
      | inl over ↦ let failed = (c.promise.ensures.full (charge_of q)).1 (over, refl) in absurd (cc (c.in-Ok.is, failed))
      | inr fits ↦ fits
    ] in
    (fits, c.in-Ok.ensures.promised)

pub returns-in-Ok-clause-full : goal.returns-in-Ok-clause-full
returns-in-Ok-clause-full c =
    let full = (c.promise.ensures.full (charge_of c.args.queue.now)).1 in
    (λ same. absurd (cc (same)), λ over. let failed = full (over, refl) in absurd (cc (c.in-Ok.is, failed)))

pub returns-in-Err-Full-clause-promise : goal.returns-in-Err-Full-clause-promise
returns-in-Err-Full-clause-promise c =
    let r = c.in-Err-Full in
    let said = (c.promise.ensures.full r.field-0-0).0 (cc (r.is, r.field-0-is)) in
    (said.0, r.ensures.err)

pub returns-in-Err-Full-clause-full : goal.returns-in-Err-Full-clause-full
returns-in-Err-Full-clause-full c =
    let r = c.in-Err-Full in
    let said = (c.promise.ensures.full r.field-0-0).0 (cc (r.is, r.field-0-is)) in
    (λ same. said.0, λ over. refl)

pub returns-in-Err-Memory-clause-full : goal.returns-in-Err-Memory-clause-full
returns-in-Err-Memory-clause-full c =
    let r = c.in-Err-Memory in
    let full = (c.promise.ensures.full (charge_of c.args.queue.now)).1 in
    (λ same. absurd (cc (same)), λ over. let failed = full (over, refl) in absurd (cc (r.is, r.field-0-is, failed)))
