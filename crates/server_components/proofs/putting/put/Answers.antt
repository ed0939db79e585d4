use Rattle.std.proofs.Common.{◌≡◌, ◌≤◌, ◌+◌, ℕ, length, Result, Err, Ok, refl, sym, ap, ◌∙◌, inl, inr}
use Rattle.std.proofs.lemmas.Bool.{cases_lt}
use Rattle.adlb_unit.specs.declared.units.Unit.{Unit as Piece}
use Rattle.work_queue.specs.Queue.{charge_of}
use Rattle.work_queue.specs.declared.queues.AddFault.{AddFault}
use Rattle.work_queue.specs.declared.queues.AddFault.TheVariants as refused
use Rattle.server_components.specs.declared.putting.PutStep.TheVariants as step
use Rattle.server_components.proofs.putting.put.Goals as goal

-- the body would not go beyond the limit, if the unit was added
pub returns-in-Ok-clause-put : goal.returns-in-Ok-clause-put
returns-in-Ok-clause-put c =
    let q = c.args.queue.now in
    let fits : charge_of q + length c.args.unit.body ≤ q.limit = elim (cases_lt q.limit (charge_of q + length c.args.unit.body)) [
      | inl over ↦ let failed = (c.add.ensures.full (charge_of q)).1 (over, refl) in absurd (cc (c.in-Ok.is, failed))
      | inr fits ↦ fits
    ] in
    (fits, c.in-Ok.ensures.added)

pub returns-in-Ok-clause-full : goal.returns-in-Ok-clause-full
returns-in-Ok-clause-full c n =
    (λ same. absurd (cc (same)), λ over. let failed = (c.add.ensures.full n).1 over in absurd (cc (c.in-Ok.is, failed)))

pub returns-in-Err-default-Full-clause-put : goal.returns-in-Err-default-Full-clause-put
returns-in-Err-default-Full-clause-put c =
    let r = c.in-Err-default-Full in
    let back : r.field-0-0 ≡ c.args.unit = r.ensures.back in
    let said = (c.add.ensures.full r.charge).0 (cc (r.is, back)) in
    (said.0, said.1, r.ensures.err)

pub returns-in-Err-default-Full-clause-full : goal.returns-in-Err-default-Full-clause-full
returns-in-Err-default-Full-clause-full c n =
    let r = c.in-Err-default-Full in
    let back : r.field-0-0 ≡ c.args.unit = r.ensures.back in
    let said = (c.add.ensures.full r.charge).0 (cc (r.is, back)) in
    (λ same. let e : r.charge ≡ n = cc (same) in (said.0, sym e ∙ said.1), λ over. ap (λ m. Ok (step.Full m)) (said.1 ∙ sym over.1))

abbrev fault_in : Result (Unit {0}) (Piece × AddFault) → AddFault
fault_in (Ok done) = refused.Memory
fault_in (Err back) = back.1

-- a lack of memory is not a full queue
memory_differs : (r : Result (Unit {0}) (Piece × AddFault)) (u v : Piece) (f : AddFault) (n : ℕ) → r ≡ Err (u, f) → f ≡ refused.Memory
    → r ≡ Err (v, refused.Full n) → ⊥
memory_differs r u v f n failed memory full = let same : refused.Memory ≡ refused.Full n = sym memory ∙ ap fault_in (sym failed ∙ full) in
    absurd (cc (same))

pub returns-clause-full : goal.returns-clause-full
returns-clause-full c n = (
  λ same. absurd (cc (same)),
  λ over. absurd
      (memory_differs c.add.result _ _ _ n c.in-Err-default-Memory.is c.in-Err-default-Memory.field-0-1-is ((c.add.ensures.full n).1 over)),
)
