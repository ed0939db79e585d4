use Rattle.std.proofs.Common.{◌≡◌, ◌∙◌, Err, ap, sym}
use Rattle.work_queue.specs.declared.queues.AddFault.{AddFault}
use Rattle.server_components.proofs.stores.BatchStore.keep.Goals as goal

pub returns-in-Err-clause-full : goal.returns-in-Err-clause-full
returns-in-Err-clause-full c = λ charge.
    let told = rw c.len-length.ensures at (c.hold.ensures.full charge) in (
      λ e. let same : c.in-Err.full.charge ≡ charge = cc in told.0 (c.in-Err.is ∙ ap (λ n. Err (record { charge = n })) same),
      λ x. let e = sym c.in-Err.is ∙ told.1 x in let same : c.in-Err.full.charge ≡ charge = cc in ap (λ n. Err (AddFault.Full n)) same,
    )

pub returns-then-is_err-clause-full : goal.returns-then-is_err-clause-full
returns-then-is_err-clause-full c = λ charge.
    let told = rw c.len-length.ensures at (c.hold.ensures.full charge) in (
      λ e. absurd (cc),
      λ x. let e = sym c.in_default.is ∙ told.1 x in absurd (cc),
    )

pub returns-clause-full : goal.returns-clause-full
returns-clause-full c = λ charge.
    let told = rw c.len-length.ensures at (c.hold.ensures.full charge) in (
      λ e. absurd (cc),
      λ x. let e = sym c.in_default.is ∙ told.1 x in absurd (cc),
    )
