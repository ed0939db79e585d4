use Rattle.server_core.proofs.Prelude.{◌∙◌, Err, Exceeds, ap, batch_of, keep_inside, keeps_now, length, refl, refuses_now, state_of, sym}
use Rattle.server_core.proofs.states.ServerState.keep.Goals as goal

pub invariant_of-self : goal.invariant_of-self
invariant_of-self c =
    keep_inside (batch_of c.args.from c.args.request) c.args.common c.self.invariant c.in-Ok.ensures.kept c.in-Ok.ensures.charged

pub returns-in-Ok-clause-ok : goal.returns-in-Ok-clause-ok
returns-in-Ok-clause-ok c =
    let told = c.in-Ok.ensures in
    let room : Exceeds c.self.inside.queue (length c.args.common) → ⊥ =
    λ over. let full = sym c.in-Ok.is ∙ (c.keep.ensures.full _).1 (over, refl) in absurd (cc) in
    rw (← c.self.view_is)
    (keeps_now (state_of c.self.inside) c.args.out.now c.answer.new.out c.answer.new.self c.args.from c.args.request c.args.common
    c.if-self.false room told.kept told.charged c.answer.ensures.counted c.answer.ensures.told)

pub returns-in-Err-Full-clause-ok : goal.returns-in-Err-Full-clause-ok
returns-in-Err-Full-clause-ok c =
    let told = c.in-Err-Full.ensures in
    let full = (c.keep.ensures.full c.in-Err-Full.charge).0 (c.in-Err-Full.is ∙ ap (λ f. Err f) c.in-Err-Full.field-0-is) in
    let answered = rw c.in-Err-Full.field-0-is at c.answer-in-Err-Full.ensures.told in
    rw (← c.self.view_is)
    (refuses_now (state_of c.self.inside) c.args.out.now c.answer-in-Err-Full.new.out c.answer-in-Err-Full.new.self c.args.from
    c.args.request c.args.common c.if-self.false full.0 full.1 told.err told.uncharged c.answer-in-Err-Full.ensures.counted answered)
