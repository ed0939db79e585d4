use Rattle.core_inline.proofs.Prelude.{Can, HasGrant, Run, ap, err_from_is_err_and, has_finished, link_of, subst, sym, ◌∙◌}
use Rattle.core_inline.proofs.Kept.{again_made, answered_inside, answered_made, begins_call, failed_inside, failed_made}
use Rattle.core_inline.proofs.runs.InlineRun.call.Goals as goal

pub returns-in-Some-clause-made : goal.returns-in-Some-clause-made
returns-in-Some-clause-made c =
    again_made c.args.self.now c.self.inside c.self.view_is c.args.call c.in-Some.met c.requires.can.running
    (sym c.trouble.ensures ∙ c.in-Some.is)

pub exchange-requires : goal.exchange-requires
exchange-requires c =
    let whole = sym c.trouble.ensures ∙ c.in_default.is in
    let running = ap (λ (r : Run). has_finished r.transcript) c.self.view_is ∙ c.requires.can.running in
    record {
      ready = c.self.invariant.ready whole running;
      can =
          begins_call c.self.inside c.args.call c.self.invariant whole
          (subst (λ (r : Run). Can (link_of r) c.args.call) (sym c.self.view_is) c.requires.can)
          (subst (λ (r : Run). HasGrant r.transcript c.args.call) (sym c.self.view_is) c.requires.granted);
    }

-- the call failed
pub invariant_of-self-in_err-answer : goal.invariant_of-self-in_err-answer
invariant_of-self-in_err-answer c =
    let whole = sym c.trouble.ensures ∙ c.in_default.is in
    let e = c.in_err-answer.ensures in
    failed_inside _ _ c.self.view_is c.self.invariant whole c.requires.can.running _ c.exchange.ensures.config _ _
    c.finishes-called.ensures _ e.failed e.trouble

pub returns-in_err-answer-clause-made : goal.returns-in_err-answer-clause-made
returns-in_err-answer-clause-made c =
    let whole = sym c.trouble.ensures ∙ c.in_default.is in
    let e = c.in_err-answer.ensures in
    let p = err_from_is_err_and c.from_residual.result c.from_residual.ensures.1 in
    rw (p.1, p.2)
    (failed_made _ _ c.self.view_is c.self.invariant whole c.requires.can.running _ c.exchange.ensures.config _ _
    c.finishes-called.ensures _ e.failed e.trouble)

pub returns-in_err-answer-clause-holds : goal.returns-in_err-answer-clause-holds
returns-in_err-answer-clause-holds c = (invariant_of-self-in_err-answer c).inline

-- it was answered
pub invariant_of-self-2 : goal.invariant_of-self-2
invariant_of-self-2 c =
    let whole = sym c.trouble.ensures ∙ c.in_default.is in
    answered_inside _ _ c.self.view_is c.self.invariant whole c.requires.can.running _ c.exchange.ensures.config _ _
    c.finishes-called.ensures _ c.in_ok-answer.ensures.answered

pub returns-clause-made : goal.returns-clause-made
returns-clause-made c =
    let whole = sym c.trouble.ensures ∙ c.in_default.is in
    answered_made _ _ c.self.view_is c.self.invariant whole c.requires.can.running _ c.exchange.ensures.config _ _
    c.finishes-called.ensures _ c.in_ok-answer.ensures.answered

pub returns-clause-holds : goal.returns-clause-holds
returns-clause-holds c = (invariant_of-self-2 c).inline
