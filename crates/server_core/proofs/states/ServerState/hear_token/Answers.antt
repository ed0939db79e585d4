use Rattle.server_core.proofs.Prelude.{◌∙◌, again_goes, ap, back_goes, comes_again, comes_back, comes_first, comes_last, first_goes}
use Rattle.server_core.proofs.Prelude.{last_goes, number, sym}
use Rattle.server_core.proofs.states.ServerState.hear_token.Goals as goal

pub test-requires-clause-again : goal.test-requires-clause-again
test-requires-clause-again c =
    comes_back c.args.self.now c.args.token (ap number (sym c.self.view_is) ∙ c.if-self-eq0.true) c.if-token-eq1.true c.requires.awaited.1.1

pub judge-requires-clause-last : goal.judge-requires-clause-last
judge-requires-clause-last c =
    comes_last c.args.self.now c.args.token (ap number (sym c.self.view_is) ∙ c.if-self-eq0.true) c.if-token-eq1.false
    c.requires.awaited.1.1

pub mark-requires-clause-first : goal.mark-requires-clause-first
mark-requires-clause-first c =
    comes_first c.args.self.now c.args.token (λ same. c.if-self-eq0.false (ap number c.self.view_is ∙ same)) c.if-token-eq1-2.true
    c.requires.awaited.1.1

pub test-requires-else-token-eq1-2-clause-again : goal.test-requires-else-token-eq1-2-clause-again
test-requires-else-token-eq1-2-clause-again c =
    comes_again c.args.self.now c.args.token (λ same. c.if-self-eq0.false (ap number c.self.view_is ∙ same)) c.if-token-eq1-2.false
    c.requires.awaited.1.1

pub returns-then-token-eq1-clause-made : goal.returns-then-token-eq1-clause-made
returns-then-token-eq1-clause-made c from =
    back_goes c.args.self.now c.args.out.now from c.args.token _ (ap number (sym c.self.view_is) ∙ c.if-self-eq0.true)
    c.if-token-eq1.true (c.test.ensures.made from)

pub returns-else-token-eq1-clause-made : goal.returns-else-token-eq1-clause-made
returns-else-token-eq1-clause-made c from =
    last_goes c.args.self.now c.args.out.now from c.args.token _ (ap number (sym c.self.view_is) ∙ c.if-self-eq0.true)
    c.if-token-eq1.false (c.judge.ensures.made from)

pub returns-then-token-eq1-2-clause-made : goal.returns-then-token-eq1-2-clause-made
returns-then-token-eq1-2-clause-made c from =
    first_goes c.args.self.now c.args.out.now from c.args.token _ (λ same. c.if-self-eq0.false (ap number c.self.view_is ∙ same))
    c.if-token-eq1-2.true (c.mark.ensures.made from)

pub returns-else-token-eq1-2-clause-made : goal.returns-else-token-eq1-2-clause-made
returns-else-token-eq1-2-clause-made c from =
    again_goes c.args.self.now c.args.out.now from c.args.token _ (λ same. c.if-self-eq0.false (ap number c.self.view_is ∙ same))
    c.if-token-eq1-2.false (c.test-else-token-eq1-2.ensures.made from)
