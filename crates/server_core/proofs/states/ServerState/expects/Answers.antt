use Rattle.server_core.proofs.Prelude.{expected_have_steps}
use Rattle.server_core.proofs.states.ServerState.expects.Goals as goal

pub returns-clause-served : goal.returns-clause-served
returns-clause-served c =
    let rule = expected_have_steps c.args.self.now c.args.from c.args.letter.now in
    (λ yes. rule.1 (c.is_expected.ensures.0 yes), λ some. c.is_expected.ensures.1 (rule.0 some))
