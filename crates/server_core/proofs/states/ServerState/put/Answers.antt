use Rattle.server_core.proofs.Prelude.{◌∙◌, ap, going_on, presses, puts_goes}
use Rattle.server_core.proofs.states.ServerState.put.Goals as goal

pub returns-clause-ok : goal.returns-clause-ok
returns-clause-ok c =
    let u = c.settle.new.self in
    puts_goes c.args.self.now c.answer_put.new.self u c.press.new.self c.args.out.now c.answer_put.new.out c.settle.new.out c.press.new.out
    c.args.from c.args.unit c.in_ok-taken.ensures.ok c.settle.ensures.made
    (c.press.ensures.made ∙ ap (λ b. going_on c.settle.new.out (presses b u) u) c.in_ok-taken.ensures.taken)
