use Rattle.server_core.proofs.Prelude.{state_of, withdraws_goes}
use Rattle.server_core.proofs.states.ServerState.hear_cancel.Goals as goal

pub withdraw-requires : goal.withdraw-requires
withdraw-requires c = rw (← c.self.view_is) at c.requires.awaited

pub returns-clause-made : goal.returns-clause-made
returns-clause-made c =
    rw (← c.self.view_is)
    (withdraws_goes (state_of c.self.inside) c.args.out.now c.args.from c.args.id c.withdraw.ensures c.answer.ensures.counted
    c.answer.ensures.told)
