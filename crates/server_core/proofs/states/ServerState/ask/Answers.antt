use Rattle.server_core.proofs.Prelude.{◌∙◌, Waiting, state_of, sym, wants_nothing}
use Rattle.server_core.proofs.states.ServerState.ask.Goals as goal

pub unreachable-requires : goal.unreachable-requires
unreachable-requires c =
    wants_nothing (λ (e : Waiting). e.wish.types) (state_of c.self.inside) c.args.rank (sym c.in_default.is ∙ c.types_of.ensures)
    (rw (← c.self.view_is) at c.requires.waits)
