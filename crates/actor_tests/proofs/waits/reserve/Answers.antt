use Rattle.std.proofs.Common.{sym, ◌∙◌}
use Rattle.server_components.proofs.Conditions.{not_parked}
use Rattle.actor_tests.proofs.waits.reserve.Goals as goal

pub reserve-requires-clause-new : goal.reserve-requires-clause-new
reserve-requires-clause-new c = not_parked c.args.parked.now c.args.rank (sym c.awaits.ensures ∙ c.in-None.is)
