use Rattle.rank_client.specs.Calls.{is_finish}
use Rattle.rank_client.proofs.Calling.{begun_by, on_err}
use Rattle.rank_client.proofs.clients.ClientCore.carry_out.Goals as goal

pub returns-in-Some-clause-finish : goal.returns-in-Some-clause-finish
returns-in-Some-clause-finish c =
    on_err c.open.result
    (begun_by c.in_ok-opening.field-0 c.in-Some.opening (is_finish c.args.call) c.in_ok-opening.ensures.finish c.in-Some.is)
