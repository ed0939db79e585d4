use Rattle.std.proofs.Common.{sym, subst}
use Rattle.std.specs.Prelude.{IsSome}
use Rattle.rank_client.specs.Rules.{answer_call}
use Rattle.rank_client.specs.State.{ClientModel}
use Rattle.rank_client.specs.Step.{ticked}
use Rattle.rank_client.proofs.Awaited.{heard_is}
use Rattle.rank_client.proofs.clients.ClientCore.hear.Goals as goal

pub take_in-requires-clause-expected : goal.take_in-requires-clause-expected
take_in-requires-clause-expected c =
    let s = c.args.self.now in
    let given = c.in-Ok.ensures in
    let from = c.args.from in
    let message = c.args.letter.message in
    let heard = heard_is s c.args.from c.args.letter given.untold c.requires.expected in
    let stamped = subst (λ n. IsSome (answer_call (ticked s n) s.pending from message)) (sym given.stamp) heard.awaited in
    subst (λ (t : ClientModel). IsSome (answer_call (ticked t c.in-Ok.stamp) t.pending from message)) (sym c.self.view_is) stamped
