use Rattle.std.proofs.Common.{refl}
use Rattle.server_components.proofs.Charged.{changed_charged}
use Rattle.server_components.proofs.Small.{either_way_of_two}
use Rattle.server_components.specs.Store.{fetched}
use Rattle.actor_tests.proofs.parts.fetch.Goals as goal

pub returns : goal.returns
returns c =
    let e = c.fetch.ensures in
    either_way_of_two c.fetch.result e.parts e.queue e.err e.uncharged
    (λ parts queue. rw (parts, queue) (changed_charged fetched (λ p. refl) c.args.store.now c.args.batch c.args.queue.now c.requires))
    (λ parts queue. rw (parts, queue) c.requires)
