use Rattle.std.proofs.Common.{ap, ◌∙◌, Some}
use Rattle.actor_tests.proofs.queue.come.Goals as goal

pub arrive-requires-clause-promised : goal.arrive-requires-clause-promised
arrive-requires-clause-promised c = (c.in-Some.ensures _).0 (ap (λ n. Some n) (c.if-length-len.true ∙ c.len.ensures))
