use Rattle.std.proofs.Common.{sym, ◌∙◌}
use Rattle.thread_actors.proofs.Ending.{ended_is}
use Rattle.thread_actors.proofs.serving.Serving.serve_all.Goals as goal

pub returns-then-ended-clause-ended : goal.returns-then-ended-clause-ended
returns-then-ended-clause-ended g c = sym (ended_is c.loop.self.state c.ended.result c.ended.ensures) ∙ c.if-ended.true

pub take-requires-clause-going : goal.take-requires-clause-going
take-requires-clause-going g c = sym (ended_is c.loop.self.state c.ended.result c.ended.ensures) ∙ c.if-ended.false
