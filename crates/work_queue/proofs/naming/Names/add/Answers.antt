use Rattle.work_queue.proofs.naming.Names.add.Goals as goal

pub returns-clause-names : goal.returns-clause-names
returns-clause-names c = λ q. c.in-Ok.ensures.updates.0 (q.rank.0, q.number)
