use Rattle.work_queue.proofs.naming.Names.reserve.Goals as goal

pub returns-clause-names : goal.returns-clause-names
returns-clause-names c = λ q. c.reserve.ensures.entries.2 (q.rank.0, q.number)
