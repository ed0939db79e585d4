use Rattle.work_law.proofs.Together.{together, workers_orderly}
use Rattle.work_law.proofs.work_laws.Goals as goal

pub returns-clause-orderly : goal.returns-clause-orderly
returns-clause-orderly g c = workers_orderly

pub returns-clause-together : goal.returns-clause-together
returns-clause-together g c = λ W is config ledger last some legal first came each.
    together W is config ledger last
    (c.balance_laws.ensures.balanced config ledger last some legal (workers_orderly W is config ledger some first came each))
    first came each
