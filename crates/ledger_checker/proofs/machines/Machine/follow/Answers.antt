use Rattle.ledger_checker.proofs.machines.Machine.follow.Goals as goal

pub returns-in-Freed : goal.returns-in-Freed
returns-in-Freed c = rw c.in-Freed.is c.change_part.ensures
