use Rattle.work_queue.proofs.Walks.{best_walk, fit_walk, no_best, no_fit, no_push, push_walk}
use Rattle.work_queue.proofs.laws.queue_laws.Goals as goal

pub returns-clause-best : goal.returns-clause-best
returns-clause-best c = best_walk

pub returns-clause-no_best : goal.returns-clause-no_best
returns-clause-no_best c = no_best

pub returns-clause-push : goal.returns-clause-push
returns-clause-push c = push_walk

pub returns-clause-no_push : goal.returns-clause-no_push
returns-clause-no_push c = no_push

pub returns-clause-fit : goal.returns-clause-fit
returns-clause-fit c = fit_walk

pub returns-clause-no_fit : goal.returns-clause-no_fit
returns-clause-no_fit c = no_fit
