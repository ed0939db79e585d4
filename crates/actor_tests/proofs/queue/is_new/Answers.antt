use Rattle.std.proofs.Common.{ap, ◌∙◌, is_some, not, sym}
use Rattle.std.proofs.lemmas.Bool.{true≢false}
use Rattle.work_queue.proofs.Conditions.{no_promise}
use Rattle.actor_tests.proofs.queue.is_new.Goals as goal

pub returns-then-not-has_unit-clause-promise : goal.returns-then-not-has_unit-clause-promise
returns-then-not-has_unit-clause-promise c none =
    no_promise c.args.queue.now.promises c.args.id
    (λ n has. true≢false (sym (ap is_some ((c.promised.ensures n).1 has)) ∙ c.is_none.ensures ∙ ap not none))
