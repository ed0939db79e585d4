use Rattle.server_core.proofs.Prelude.{promises_goes, queue_inside, refl, refuses_goes, same_pins, state_of}
use Rattle.server_core.proofs.states.ServerState.hear_query.Goals as goal

pub invariant_of-self : goal.invariant_of-self
invariant_of-self c = queue_inside c.self.invariant c.in_err-push_query.ensures.memory same_pins

pub invariant_of-self-then-branch : goal.invariant_of-self-then-branch
invariant_of-self-then-branch c =
    queue_inside c.self.invariant (rw c.if-branch.true at c.in_ok-push_query.ensures.promise).1 (record { arrivals = refl; common = refl })

pub invariant_of-self-else-branch : goal.invariant_of-self-else-branch
invariant_of-self-else-branch c =
    queue_inside c.self.invariant (rw c.if-branch.false at c.in_ok-push_query.ensures.promise).1 same_pins

pub returns-then-branch-clause-ok : goal.returns-then-branch-clause-ok
returns-then-branch-clause-ok c =
    rw (← c.self.view_is)
    (promises_goes (state_of c.self.inside) c.args.out.now c.args.from c.args.id c.args.length c.push_query.new.queue _ _
    c.answer.ensures.counted (rw c.if-branch.true at c.in_ok-push_query.ensures.promise) c.answer.ensures.told)

pub returns-else-branch-clause-ok : goal.returns-else-branch-clause-ok
returns-else-branch-clause-ok c =
    rw (← c.self.view_is)
    (refuses_goes (state_of c.self.inside) c.args.out.now c.args.from c.args.id c.args.length c.push_query.new.queue _ _
    c.say.ensures.counted (rw c.if-branch.false at c.in_ok-push_query.ensures.promise) c.say.ensures.told)
