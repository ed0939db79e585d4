use Rattle.std.proofs.Common.{Some, ℕ, subst}
use Rattle.flow_units.specs.Bodies.{forms}
use Rattle.flow_work.specs.Follows.{Follows}
use Rattle.flow_work.specs.Working.{IsOnWay}
use Rattle.flow_work.proofs.Stocks.{empty_so, home_follows}
use Rattle.flow_work.proofs.Ways.{whole_way}
use Rattle.flow_work.proofs.program.FlowProgram.run_home.Goals as goal

pub returns-in_default-clause-so_far : goal.returns-in_default-clause-so_far
returns-in_default-clause-so_far g c =
    whole_way (forms c.args.self.now.ranks) (Some c.args.flow.now) _ _ _ c.requires.ready.whole (empty_so (forms c.args.self.now.ranks)
    (Some c.args.flow.now) _ c.requires.empty)

pub returns-in_err-work_home-clause-so_far : goal.returns-in_err-work_home-clause-so_far
returns-in_err-work_home-clause-so_far g c =
    subst (λ (n : ℕ). IsOnWay (forms n) (Some c.args.flow.now) (g.R.Rank.link c.work_home.new.link)) c.worker.ensures
    c.in_err-work_home.ensures.so_far

pub returns-in_default-outcome-clause-so_far : goal.returns-in_default-outcome-clause-so_far
returns-in_default-outcome-clause-so_far g c =
    subst (λ (n : ℕ). IsOnWay (forms n) (Some c.args.flow.now) (g.R.Rank.link c.work_home.new.link)) c.worker.ensures
    c.in_ok-work_home.ensures.so_far

pub returns-clause-follows : goal.returns-clause-follows
returns-clause-follows g c =
    subst (λ (n : ℕ). Follows (forms n) (Some c.args.flow.now) (g.R.Rank.link c.work_home.new.link).said
    c.in-Ok-outcome.outcome.values.items)
    c.worker.ensures
    (home_follows (forms c.worker.result.ranks) c.args.flow.now _ c.work_home.new.home c.in-Ok-outcome.outcome.values.items
    c.in_ok-work_home.ensures.stopped
    c.in-Ok-outcome.ensures)

pub returns-clause-so_far : goal.returns-clause-so_far
returns-clause-so_far g c =
    subst (λ (n : ℕ). IsOnWay (forms n) (Some c.args.flow.now) (g.R.Rank.link c.work_home.new.link)) c.worker.ensures
    c.in_ok-work_home.ensures.so_far
