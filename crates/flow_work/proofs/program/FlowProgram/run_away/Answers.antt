use Rattle.std.proofs.Common.{None, ℕ, subst}
use Rattle.flow_units.specs.Bodies.{forms}
use Rattle.flow_work.specs.Follows.{Follows}
use Rattle.flow_work.specs.Working.{Fresh, IsOnWay}
use Rattle.flow_work.proofs.Stocks.{away_follows, starts_away, went}
use Rattle.flow_work.proofs.program.FlowProgram.run_away.Goals as goal

pub work_away-requires-clause-going : goal.work_away-requires-clause-going
work_away-requires-clause-going g c =
    went (forms c.worker.result.ranks) None _ (Fresh c.new-kept.result.items) c.requires.empty
    (starts_away (forms c.worker.result.ranks) c.new-kept.result.items c.new-kept.ensures.items)

pub returns-in_err-work_away-clause-so_far : goal.returns-in_err-work_away-clause-so_far
returns-in_err-work_away-clause-so_far g c =
    subst (λ (n : ℕ). IsOnWay (forms n) None (g.R.Rank.link c.work_away.new.link)) c.worker.ensures c.in_err-work_away.ensures.so_far

pub returns-in_default-clause-so_far : goal.returns-in_default-clause-so_far
returns-in_default-clause-so_far g c =
    subst (λ (n : ℕ). IsOnWay (forms n) None (g.R.Rank.link c.work_away.new.link)) c.worker.ensures c.in_ok-work_away.ensures.so_far

pub returns-clause-follows : goal.returns-clause-follows
returns-clause-follows g c =
    subst (λ (n : ℕ). Follows (forms n) None (g.R.Rank.link c.work_away.new.link).said c.in-Ok.values.items) c.worker.ensures
    (away_follows (forms c.worker.result.ranks) _ c.work_away.new.kept.items c.in-Ok.values.items c.in_ok-work_away.ensures.stopped
    c.in-Ok.ensures)

pub returns-clause-so_far : goal.returns-clause-so_far
returns-clause-so_far g c =
    subst (λ (n : ℕ). IsOnWay (forms n) None (g.R.Rank.link c.work_away.new.link)) c.worker.ensures c.in_ok-work_away.ensures.so_far
