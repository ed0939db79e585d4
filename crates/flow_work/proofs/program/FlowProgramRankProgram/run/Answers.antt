use Rattle.std.proofs.Common.{IfOk, List, Option, subst, sym}
use Rattle.rank_client.specs.Calls.{unanswered}
use Rattle.flow_law.specs.declared.Definition.{Definition}
use Rattle.flow_app.specs.declared.finishing.FlowOutcome.{FlowOutcome}
use Rattle.flow_units.specs.Bodies.{forms}
use Rattle.flow_work.specs.Follows.{Follows, IsUnderWay}
use Rattle.flow_work.proofs.Ways.{way_open}
use Rattle.flow_work.proofs.program.FlowProgramRankProgram.run.Goals as goal

pub returns-in-Some-clause-follows : goal.returns-in-Some-clause-follows
returns-in-Some-clause-follows g c =
    subst (λ (o : Option (List Definition)). IfOk c.run_home.result
    (λ (outcome : FlowOutcome). Follows (forms c.args.self.now.ranks) o (g.A.Adlb.link c.run_home.new.link).said outcome.values.items))
    (sym c.in-Some.is)
    c.run_home.ensures.follows

pub returns-in-Some-clause-so_far : goal.returns-in-Some-clause-so_far
returns-in-Some-clause-so_far g c =
    subst (λ (o : Option (List Definition)). IsUnderWay (forms c.args.self.now.ranks) o (g.A.Adlb.link c.run_home.new.link).said
    (unanswered (g.A.Adlb.link c.run_home.new.link).failed (g.A.Adlb.link c.run_home.new.link).begun)) (sym c.in-Some.is)
    c.run_home.ensures.so_far

pub returns-in-Some-clause-open : goal.returns-in-Some-clause-open
returns-in-Some-clause-open g c =
    way_open (forms c.args.self.now.ranks) _ _ _ c.run_home.ensures.so_far

pub returns-in-None-clause-follows : goal.returns-in-None-clause-follows
returns-in-None-clause-follows g c =
    subst (λ (o : Option (List Definition)). IfOk c.run_away.result
    (λ (outcome : FlowOutcome). Follows (forms c.args.self.now.ranks) o (g.A.Adlb.link c.run_away.new.link).said outcome.values.items))
    (sym c.in-None.is)
    c.run_away.ensures.follows

pub returns-in-None-clause-so_far : goal.returns-in-None-clause-so_far
returns-in-None-clause-so_far g c =
    subst (λ (o : Option (List Definition)). IsUnderWay (forms c.args.self.now.ranks) o (g.A.Adlb.link c.run_away.new.link).said
    (unanswered (g.A.Adlb.link c.run_away.new.link).failed (g.A.Adlb.link c.run_away.new.link).begun)) (sym c.in-None.is)
    c.run_away.ensures.so_far

pub returns-in-None-clause-open : goal.returns-in-None-clause-open
returns-in-None-clause-open g c =
    way_open (forms c.args.self.now.ranks) _ _ _ c.run_away.ensures.so_far
