-- What follows of a run over a flow: its outcomes bring values of the flow, and all its work is done.
use Rattle.std.proofs.Common.{◌≡◌, ◌<◌, ℕ, List, Result, Ok, Err, IfOk, Some, arith}
use Rattle.run_command.specs.Reports.{Reported}
use Rattle.adlb_unit.specs.declared.names.Rank.{Rank}
use Rattle.run_command.specs.Kept.{HasRun, IsWorkedUp}
use Rattle.flow_law.specs.declared.Definition.{Definition}
use Rattle.flow_app.specs.Finishing.{AreValues}
use Rattle.flow_app.specs.declared.finishing.FlowOutcome.{FlowOutcome}
use Rattle.flow_command.specs.Flows.{ArePrograms, FollowsFlow}
use Rattle.values_law.specs.Joined.{IsFlowsRun, IsRankRun}
use Rattle.values_law.proofs.Joining.{all_freed, all_spent, values_right}

-- what holds holds at `Ok`
pub on_ok_always : {X E : Type 0} (P : Type 0) → P → (r : Result X E) → IfOk r (λ x. P)
on_ok_always P is (Ok x) = is
on_ok_always P is (Err e) = tt

module _ (flow : List Definition) (r : Reported FlowOutcome) (run : HasRun ArePrograms FollowsFlow flow r) where
  rank_run : (rank : Rank) → rank.0 < r.config.ranks → IsRankRun r.config r.ledger flow r.outcomes rank
  rank_run rank below =
      let e = run.each rank below in
      let p = run.are.each rank e.program e.program_is in
      record {
        program = e.program;
        said = e.said;
        outcome = e.outcome;
        ranks_are = p.ranks_are;
        flow_is = p.flow_is;
        calls_are = e.calls_are;
        follows = e.followed;
        there = e.outcome_is;
      }

  -- the run is one over this flow
  pub flows_run : IsFlowsRun r.config r.ledger flow r.outcomes
  flows_run = record { each = rank_run; all = run.outcomes }

  -- the run has a rank
  pub some_ranks : 0 < r.config.ranks
  some_ranks = omega (arith, r.config.ranks_within.0)

  -- all work of the run is done
  pub run_worked_up : IsWorkedUp r
  run_worked_up = λ last legal. (
    all_spent r.config r.ledger flow r.outcomes flows_run some_ranks last legal,
    all_freed r.config r.ledger flow r.outcomes flows_run some_ranks last legal,
  )

  -- the outcomes bring values of the flow
  pub run_values : AreValues flow r.outcomes
  run_values = values_right r.config r.ledger flow r.outcomes flows_run some_ranks run.last run.legal
