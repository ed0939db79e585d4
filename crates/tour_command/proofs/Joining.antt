-- What follows of a run over cities: its outcomes hold a least tour, and all its work is done.
use Rattle.std.proofs.Common.{◌≡◌, ◌<◌, ℕ, List, Result, Ok, Err, IfOk, subst, arith}
use Rattle.run_command.specs.Reports.{Reported}
use Rattle.adlb_unit.specs.declared.names.Rank.{Rank}
use Rattle.balance_law.proofs.Whole.{balanced}
use Rattle.least_law.proofs.Joining.{joined_freed, joined_least, joined_spent}
use Rattle.least_law.specs.Joined.{IsRankRun, IsTourRun}
use Rattle.run_command.specs.Kept.{HasRun, IsWorkedUp}
use Rattle.tour_app.specs.Found.{HoldLeast, all_found}
use Rattle.tour_app.specs.Output.{tour_text}
use Rattle.tour_app.specs.Starts.{StartModel}
use Rattle.tour_app.specs.declared.outcomes.TourOutcome.{TourOutcome}
use Rattle.tour_command.specs.Tours.{ArePrograms, FollowsTours, TellsLeast}
use Rattle.tour_law.specs.Tours.{IsLeast, cost}
use Rattle.tour_search.specs.Cities.{CitiesModel, costs}

-- what holds holds at `Ok`
pub on_ok_always : {X E : Type 0} (P : Type 0) → P → (r : Result X E) → IfOk r (λ x. P)
on_ok_always P is (Ok x) = is
on_ok_always P is (Err e) = tt

-- a text that names a least tour
pub told_least : {X E : Type 0} (cities : CitiesModel) (bytes : X → List ℕ) (r : Result X E) →
    IfOk r (λ x. (tour : List ℕ) × IsLeast cities.count (costs cities) tour
    × (bytes x ≡ tour_text cities.count (cost (costs cities) tour) tour)) →
    IfOk r (λ x. TellsLeast cities (bytes x))
told_least cities bytes (Ok x) is = record { tour = is.0; least = is.1; text = is.2 }
told_least cities bytes (Err e) is = tt

module _ (cities : CitiesModel) (r : Reported TourOutcome) (run : HasRun (λ ranks. ArePrograms) FollowsTours cities r) where
  abbrev begun : StartModel
  begun = run.are.start

  rank_run : (rank : Rank) → rank.0 < r.config.ranks → IsRankRun r.config r.ledger begun r.outcomes rank
  rank_run rank below =
      let e = run.each rank below in
      record {
        program = e.program;
        said = e.said;
        outcome = e.outcome;
        start_is = run.are.each rank e.program e.program_is;
        calls_are = e.calls_are;
        follows = e.followed;
        there = e.outcome_is;
      }

  tour_run : IsTourRun r.config r.ledger begun r.outcomes
  tour_run = record { each = rank_run; all = run.outcomes }

  some_ranks : 0 < r.config.ranks
  some_ranks = omega (arith, r.config.ranks_within.0)

  -- all work of the run is done
  pub run_worked_up : IsWorkedUp r
  run_worked_up = λ last legal. (
    joined_spent balanced r.config r.ledger last begun r.outcomes some_ranks legal tour_run,
    joined_freed balanced r.config r.ledger last begun r.outcomes some_ranks legal tour_run,
  )

  -- the outcomes hold a least tour
  pub run_least : HoldLeast cities.count (costs cities) (all_found r.outcomes)
  run_least =
      subst (λ (x : CitiesModel). HoldLeast x.count (costs x) (all_found r.outcomes)) run.are.cities_are
      (joined_least balanced r.config r.ledger run.last begun r.outcomes some_ranks run.legal run.are.well tour_run)
