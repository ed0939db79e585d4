-- A run of tour programs.
use Rattle.std.specs.Prelude.{◌≡◌, ◌==◌, ◌<◌, List, [], ◌∷◌, ◌++◌, length, Option, Some, None, if◌then◌else◌, slice_get}
use Rattle.adlb_unit.specs.declared.configs.Config.{Config}
use Rattle.adlb_unit.specs.declared.names.Rank.{Rank}
use Rattle.bag_ledger.specs.declared.entries.Entry.{Entry}
use Rattle.bag_ledger.specs.declared.entries.Said.{Said}
use Rattle.bag_ledger.specs.Runs.{calls}
use Rattle.balance_law.specs.Orderly.{finish}
use Rattle.tour_law.specs.Tours.{IsLeast}
use Rattle.tour_app.specs.Follows.{Follows}
use Rattle.tour_app.specs.Starts.{IsStart, StartModel, costs}
use Rattle.tour_app.specs.declared.outcomes.TourOutcome.{TourOutcome}
use Rattle.tour_app.specs.declared.program.TourProgram.{TourProgram}

-- rank 0 has the cities and a tour, and no other rank has any
abbrev pub start_at : StartModel → Rank → Option StartModel
start_at s rank = if rank.0 == 0 then Some s else None

-- from 1 to 12 cities and a tour through them, a least one if they are fewer than four
pub record StartsWell (s : StartModel) : Type 0 where
  pub is : IsStart s
  pub least : s.cities.count < 4 → IsLeast s.cities.count (costs s) s.first

-- the rank ran its program, and then finished: its calls in the ledger are those of the program, which follow its relation at the
-- outcome, and Finish
pub record IsRankRun (config : Config) (ledger : List Entry) (s : StartModel) (outcomes : List TourOutcome) (rank : Rank) : Type 0 where
  pub program : TourProgram
  pub said : List Said
  pub outcome : TourOutcome
  pub start_is : program.start ≡ start_at s rank
  pub calls_are : calls config ledger rank ≡ said ++ finish ∷ []
  pub follows : Follows program said outcome
  pub there : slice_get outcomes rank.0 ≡ Some outcome

-- each rank of the run did, and these are their outcomes
pub record IsTourRun (config : Config) (ledger : List Entry) (s : StartModel) (outcomes : List TourOutcome) : Type 0 where
  pub each : (rank : Rank) → rank.0 < config.ranks → IsRankRun config ledger s outcomes rank
  pub all : length outcomes ≡ config.ranks
