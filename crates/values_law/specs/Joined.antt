-- A run of flow programs.
use Rattle.std.specs.Prelude.{◌≡◌, ◌<◌, List, [], ◌∷◌, ◌++◌, length, Some, slice_get}
use Rattle.adlb_unit.specs.declared.configs.Config.{Config}
use Rattle.adlb_unit.specs.declared.names.Rank.{Rank}
use Rattle.bag_ledger.specs.declared.entries.Entry.{Entry}
use Rattle.bag_ledger.specs.declared.entries.Said.{Said}
use Rattle.bag_ledger.specs.Runs.{calls}
use Rattle.balance_law.specs.Orderly.{finish}
use Rattle.flow_law.specs.declared.Definition.{Definition}
use Rattle.flow_app.specs.declared.finishing.FlowOutcome.{FlowOutcome}
use Rattle.flow_run_law.specs.Run.{flow_of}
use Rattle.flow_units.specs.Bodies.{forms}
use Rattle.flow_work.specs.Follows.{Follows}
use Rattle.flow_work.specs.declared.program.FlowProgram.{FlowProgram}

-- the rank ran its program, and then finished: its calls in the ledger are those of the program, which follow its relation at the
-- outcome, and Finish
pub record IsRankRun (config : Config) (ledger : List Entry) (flow : List Definition) (outcomes : List FlowOutcome) (rank : Rank)
    : Type 0 where
  pub program : FlowProgram
  pub said : List Said
  pub outcome : FlowOutcome
  pub ranks_are : program.ranks ≡ config.ranks
  pub flow_is : program.flow ≡ flow_of flow rank
  pub calls_are : calls config ledger rank ≡ said ++ finish ∷ []
  pub follows : Follows (forms program.ranks) program.flow said outcome.values.items
  pub there : slice_get outcomes rank.0 ≡ Some outcome

-- each rank of the run did, and these are their outcomes
pub record IsFlowsRun (config : Config) (ledger : List Entry) (flow : List Definition) (outcomes : List FlowOutcome) : Type 0 where
  pub each : (rank : Rank) → rank.0 < config.ranks → IsRankRun config ledger flow outcomes rank
  pub all : length outcomes ≡ config.ranks
