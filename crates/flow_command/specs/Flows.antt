-- What a run over a flow asks, and by which programs it is run.
use Rattle.std.specs.Prelude.{◌≡◌, ◌≤◌, ◌^◌, ℕ, List, Some, None, length, slice_get}
use Rattle.adlb_unit.specs.declared.names.Rank.{Rank}
use Rattle.bag_ledger.specs.declared.entries.Said.{Said}
use Rattle.flow_law.specs.declared.Definition.{Definition}
use Rattle.flow_app.specs.Reading.{flow_refused, input_flow}
use Rattle.flow_app.specs.declared.faults.FlowWhy.{FlowWhy}
use Rattle.flow_app.specs.declared.finishing.FlowOutcome.{FlowOutcome}
use Rattle.flow_run_law.specs.Run.{flow_of}
use Rattle.flow_units.specs.Bodies.{forms}
use Rattle.flow_work.specs.Follows.{Follows}
use Rattle.flow_work.specs.declared.program.FlowProgram.{FlowProgram}

-- no line of the bytes is refused, and this is their flow
abbrev pub HasFlow : List ℕ → List Definition → Type 0
HasFlow bytes flow = (flow_refused bytes ≡ None) × (flow ≡ input_flow bytes)

-- as well, and they are at most 2^24
pub record IsInput (bytes : List ℕ) (flow : List Definition) : Type 0 where
  pub few : length bytes ≤ 2 ^ 24
  pub has : HasFlow bytes flow

-- this is their first line that is refused, and why
abbrev pub RefusesLine : List ℕ → ℕ → FlowWhy → Type 0
RefusesLine bytes line why = flow_refused bytes ≡ Some (line, why)

-- the program of a rank in a run of this many
pub record IsProgram (ranks : ℕ) (flow : List Definition) (rank : Rank) (p : FlowProgram) : Type 0 where
  pub ranks_are : p.ranks ≡ ranks
  pub flow_is : p.flow ≡ flow_of flow rank

-- the programs of the ranks: the first has the flow
pub record ArePrograms (ranks : ℕ) (flow : List Definition) (programs : List FlowProgram) : Type 0 where
  pub each : (rank : Rank) (p : FlowProgram) → slice_get programs rank.0 ≡ Some p → IsProgram ranks flow rank p

-- what a rank said follows its program at this outcome
abbrev pub FollowsFlow : FlowProgram → Rank → List Said → FlowOutcome → Type 0
FollowsFlow program rank said outcome = Follows (forms program.ranks) program.flow said outcome.values.items
