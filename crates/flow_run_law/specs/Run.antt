-- A run of flow programs.
use Rattle.std.specs.Prelude.{◌≡◌, ◌==◌, true, List, [], ◌∷◌, ◌++◌, Option, Some, None, if◌then◌else◌}
use Rattle.adlb_unit.specs.declared.configs.Config.{Config}
use Rattle.adlb_unit.specs.declared.names.Rank.{Rank}
use Rattle.bag_ledger.specs.declared.entries.Entry.{Entry}
use Rattle.bag_ledger.specs.declared.entries.Said.{Said}
use Rattle.bag_ledger.specs.Runs.{calls}
use Rattle.balance_law.specs.Orderly.{finish}
use Rattle.flow_law.specs.declared.Definition.{Definition}
use Rattle.flow_run_law.specs.Units.{Forms}
use Rattle.flow_run_law.specs.Desk.{Desk, Goes, at_start}

-- rank 0 has the flow, and no other rank has any
abbrev pub flow_of : List Definition → Rank → Option (List Definition)
flow_of flow rank = if rank.0 == 0 then Some flow else None

-- the rank ran the flow program until it was told an end, and then finished
pub record IsFlowRank (F : Forms) (config : Config) (ledger : List Entry) (flow : List Definition) (rank : Rank) : Type 0 where
  pub said : List Said
  pub last : Desk
  pub calls_are : calls config ledger rank ≡ said ++ finish ∷ []
  pub goes : Goes F (flow_of flow rank) at_start said last
  pub over : last.ended ≡ true
