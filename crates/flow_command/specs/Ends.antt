-- How `flow` ends.
use Rattle.std.specs.Prelude.{◌≡◌, ◌≤◌, ◌^◌, ℕ, false, List, Option}
use Rattle.adlb_unit.specs.declared.configs.Config.{Config}
use Rattle.run_command.specs.Ends.{EndsBy, Scene}
use Rattle.run_command.specs.Kept.{IsKept, IsRunWith, Kept}
use Rattle.run_command.specs.declared.faults.Fault.{Fault}
use Rattle.flow_law.specs.Flows.{flow_text}
use Rattle.flow_bound_law.specs.Most.{most_calls}
use Rattle.flow_app.specs.declared.faults.FlowWhy.{FlowWhy}
use Rattle.flow_app.specs.declared.finishing.FlowOutcome.{FlowOutcome}
use Rattle.flow_command.specs.Flows.{ArePrograms, FollowsFlow, HasFlow, RefusesLine}

-- The ends of a run over a flow, of this number of ranks, of which the values of its names are told. Its stamps run out only if all ranks
-- together may begin 2^34 calls over the flow.
abbrev pub EndsWith : ℕ → Scene → Scene → Option (Fault FlowWhy) → Option (Kept FlowOutcome) → Type 0
EndsWith ranks before after fault kept =
    EndsBy HasFlow RefusesLine (IsKept ArePrograms FollowsFlow) (λ flow k told. told ≡ flow_text flow)
    (λ flow. 2 ^ 34 ≤ most_calls ranks flow) before after fault kept

-- the ends of `flow`: it runs in threads, and what is kept has such numbers
pub record FindsValues (ranks : ℕ) (IsOf : Config → Type 0) (before after : Scene) (fault : Option (Fault FlowWhy))
    (kept : Option (Kept FlowOutcome)) : Type 0 where
  pub ends : EndsWith ranks before after fault kept
  pub run : IsRunWith IsOf false before after kept
