-- The ends of a run over a flow for which an allocation failed before anything was done.
use Rattle.std.proofs.Common.{◌≡◌, ◌≤◌, ◌^◌, ℕ, Some, None}
use Rattle.adlb_unit.specs.declared.configs.Config.{Config}
use Rattle.run_command.specs.Ends.{Scene, StartsNone}
use Rattle.run_command.specs.Kept.{IsKept}
use Rattle.run_command.specs.declared.faults.Fault.TheVariants.{Memory}
use Rattle.run_command.proofs.Ending.{ends_early}
use Rattle.flow_law.specs.Flows.{flow_text}
use Rattle.flow_bound_law.specs.Most.{most_calls}
use Rattle.flow_command.specs.Ends.{FindsValues}
use Rattle.flow_command.specs.Flows.{ArePrograms, FollowsFlow, HasFlow, RefusesLine}

-- nothing was written, and no thread was started
pub flowed_early : (ranks : ℕ) (IsOf : Config → Type 0) (before after : Scene) → after.taken ≡ before.taken → StartsNone before after →
    FindsValues ranks IsOf before after (Some Memory) None
flowed_early ranks IsOf before after same none = record {
  ends =
      ends_early HasFlow RefusesLine (IsKept ArePrograms FollowsFlow) (λ flow k told. told ≡ flow_text flow)
      (λ flow. 2 ^ 34 ≤ most_calls ranks flow) before after Memory tt same;
  run = record { numbers = tt; threaded = λ e. tt; untouched = λ e. none };
}
