-- What follows from how a run over a flow ended, where no read failed.
use Rattle.std.proofs.Common.{◌≡◌, ◌⊎◌, ◌<◌, ◌≤◌, ◌+◌, ◌^◌, ℕ, List, length, Option, Some, None, sym, ap, ◌∙◌, arith}
use Rattle.adlb_io.specs.Outside.{Rises}
use Rattle.run_command.specs.Ends.{IsFine, Scene, input_limit}
use Rattle.run_command.specs.Kept.{IsKept, Kept}
use Rattle.run_command.specs.declared.faults.Fault.{Fault}
use Rattle.run_command.specs.declared.faults.Fault.TheVariants.{Input, Memory, TooLarge}
use Rattle.run_command.proofs.Laws as ends
use Rattle.flow_law.specs.Flows.{flow_text}
use Rattle.flow_bound_law.specs.Most.{most_calls}
use Rattle.flow_law.specs.declared.Definition.{Definition}
use Rattle.flow_app.specs.Reading.{flow_refused, input_flow}
use Rattle.flow_app.specs.declared.faults.FlowWhy.{FlowWhy}
use Rattle.flow_app.specs.declared.finishing.FlowOutcome.{FlowOutcome}
use Rattle.flow_command.specs.Ends.{EndsWith}
use Rattle.flow_command.specs.Flows.{ArePrograms, FollowsFlow, HasFlow, RefusesLine}

-- what was read is not refused
not_both : {E : Type 0} (o : Option E) (e : E) → o ≡ None → o ≡ Some e → ⊥
not_both None e none some = absurd (cc)
not_both (Some x) e none some = absurd (cc)

-- the fault of a refused line
abbrev fault_with : Option (ℕ × FlowWhy) → Option (Fault FlowWhy)
fault_with None = None
fault_with (Some e) = Some (Input e.0 e.1)

-- all ranks together may begin 2^34 calls over the flow
abbrev IsLong : ℕ → List Definition → Type 0
IsLong ranks flow = 2 ^ 34 ≤ most_calls ranks flow

-- if they may not, the stamps do not run out
pub short_fine : (ranks : ℕ) (before after : Scene) (fault : Option (Fault FlowWhy)) (kept : Option (Kept FlowOutcome)) (bytes : List ℕ) →
    EndsWith ranks before after fault kept → before.left ≡ Some bytes → most_calls ranks (input_flow bytes) < 2 ^ 34 → IsFine fault →
    (fault ≡ None) ⊎ (fault ≡ Some Memory)
short_fine ranks before after fault kept bytes ended told few fine =
    ends.short_fine HasFlow RefusesLine (IsKept ArePrograms FollowsFlow) (λ flow k told. told ≡ flow_text flow) (IsLong ranks) before after
    kept bytes told (λ flow has long. omega (arith, long, ap (most_calls ranks) has.1, few)) fault ended fine

module _ (ranks : ℕ) (before after : Scene) (fault : Option (Fault FlowWhy)) (kept : Option (Kept FlowOutcome)) (bytes : List ℕ)
    (ended : EndsWith ranks before after fault kept) (told : before.left ≡ Some bytes) (no_read : Rises before.reads after.reads → ⊥)
  where
    -- an accepted input is answered
    pub accepted_fine : length bytes ≤ input_limit → flow_refused bytes ≡ None → (Rises before.writes after.writes → ⊥) →
        (Rises before.refused after.refused → ⊥) → IsFine fault
    accepted_fine short is no_write no_refusal =
        ends.asked_fine HasFlow RefusesLine (IsKept ArePrograms FollowsFlow) (λ flow k told. told ≡ flow_text flow)
        (IsLong ranks) before after kept bytes told no_read (λ line why at. not_both (flow_refused bytes) (line, why) is at) short
        no_write no_refusal
        fault ended

    -- a refused one is refused at its line
    pub refused_at_line : (line : ℕ) (why : FlowWhy) → length bytes ≤ input_limit → flow_refused bytes ≡ Some (line, why) →
        (fault ≡ Some (Input line why)) ⊎ (fault ≡ Some Memory)
    refused_at_line line why short is =
        ends.refused_there HasFlow RefusesLine (IsKept ArePrograms FollowsFlow) (λ flow k told. told ≡ flow_text flow)
        (IsLong ranks) before after kept bytes told no_read (λ flow has. not_both (flow_refused bytes) (line, why) has.0 is) short line why
        (λ l w at. ap fault_with (sym at ∙ is)) fault ended

    -- one that is too long is told as such
    pub overlong_told : input_limit < length bytes → (fault ≡ Some (TooLarge (input_limit + 1))) ⊎ (fault ≡ Some Memory)
    overlong_told long =
        ends.overlong_told HasFlow RefusesLine (IsKept ArePrograms FollowsFlow) (λ flow k told. told ≡ flow_text flow)
        (IsLong ranks) before after kept bytes told no_read long fault ended
