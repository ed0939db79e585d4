-- What is kept of a run over the flow of an input.
use Rattle.std.proofs.Common.{◌≡◌, ℕ, List, Option, Some, None, refl, subst}
use Rattle.std.specs.Prelude.{option_map}
use Rattle.flow_app.specs.Reading.{input_flow}
use Rattle.flow_app.specs.declared.faults.FlowWhy.{FlowWhy}
use Rattle.flow_app.specs.declared.finishing.FlowOutcome.{FlowOutcome}
use Rattle.flow_command.specs.Ends.{EndsWith}
use Rattle.flow_command.specs.Flows.{ArePrograms, FollowsFlow, HasFlow, RefusesLine}
use Rattle.flow_law.specs.Flows.{flow_text}
use Rattle.run_command.specs.Ends.{Keeps, Scene}
use Rattle.run_command.specs.Kept.{IsKept, Kept}
use Rattle.run_command.specs.declared.faults.Fault.{Fault}
use Rattle.run_command.specs.declared.faults.Fault.TheVariants.{Input, Read, Write, NoThread, Memory, TooLong, TooLarge}
use Rattle.command_ends.specs.declared.ends.AnyKept.{AnyKept}
use Rattle.command_ends.specs.declared.ends.AnyKept.TheVariants.{Flows}

module _ (ranks : ℕ) (before after : Scene) (k : Kept FlowOutcome) (bytes : List ℕ) (told : before.left ≡ Some bytes) where
  kept_asked : (IsWritten : List ℕ → Type 0) →
      Keeps HasFlow RefusesLine (IsKept ArePrograms FollowsFlow) (λ flow k told. told ≡ flow_text flow) before.left IsWritten (Some k) →
      IsKept ArePrograms FollowsFlow (input_flow bytes) k
  kept_asked IsWritten keeps =
      subst (λ flow. IsKept ArePrograms FollowsFlow flow k) (keeps.1.read bytes told).asked_is.1 keeps.1.kept

  nothing_kept : {P : Type 0} → Some k ≡ None → P
  nothing_kept e = absurd (cc)

  kept_ended : (fault : Option (Fault FlowWhy)) → EndsWith ranks before after fault (Some k) →
      IsKept ArePrograms FollowsFlow (input_flow bytes) k
  kept_ended None ends = kept_asked _ ends.1
  kept_ended (Some (Input line why)) ends = nothing_kept ends.3.none_kept
  kept_ended (Some Read) ends = nothing_kept ends.1.none_kept
  kept_ended (Some Write) ends = kept_asked _ ends.1
  kept_ended (Some NoThread) ends = nothing_kept ends.2.none_kept
  kept_ended (Some Memory) ends = kept_asked _ (ends.front refl)
  kept_ended (Some (TooLong stamp)) ends = nothing_kept ends.2.none_kept
  kept_ended (Some (TooLarge taken)) ends = nothing_kept ends.4.none_kept

  -- what is kept is of a run over the flow of the bytes
  pub kept_flow : (fault : Option (Fault FlowWhy)) (own : Option (Kept FlowOutcome)) → Some (Flows k) ≡ option_map Flows own →
      EndsWith ranks before after fault own → IsKept ArePrograms FollowsFlow (input_flow bytes) k
  kept_flow fault None same ends = absurd (cc)
  kept_flow fault (Some own) same ends =
      let is : own ≡ k = cc in
      kept_ended fault (subst (λ (o : Kept FlowOutcome). EndsWith ranks before after fault (Some o)) is ends)
