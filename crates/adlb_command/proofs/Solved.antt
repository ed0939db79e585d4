-- What follows from how a run of ranks ended.
use Rattle.std.proofs.Common.{◌≡◌, ◌⊎◌, ◌∙◌, ap, inl, inr, sym, subst, Option, Some, None}
use Rattle.std.specs.Prelude.{option_map}
use Rattle.run_command.specs.Ends.{IsFine as IsFineRun}
use Rattle.run_command.specs.declared.faults.Fault.{Fault}
use Rattle.run_command.specs.declared.faults.Fault.TheVariants as runs
use Rattle.command_ends.specs.Ends.{IsFine, fault_run}
use Rattle.command_ends.specs.declared.reasons.LineWhy.{LineWhy}
use Rattle.command_ends.specs.declared.faults.RunFault.{RunFault}

fine_ended : {W : Type 0} (means : W → LineWhy) (met : Option (Fault W)) → IsFineRun met → IsFine (option_map (fault_run means) met)
fine_ended means None is = tt
fine_ended means (Some (runs.Input line why)) is = absurd is
fine_ended means (Some runs.Read) is = absurd is
fine_ended means (Some runs.Write) is = absurd is
fine_ended means (Some runs.NoThread) is = absurd is
fine_ended means (Some runs.Memory) is = tt
fine_ended means (Some (runs.TooLong stamp)) is = tt
fine_ended means (Some (runs.TooLarge taken)) is = absurd is

ended_fine : {W : Type 0} (means : W → LineWhy) (met : Option (Fault W)) → IsFine (option_map (fault_run means) met) → IsFineRun met
ended_fine means None is = tt
ended_fine means (Some (runs.Input line why)) is = absurd is
ended_fine means (Some runs.Read) is = absurd is
ended_fine means (Some runs.Write) is = absurd is
ended_fine means (Some runs.NoThread) is = absurd is
ended_fine means (Some runs.Memory) is = tt
ended_fine means (Some (runs.TooLong stamp)) is = tt
ended_fine means (Some (runs.TooLarge taken)) is = absurd is

module _ {W : Type 0} (means : W → LineWhy) (fault : Option RunFault) (met : Option (Fault W))
    (same : fault ≡ option_map (fault_run means) met) where
  -- a run that ended well is a command that ended well
  pub fine_told : IsFineRun met → IsFine fault
  fine_told is = subst IsFine (sym same) (fine_ended means met is)

  -- a command that ended well is a run that did
  pub fine_met : IsFine fault → IsFineRun met
  fine_met is = ended_fine means met (subst IsFine same is)

  -- a fault of the run that is one of two is one of two for the command
  pub either_told : (a b : Option (Fault W)) → (met ≡ a) ⊎ (met ≡ b) →
      (fault ≡ option_map (fault_run means) a) ⊎ (fault ≡ option_map (fault_run means) b)
  either_told a b (inl is) = inl (same ∙ ap (λ m. option_map (fault_run means) m) is)
  either_told a b (inr is) = inr (same ∙ ap (λ m. option_map (fault_run means) m) is)
