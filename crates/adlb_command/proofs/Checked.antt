-- How `check` ends.
use Rattle.std.proofs.Common.{◌≡◌, ◌⊎◌, ◌<◌, ◌≤◌, ◌+◌, ℕ, List, length, Option, Some, None, Result, Ok, Err, refl, ap, ◌∙◌, inl, inr}
use Rattle.std.specs.Prelude.{MatchResult}
use Rattle.adlb_io.specs.Outside.{Rises}
use Rattle.adlb_unit.specs.declared.configs.Config.{Config}
use Rattle.bag_ledger.specs.declared.entries.Entry as of
use Rattle.run_command.specs.Ends.{Scene}
use Rattle.ledger_command.specs.Input.{input_limit}
use Rattle.ledger_command.specs.Verdicts.{IsVerdict}
use Rattle.ledger_command.specs.declared.faults.CheckFault.{CheckFault}
use Rattle.ledger_command.specs.declared.faults.CheckFault.TheVariants as checks
use Rattle.ledger_command.proofs.Ending.{RefusesNone, overlong_told, refused_there, text_told}
use Rattle.ledger_file.specs.Lines.{IsFirstBad, IsText}
use Rattle.command_ends.specs.Ends.{fault_at_check, fault_told}
use Rattle.adlb_command.specs.Top.{EndsAsChecked, seen_in}
use Rattle.command_ends.specs.declared.ends.AnyKept.{AnyKept}
use Rattle.command_ends.specs.declared.faults.RunFault.{RunFault}
use Rattle.command_ends.specs.declared.faults.RunFault.TheVariants.{Input, Memory, TooLarge}
use Rattle.command_ends.specs.declared.reasons.LineWhy.TheVariants.{Entry}

-- what was told without a fault is told, or memory failed
pub fine_or : {X : Type 0} (P : X → Type 0) (told : Result X CheckFault) →
    MatchResult told P (λ fault. fault ≡ checks.Memory) → (fault_told told ≡ None) ⊎ (fault_told told ≡ Some Memory)
fine_or P (Ok x) is = inl refl
fine_or P (Err fault) is = inr (ap (λ f. Some (fault_at_check f)) is)

-- one of two faults is one of the two that they are told as
pub either_told : {X : Type 0} (told : Result X CheckFault) (fault : CheckFault) → (told ≡ Err fault) ⊎ (told ≡ Err checks.Memory) →
    (fault_told told ≡ Some (fault_at_check fault)) ⊎ (fault_told told ≡ Some Memory)
either_told {X} told fault (inl e) = inl (ap (λ (r : Result X CheckFault). fault_told r) e)
either_told {X} told fault (inr e) = inr (ap (λ (r : Result X CheckFault). fault_told r) e)

-- what is equal to one of two is one of them
pub either_is : (fault told : Option RunFault) (a b : Option RunFault) → fault ≡ told → (told ≡ a) ⊎ (told ≡ b) → (fault ≡ a) ⊎ (fault ≡ b)
either_is fault told a b same (inl e) = inl (same ∙ e)
either_is fault told a b same (inr e) = inr (same ∙ e)

module _ (before after : Scene) (fault : Option RunFault) (kept : Option AnyKept) (bytes : List ℕ)
    (ends : EndsAsChecked before after fault kept) (told : before.left ≡ Some bytes) (no_read : Rises before.reads after.reads → ⊥) where
  -- a text of a ledger is told
  pub text_checked : RefusesNone → ((c d : Config) (l m : List of.Entry) → IsText c l bytes → IsText d m bytes → (c ≡ d) × (l ≡ m)) →
      (config : Config) (ledger : List of.Entry) → length bytes ≤ input_limit → IsText config ledger bytes →
      (Rises before.writes after.writes → ⊥) → (fault ≡ None) ⊎ (fault ≡ Some Memory)
  text_checked none two config ledger short text no_write =
      either_is fault (fault_told ends.checked) None (Some Memory) ends.fault_is (fine_or (IsVerdict config ledger) ends.checked
      (text_told (seen_in before) (seen_in after) bytes told no_read none two config ledger short text no_write ends.checked ends.ends))

  -- a text of none is refused
  pub bad_checked : RefusesNone → ((a b : ℕ) → IsFirstBad bytes a → IsFirstBad bytes b → a ≡ b) → (line : ℕ) →
      length bytes ≤ input_limit → IsFirstBad bytes line → (fault ≡ Some (Input line Entry)) ⊎ (fault ≡ Some Memory)
  bad_checked none one line short bad =
      either_is fault (fault_told ends.checked) (Some (Input line Entry)) (Some Memory) ends.fault_is
      (either_told ends.checked (checks.Entry line)
      (refused_there (seen_in before) (seen_in after) bytes told no_read none one line short bad ends.checked ends.ends))

  -- one that is too long is told as such
  pub long_checked : input_limit < length bytes → (fault ≡ Some (TooLarge (input_limit + 1))) ⊎ (fault ≡ Some Memory)
  long_checked long =
      either_is fault (fault_told ends.checked) (Some (TooLarge (input_limit + 1))) (Some Memory) ends.fault_is (either_told ends.checked
      (checks.TooLarge (input_limit + 1)) (overlong_told (seen_in before) (seen_in after) bytes told no_read long ends.checked ends.ends))
