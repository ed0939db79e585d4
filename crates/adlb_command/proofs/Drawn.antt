-- How `draw` ends.
use Rattle.std.proofs.Common.{◌≡◌, ◌⊎◌, ◌<◌, ◌≤◌, ◌+◌, ℕ, List, length, Option, Some, None}
use Rattle.adlb_io.specs.Outside.{Rises}
use Rattle.adlb_unit.specs.declared.configs.Config.{Config}
use Rattle.bag_ledger.specs.declared.entries.Entry as of
use Rattle.run_command.specs.Ends.{Scene}
use Rattle.draw_command.proofs.Ending.{overlong_told, refused_there, text_drawn as picture_told}
use Rattle.ledger_command.proofs.Ending.{RefusesNone}
use Rattle.ledger_command.specs.Input.{input_limit}
use Rattle.ledger_command.specs.declared.faults.CheckFault.TheVariants as checks
use Rattle.ledger_file.specs.Lines.{IsFirstBad, IsText}
use Rattle.ledger_picture.specs.Numbers.{IsNumbersOf}
use Rattle.adlb_command.proofs.Checked.{either_is, either_told, fine_or}
use Rattle.command_ends.specs.Ends.{fault_told}
use Rattle.adlb_command.specs.Top.{EndsAsDrawn, seen_in}
use Rattle.command_ends.specs.declared.ends.AnyKept.{AnyKept}
use Rattle.command_ends.specs.declared.faults.RunFault.{RunFault}
use Rattle.command_ends.specs.declared.faults.RunFault.TheVariants.{Input, Memory, TooLarge}
use Rattle.command_ends.specs.declared.reasons.LineWhy.TheVariants.{Entry}

module _ (before after : Scene) (fault : Option RunFault) (kept : Option AnyKept) (bytes : List ℕ)
    (ends : EndsAsDrawn before after fault kept) (told : before.left ≡ Some bytes) (no_read : Rises before.reads after.reads → ⊥) where
  -- a text of a ledger is drawn
  pub text_drawn : RefusesNone → ((c d : Config) (l m : List of.Entry) → IsText c l bytes → IsText d m bytes → (c ≡ d) × (l ≡ m)) →
      (config : Config) (ledger : List of.Entry) → length bytes ≤ input_limit → IsText config ledger bytes →
      (Rises before.writes after.writes → ⊥) → (fault ≡ None) ⊎ (fault ≡ Some Memory)
  text_drawn none two config ledger short text no_write =
      either_is fault (fault_told ends.drawn) None (Some Memory) ends.fault_is (fine_or (IsNumbersOf config ledger) ends.drawn
      (picture_told (seen_in before) (seen_in after) bytes told no_read none two config ledger short text no_write ends.drawn ends.ends))

  -- a text of none is refused
  pub bad_drawn : RefusesNone → ((a b : ℕ) → IsFirstBad bytes a → IsFirstBad bytes b → a ≡ b) → (line : ℕ) →
      length bytes ≤ input_limit → IsFirstBad bytes line → (fault ≡ Some (Input line Entry)) ⊎ (fault ≡ Some Memory)
  bad_drawn none one line short bad =
      either_is fault (fault_told ends.drawn) (Some (Input line Entry)) (Some Memory) ends.fault_is
      (either_told ends.drawn (checks.Entry line)
      (refused_there (seen_in before) (seen_in after) bytes told no_read none one line short bad ends.drawn ends.ends))

  -- one that is too long is told as such
  pub long_drawn : input_limit < length bytes → (fault ≡ Some (TooLarge (input_limit + 1))) ⊎ (fault ≡ Some Memory)
  long_drawn long =
      either_is fault (fault_told ends.drawn) (Some (TooLarge (input_limit + 1))) (Some Memory) ends.fault_is (either_told ends.drawn
      (checks.TooLarge (input_limit + 1)) (overlong_told (seen_in before) (seen_in after) bytes told no_read long ends.drawn ends.ends))
