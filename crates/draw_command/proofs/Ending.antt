-- What follows from how a drawing ended.
use Rattle.std.proofs.Common.{◌≡◌, ◌⊎◌, inl, inr, ℕ, ◌+◌, ◌<◌, ◌≤◌, List, length, Some, Result, Ok, Err, refl, ap, subst, arith}
use Rattle.std.specs.Prelude.{MatchResult}
use Rattle.adlb_io.specs.Inputs.{Seen}
use Rattle.adlb_io.specs.Outside.{Rises}
use Rattle.adlb_unit.specs.declared.configs.Config.{Config}
use Rattle.bag_ledger.specs.declared.entries.Entry as of
use Rattle.ledger_file.specs.Lines.{IsFirstBad, IsText}
use Rattle.ledger_command.proofs.Ending.{RefusesNone}
use Rattle.ledger_command.specs.declared.faults.CheckFault.{CheckFault}
use Rattle.ledger_command.specs.declared.faults.CheckFault.TheVariants.{Entry, Memory, Read, TooLarge, Write}
use Rattle.ledger_command.specs.Input.{input_limit}
use Rattle.ledger_picture.specs.declared.numbers.Numbers.{Numbers}
use Rattle.ledger_picture.specs.Numbers.{IsNumbersOf}
use Rattle.draw_command.specs.Ends.{DrawsTo, IsPictureOn}

-- a text of a ledger is not refused
pub no_text : RefusesNone → (before after : Seen) (result : Result Numbers CheckFault) → DrawsTo before after result → (line : ℕ)
    → result ≡ Err (Entry line) → (bytes : List ℕ) → before.left ≡ Some bytes → (config : Config) (ledger : List of.Entry)
    → IsText config ledger bytes → ⊥
no_text none before after result ends line is bytes told config ledger text =
    let refused : DrawsTo before after (Err (Entry line)) = subst (λ r. DrawsTo before after r) is ends in
    none config ledger bytes line (refused.0 bytes told).1 text

module _ (before after : Seen) (bytes : List ℕ) (told : before.left ≡ Some bytes) (no_read : Rises before.reads after.reads → ⊥) where
  -- the numbers are of the ledger whose text the input is
  same_numbers : ((c d : Config) (l m : List of.Entry) → IsText c l bytes → IsText d m bytes → (c ≡ d) × (l ≡ m)) → (config : Config)
      (ledger : List of.Entry) → IsText config ledger bytes → (numbers : Numbers) (picture : List ℕ)
      → IsPictureOn before.left numbers picture → IsNumbersOf config ledger numbers
  same_numbers two config ledger text numbers picture on =
      let same = two on.config config on.ledger ledger (on.text_is bytes told).1 text in
      subst (λ l. IsNumbersOf config l numbers) same.1 (subst (λ c. IsNumbersOf c on.ledger numbers) same.0 on.numbers_are)

  -- a text of a ledger is drawn
  pub text_drawn : RefusesNone → ((c d : Config) (l m : List of.Entry) → IsText c l bytes → IsText d m bytes → (c ≡ d) × (l ≡ m))
      → (config : Config) (ledger : List of.Entry) → length bytes ≤ input_limit → IsText config ledger bytes
      → (Rises before.writes after.writes → ⊥) → (result : Result Numbers CheckFault) → DrawsTo before after result
      → MatchResult result (IsNumbersOf config ledger) (λ fault. fault ≡ Memory)
  text_drawn none two config ledger short text no_write (Ok numbers) ends =
      same_numbers two config ledger text numbers ends.0.text ends.0.picture
  text_drawn none two config ledger short text no_write (Err (Entry line)) ends =
      absurd (none config ledger bytes line (ends.0 bytes told).1 text)
  text_drawn none two config ledger short text no_write (Err (TooLarge taken)) ends = absurd (omega (arith, ends.1 bytes told, short))
  text_drawn none two config ledger short text no_write (Err Read) ends = absurd (no_read ends.0)
  text_drawn none two config ledger short text no_write (Err Write) ends = absurd (no_write ends.0)
  text_drawn none two config ledger short text no_write (Err Memory) ends = refl

  -- a text of none is refused at its first bad line
  pub refused_there : RefusesNone → ((a b : ℕ) → IsFirstBad bytes a → IsFirstBad bytes b → a ≡ b) → (line : ℕ)
      → length bytes ≤ input_limit → IsFirstBad bytes line → (result : Result Numbers CheckFault) → DrawsTo before after result
      → (result ≡ Err (Entry line)) ⊎ (result ≡ Err Memory)
  refused_there none one line short bad (Ok numbers) ends =
      let on = ends.0.picture in absurd (none on.config on.ledger bytes line bad (on.text_is bytes told).1)
  refused_there none one line short bad (Err (Entry at)) ends = inl (ap (λ n. Err (Entry n)) (one at line (ends.0 bytes told).1 bad))
  refused_there none one line short bad (Err (TooLarge taken)) ends = absurd (omega (arith, ends.1 bytes told, short))
  refused_there none one line short bad (Err Read) ends = absurd (no_read ends.0)
  refused_there none one line short bad (Err Write) ends =
      let on = ends.2.picture in absurd (none on.config on.ledger bytes line bad (on.text_is bytes told).1)
  refused_there none one line short bad (Err Memory) ends = inr refl

  -- an input that is too long is told as such
  pub overlong_told : input_limit < length bytes → (result : Result Numbers CheckFault) → DrawsTo before after result
      → (result ≡ Err (TooLarge (input_limit + 1))) ⊎ (result ≡ Err Memory)
  overlong_told long (Ok numbers) ends = absurd (omega (arith, long, (ends.0.picture.text_is bytes told).0))
  overlong_told long (Err (Entry line)) ends = absurd (omega (arith, long, (ends.0 bytes told).0))
  overlong_told long (Err (TooLarge taken)) ends = inl (ap (λ n. Err (TooLarge n)) ends.0)
  overlong_told long (Err Read) ends = absurd (no_read ends.0)
  overlong_told long (Err Write) ends = absurd (omega (arith, long, (ends.2.picture.text_is bytes told).0))
  overlong_told long (Err Memory) ends = inr refl
