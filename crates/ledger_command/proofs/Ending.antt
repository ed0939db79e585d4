-- What follows from how a check ended.
use Rattle.std.proofs.Common.{◌≡◌, ◌⊎◌, inl, inr, ℕ, ◌+◌, ◌<◌, ◌≤◌, List, length, Some, Result, Ok, Err, refl, ap, subst, arith}
use Rattle.std.specs.Prelude.{MatchResult}
use Rattle.adlb_io.specs.Outside.{Rises}
use Rattle.adlb_unit.specs.declared.configs.Config.{Config}
use Rattle.bag_ledger.specs.declared.entries.Entry as of
use Rattle.ledger_file.specs.Lines.{IsFirstBad, IsText}
use Rattle.ledger_command.specs.declared.faults.CheckFault.{CheckFault}
use Rattle.ledger_command.specs.declared.faults.CheckFault.TheVariants.{Entry, Memory, Read, TooLarge, Write}
use Rattle.ledger_command.specs.declared.verdicts.Verdict.{Verdict}
use Rattle.adlb_io.specs.Inputs.{Seen}
use Rattle.ledger_command.specs.Ends.{ChecksTo}
use Rattle.ledger_command.specs.Input.{IsVerdictOn, input_limit}
use Rattle.ledger_command.specs.Verdicts.{IsVerdict}

-- no text of a ledger has a first bad line
abbrev pub RefusesNone : Type 0
RefusesNone =
    (config : Config) (ledger : List of.Entry) (bytes : List ℕ) (line : ℕ) → IsFirstBad bytes line → IsText config ledger bytes → ⊥

-- a text of a ledger is not refused
pub no_text : RefusesNone → (before after : Seen) (result : Result Verdict CheckFault) → ChecksTo before after result → (line : ℕ)
    → result ≡ Err (Entry line) → (bytes : List ℕ) → before.left ≡ Some bytes → (config : Config) (ledger : List of.Entry)
    → IsText config ledger bytes → ⊥
no_text none before after result ends line is bytes told config ledger text =
    let refused : ChecksTo before after (Err (Entry line)) = subst (λ r. ChecksTo before after r) is ends in
    none config ledger bytes line (refused.0 bytes told).1 text

module _ (before after : Seen) (bytes : List ℕ) (told : before.left ≡ Some bytes) (no_read : Rises before.reads after.reads → ⊥) where
  -- the verdict is of the ledger whose text the input is
  same_told : ((c d : Config) (l m : List of.Entry) → IsText c l bytes → IsText d m bytes → (c ≡ d) × (l ≡ m)) → (config : Config)
      (ledger : List of.Entry) → IsText config ledger bytes → (verdict : Verdict) → IsVerdictOn before.left verdict
      → IsVerdict config ledger verdict
  same_told two config ledger text verdict on =
      let same = two on.config config on.ledger ledger (on.text bytes told).1 text in
      subst (λ l. IsVerdict config l verdict) same.1 (subst (λ c. IsVerdict c on.ledger verdict) same.0 on.told)

  -- a text of a ledger is told
  pub text_told : RefusesNone → ((c d : Config) (l m : List of.Entry) → IsText c l bytes → IsText d m bytes → (c ≡ d) × (l ≡ m))
      → (config : Config) (ledger : List of.Entry) → length bytes ≤ input_limit → IsText config ledger bytes
      → (Rises before.writes after.writes → ⊥) → (result : Result Verdict CheckFault) → ChecksTo before after result
      → MatchResult result (IsVerdict config ledger) (λ fault. fault ≡ Memory)
  text_told none two config ledger short text no_write (Ok verdict) ends = same_told two config ledger text verdict ends.0
  text_told none two config ledger short text no_write (Err (Entry line)) ends =
      absurd (none config ledger bytes line (ends.0 bytes told).1 text)
  text_told none two config ledger short text no_write (Err (TooLarge taken)) ends = absurd (omega (arith, ends.1 bytes told, short))
  text_told none two config ledger short text no_write (Err Read) ends = absurd (no_read ends.0)
  text_told none two config ledger short text no_write (Err Write) ends = absurd (no_write ends.0)
  text_told none two config ledger short text no_write (Err Memory) ends = refl

  -- a text of none is refused at its first bad line
  pub refused_there : RefusesNone → ((a b : ℕ) → IsFirstBad bytes a → IsFirstBad bytes b → a ≡ b) → (line : ℕ)
      → length bytes ≤ input_limit → IsFirstBad bytes line → (result : Result Verdict CheckFault) → ChecksTo before after result
      → (result ≡ Err (Entry line)) ⊎ (result ≡ Err Memory)
  refused_there none one line short bad (Ok verdict) ends =
      absurd (none ends.0.config ends.0.ledger bytes line bad (ends.0.text bytes told).1)
  refused_there none one line short bad (Err (Entry at)) ends = inl (ap (λ n. Err (Entry n)) (one at line (ends.0 bytes told).1 bad))
  refused_there none one line short bad (Err (TooLarge taken)) ends = absurd (omega (arith, ends.1 bytes told, short))
  refused_there none one line short bad (Err Read) ends = absurd (no_read ends.0)
  refused_there none one line short bad (Err Write) ends =
      let on = ends.2.told in absurd (none on.config on.ledger bytes line bad (on.text bytes told).1)
  refused_there none one line short bad (Err Memory) ends = inr refl

  -- an input that is too long is told as such
  pub overlong_told : input_limit < length bytes → (result : Result Verdict CheckFault) → ChecksTo before after result
      → (result ≡ Err (TooLarge (input_limit + 1))) ⊎ (result ≡ Err Memory)
  overlong_told long (Ok verdict) ends = absurd (omega (arith, long, (ends.0.text bytes told).0))
  overlong_told long (Err (Entry line)) ends = absurd (omega (arith, long, (ends.0 bytes told).0))
  overlong_told long (Err (TooLarge taken)) ends = inl (ap (λ n. Err (TooLarge n)) ends.0)
  overlong_told long (Err Read) ends = absurd (no_read ends.0)
  overlong_told long (Err Write) ends = absurd (omega (arith, long, (ends.2.told.text bytes told).0))
  overlong_told long (Err Memory) ends = inr refl
