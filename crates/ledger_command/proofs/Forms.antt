-- What is written of an input that was read from a source, and why nothing is.
use Rattle.std.proofs.Common.{◌≡◌, ℕ, ◌+◌, ◌<◌, ◌≤◌, Bool, true, false, List, [], length, take, drop, ltb, Option, Some, None}
use Rattle.std.proofs.Common.{Result, Ok, Err, refl, sym, ap, ◌∙◌, subst, arith}
use Rattle.std.specs.Prelude.{IfErr}
use Rattle.adlb_io.proofs.Inputs.{read_end, read_whole}
use Rattle.adlb_io.specs.Whole.{Reads}
use Rattle.ledger_file.specs.Lines.{IsFirstBad, IsText}
use Rattle.ledger_file.specs.declared.faults.LedgerFault.{LedgerFault}
use Rattle.ledger_file.specs.declared.faults.LedgerFault.TheVariants as refusals
use Rattle.ledger_command.specs.declared.faults.CheckFault.{CheckFault}
use Rattle.ledger_command.specs.declared.faults.CheckFault.TheVariants.{Entry, Memory, Read, TooLarge, Write}
use Rattle.adlb_unit.specs.declared.configs.Config.{Config}
use Rattle.bag_ledger.specs.declared.entries.Entry as of
use Rattle.ledger_command.specs.Faults.{fault_in}
use Rattle.ledger_command.specs.Input.{IsTextOn, input_limit}
use Rattle.ledger_command.specs.inside.{Refuses, RefusesText}

module _ (before after : Option (List ℕ)) (read : List ℕ) (reads : Reads before after (input_limit + 1) read) where
  whole : (all : List ℕ) → length read ≤ input_limit → before ≡ Some all → read ≡ all
  whole all short told = read_whole input_limit before after read reads all short told

  -- a text that the bytes are is that of the input
  pub read_told : length read ≤ input_limit → (config : Config) (ledger : List of.Entry) → IsText config ledger read
      → IsTextOn before config ledger
  read_told short config ledger is = λ all told. let same_bytes = whole all short told in
      (omega (arith, short, ap length same_bytes), subst (λ l. IsText config ledger l) same_bytes is)

  -- why nothing is written of the bytes is why nothing is of the input
  pub read_refuses : length read ≤ input_limit → (faults now : ℕ) → now ≡ faults → (fault : CheckFault) → RefusesText read fault
      → Refuses before after faults now fault
  read_refuses short faults now same (Entry line) is = (
    λ all told. let same_bytes = whole all short told in
        (omega (arith, short, ap length same_bytes), subst (λ l. IsFirstBad l line) same_bytes is),
    read_end input_limit before after read reads short,
    same,
  )
  read_refuses short faults now same Memory is = same
  read_refuses short faults now same (TooLarge taken) is = absurd is
  read_refuses short faults now same Read is = absurd is
  read_refuses short faults now same Write is = absurd is

-- why the text was not read is why nothing is written of it
pub text_refused : {X : Type 0} (bytes : List ℕ) (r : Result X LedgerFault) (met : LedgerFault)
    → ((line : ℕ) → r ≡ Err (refusals.Refused line) → IsFirstBad bytes line) → r ≡ Err met → RefusesText bytes (fault_in met)
text_refused bytes r (refusals.Refused line) refused is = refused line is
text_refused bytes r refusals.Memory refused is = tt

-- what is said of a fault, where less is
pub fault_weaker : {X : Type 0} (P Q : CheckFault → Type 0) (r : Result X CheckFault) → ((fault : CheckFault) → P fault → Q fault)
    → IfErr r P → IfErr r Q
fault_weaker P Q (Ok x) weaker is = is
fault_weaker P Q (Err fault) weaker is = weaker fault is
