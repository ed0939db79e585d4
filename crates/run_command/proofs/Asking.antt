-- What an input that was read from a source asks, and why it asks nothing.
use Rattle.std.proofs.Common.{◌≡◌, ℕ, ◌+◌, ◌≤◌, List, length, Option, Some, ap, subst, arith}
use Rattle.adlb_io.proofs.Inputs.{read_end, read_whole}
use Rattle.adlb_io.specs.Whole.{Reads}
use Rattle.run_command.specs.Ends.{Asks, input_limit}
use Rattle.run_command.specs.inside.{IsRefusal, Stops}
use Rattle.run_command.specs.declared.faults.Fault.{Fault}
use Rattle.run_command.specs.declared.faults.Fault.TheVariants.{Input, Read, Write, NoThread, Memory, TooLong, TooLarge}

module _ (before after : Option (List ℕ)) (read : List ℕ) (reads : Reads before after (input_limit + 1) read)
    (short : length read ≤ input_limit)
  where
    -- what the bytes ask is what the input asks
    pub read_asks : {A : Type 0} (asks : List ℕ → A → Type 0) (asked : A) → asks read asked → (all : List ℕ) → before ≡ Some all →
        Asks asks all asked
    read_asks asks asked is all told =
        let same : read ≡ all = read_whole input_limit before after read reads all short told in
        record { short = omega (arith, short, ap length same); asked_is = subst (λ l. asks l asked) same is }

    -- and why they ask nothing is why it has no answer
    pub read_stops : {A W : Type 0} (asks : List ℕ → A → Type 0) (refuses : List ℕ → ℕ → W → Type 0) (long : A → Type 0)
        (faults now refused refused' : ℕ) → now ≡ faults → (fault : Fault W) → IsRefusal (refuses read) fault
        → Stops asks refuses long before after faults now refused refused' fault
    read_stops asks refuses long faults now refused refused' same (Input line why) is = (
      λ all told.
          let bytes : read ≡ all = read_whole input_limit before after read reads all short told in
          (omega (arith, short, ap length bytes), subst (λ l. refuses l line why) bytes is),
      read_end input_limit before after read reads short,
      same,
    )
    read_stops asks refuses long faults now refused refused' same Memory is = tt
    read_stops asks refuses long faults now refused refused' same Read is = absurd is
    read_stops asks refuses long faults now refused refused' same Write is = absurd is
    read_stops asks refuses long faults now refused refused' same NoThread is = absurd is
    read_stops asks refuses long faults now refused refused' same (TooLong stamp) is = absurd is
    read_stops asks refuses long faults now refused refused' same (TooLarge taken) is = absurd is
