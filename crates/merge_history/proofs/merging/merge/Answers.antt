use Rattle.std.specs.Prelude.{IfOk, Result, Ok, Err}
use Rattle.adlb_unit.specs.declared.names.NoMemory.{NoMemory}
use Rattle.merge_history.proofs.OneLedger.{one_history}
use Rattle.merge_history.proofs.merging.merge.Goals as goal

pub returns-clause-run : goal.returns-clause-run
returns-clause-run c =
    by_case c.merged_entries.result c.merged_entries.ensures (λ ledger is config journals finals can are compose.
    one_history config journals can finals _ ledger is are compose)
  where
    by_case : {L : Type 0} {P Q : L → Type 0} (r : Result L NoMemory) → IfOk r P → ((l : L) → P l → Q l) → IfOk r Q
    by_case (Ok l) is f = f l is
    by_case (Err e) is f = tt
