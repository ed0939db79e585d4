use Rattle.adlb_threads.specs.Ends.{HasTold}
use Rattle.adlb_threads.proofs.starts.abort.Given as goal

abbrev pub invariant-loop-number : goal.invariant-loop-number
invariant-loop-number g l = record { told : HasTold l.number l.fn.absent l.fn.desk l.desk }
