use Rattle.adlb_threads.proofs.Besides.{told_caller}
use Rattle.adlb_threads.proofs.Expected.{are_expecting}
use Rattle.adlb_threads.proofs.laws.ends_laws.Goals as goal

pub returns : goal.returns
returns g c = record {
  expected = λ config ends absent served missing desk ended received senders.
      are_expecting config ends absent served missing desk ended received senders;
  caller = λ config servers absent old new was told. told_caller config servers absent old new was told;
}
