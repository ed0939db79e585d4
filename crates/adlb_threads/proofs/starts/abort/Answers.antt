use Rattle.std.proofs.Common.{arith, subst}
use Rattle.adlb_threads.specs.Ends.{HasTold}
use Rattle.adlb_threads.proofs.Besides.{none_told, one_told}
use Rattle.adlb_threads.proofs.starts.abort.Goals as goal

pub loop-number-init : goal.loop-number-init
loop-number-init g c = record { told = none_told c.args.absent c.args.desk.now }

pub loop-number-preserved : goal.loop-number-preserved
loop-number-preserved g c = record {
  told = one_told c.loop-number.number c.args.absent c.args.desk.now c.loop-number.desk c.tell.new.self c.loop-number.invariant.told
      c.tell.ensures.same c.tell.ensures.told;
}

pub returns : goal.returns
returns g c = record {
  told = subst (λ n. HasTold n c.args.absent c.args.desk.now c.loop-number.desk)
      (omega (arith, c.loop-number.auto.number-end, c.loop-number-test.false)) c.loop-number.invariant.told;
}
