use Rattle.std.proofs.Common.{arith}
use Rattle.packed_ledger.specs.inside.Rows.{marks}
use Rattle.packed_ledger.proofs.rows.marks.Goals as goal

pub returns-clause-marks : goal.returns-clause-marks
unfolding marks
returns-clause-marks c = cc

pub returns-clause-fits : goal.returns-clause-fits
returns-clause-fits c = record {
  first = omega arith;
  second = omega arith;
  third = omega arith;
  fourth = omega arith;
  fifth = omega arith;
  call = omega arith;
  number = omega arith;
  amount = omega arith;
}
