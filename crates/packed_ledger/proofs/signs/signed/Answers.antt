use Rattle.packed_ledger.proofs.Signed.{even_is, odd_is}
use Rattle.packed_ledger.proofs.signs.signed.Goals as goal

pub returns-then-number-eq0 : goal.returns-then-number-eq0
returns-then-number-eq0 c = even_is c.args.number c.ranges.number.fits c.if-number-eq0.true

pub returns : goal.returns
returns c = odd_is c.args.number c.ranges.number.fits c.if-number-eq0.false
