use Rattle.std.proofs.lemmas.Bool.{eq-eqb, ne_eqb}
use Rattle.packed_ledger.specs.inside.Numbers.{mark}
use Rattle.packed_ledger.proofs.numbers.mark.Goals as goal

pub returns-then-number-eq0-clause-is : goal.returns-then-number-eq0-clause-is
unfolding mark
returns-then-number-eq0-clause-is c = rw (eq-eqb c.args.number 0 c.if-number-eq0.true)

pub returns-else-number-eq0-clause-is : goal.returns-else-number-eq0-clause-is
unfolding mark
returns-else-number-eq0-clause-is c = rw (ne_eqb c.args.number 0 c.if-number-eq0.false)
