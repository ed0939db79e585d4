use Rattle.packed_ledger.proofs.Groups.{read_no_part, some_part}
use Rattle.packed_ledger.proofs.numbers.read_short_part.Goals as goal

pub returns-then-marked-eq0 : goal.returns-then-marked-eq0
returns-then-marked-eq0 c = λ n rest fits same e. read_no_part 5 n c.args.marked c.args.bytes.now rest c.if-marked-eq0.true same e

pub returns : goal.returns
returns c = λ n rest fits same e. c.read_short.ensures n rest fits
    (some_part 5 n c.args.marked c.args.bytes.now rest c.if-marked-eq0.false same e)
