use Rattle.std.proofs.Common.{arith}
use Rattle.ledger_file.proofs.Parsing.{too_great}
use Rattle.ledger_file.proofs.numbers.short.Goals as goal

pub returns-then-n : goal.returns-then-n
returns-then-n c = λ a inside e. too_great c.args.word.now c.in_ok-n.n a c.in_ok-n.ensures.0 c.in_ok-n.ensures.1 (omega arith) inside e
