use Rattle.std.proofs.Common.{◌≡◌, true, take}
use Rattle.ledger_file.specs.inside.Reading.{free}
use Rattle.ledger_file.proofs.cursor.cut.Given as goal

abbrev pub invariant-loop-i : goal.invariant-loop-i
invariant-loop-i l = free l.at (take l.i l.bytes) ≡ true
