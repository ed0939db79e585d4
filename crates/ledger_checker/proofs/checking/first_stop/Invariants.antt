use Rattle.std.proofs.Common.{◌≡◌, ◌+◌, length}
use Rattle.ledger_checker.specs.Room.{HasRoom}
use Rattle.ledger_checker.specs.Stops.{first_stop}
use Rattle.ledger_checker.proofs.checking.first_stop.Given as goal

-- what is found from here on is what is found from the start, and each counter is at most the place
abbrev pub invariant-loop-place : goal.invariant-loop-place
invariant-loop-place g l = record {
  read : l.place + length l.entries ≡ length l.fn.ledger;
  same : first_stop l.machine l.place l.entries ≡ first_stop l.fn.machine 0 l.fn.ledger;
  room : HasRoom l.place l.machine;
}
