use Rattle.std.proofs.Common.{◌≡◌, drop}
use Rattle.exhaust_ring.specs.Expected.{is_each_once}
use Rattle.exhaust_ring.proofs.expecting.is_each_once.Given as goal

abbrev pub invariant-loop-place : goal.invariant-loop-place
invariant-loop-place l = is_each_once l.asked ≡ is_each_once (drop l.place l.asked)
