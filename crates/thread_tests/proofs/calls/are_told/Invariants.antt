use Rattle.std.proofs.Common.{◌≡◌, false}
use Rattle.rank_client.specs.Calls.{has_finished}
use Rattle.thread_tests.proofs.calls.are_told.Given as goal

abbrev pub invariant-loop-does : goal.invariant-loop-does
invariant-loop-does g l = has_finished (g.A.Adlb.link l.link).said ≡ false
