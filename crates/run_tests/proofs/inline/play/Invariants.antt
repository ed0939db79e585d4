use Rattle.std.proofs.Common.{◌≡◌, false}
use Rattle.rank_client.specs.Calls.{has_finished}
use Rattle.run_tests.proofs.inline.play.Given as goal

abbrev pub invariant-loop-act : goal.invariant-loop-act
invariant-loop-act l = has_finished l.world.run.transcript ≡ false
