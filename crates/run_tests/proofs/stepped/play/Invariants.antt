use Rattle.std.proofs.Common.{◌≡◌}
use Rattle.run_tests.proofs.stepped.play.Given as goal

abbrev pub invariant-loop-does : goal.invariant-loop-does
invariant-loop-does l = l.world.world.config ≡ l.initial.world.world.config
