use Rattle.std.proofs.Common.{◌≡◌}
use Rattle.run_tests.proofs.stepped.go_through.Given as goal

abbrev pub invariant-loop-at : goal.invariant-loop-at
invariant-loop-at l = l.world.world.config.servers ≡ l.servers
