use Rattle.std.proofs.Common.{◌≡◌, drop}
use Rattle.rank_client.specs.Calls.{end_told}
use Rattle.unit_tests.proofs.jobs.puzzles.fake.end_in.Given as goal

abbrev pub invariant-loop-s : goal.invariant-loop-s
invariant-loop-s l = end_told (drop l.s-index l.said) ≡ end_told l.said
