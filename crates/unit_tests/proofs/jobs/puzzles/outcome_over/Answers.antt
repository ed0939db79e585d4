use Rattle.rank_client.proofs.LinkLaws.{not_begun}
use Rattle.unit_tests.proofs.jobs.puzzles.outcome_over.Goals as goal

pub run-requires-clause-running : goal.run-requires-clause-running
run-requires-clause-running c = not_begun _ c.requires.said
