use Rattle.std.proofs.Common.{◌∙◌, refl}
use Rattle.rank_client.proofs.LinkLaws.{batch_ended}
use Rattle.run_command.proofs.Hearing.{one_plus, one_same, repeats_as, repeats_same}
use Rattle.run_command.proofs.programs.close.Goals as goal

pub returns-then-batch_open-clause-closed : goal.returns-then-batch_open-clause-closed
returns-then-batch_open-clause-closed c = c.end_batch.ensures.made.batch ∙ batch_ended c.end_batch.result _

pub returns-then-batch_open-clause-open : goal.returns-then-batch_open-clause-open
returns-then-batch_open-clause-open c = c.end_batch.ensures.made.running refl

pub returns-then-batch_open-clause-one_more : goal.returns-then-batch_open-clause-one_more
returns-then-batch_open-clause-one_more c = one_plus _ _ _ _ c.end_batch.ensures.made.said

pub returns-then-batch_open-clause-repeats : goal.returns-then-batch_open-clause-repeats
returns-then-batch_open-clause-repeats c = repeats_as _ _ _ c.end_batch.ensures.made.failed c.end_batch.ensures.made.repeats

pub returns-else-batch_open-clause-one_more : goal.returns-else-batch_open-clause-one_more
returns-else-batch_open-clause-one_more c = one_same _

pub returns-else-batch_open-clause-repeats : goal.returns-else-batch_open-clause-repeats
returns-else-batch_open-clause-repeats c = repeats_same _
