use Rattle.std.proofs.Common.{refl}
use Rattle.job_text.proofs.SoFar.{batch_added}
use Rattle.job_text.proofs.reading.Reading.with_batch.Goals as goal

pub returns : goal.returns
returns c =
    batch_added c.args.self _ c.in_ok-jobs.jobs.items (record { common = c.in_ok-copy.field-0; items = c.new.result }) c.args.common.now
    c.in_ok-jobs.ensures.jobs c.in_ok-jobs.ensures.few refl refl c.new.ensures.items c.in_ok-copy.ensures
