use Rattle.std.proofs.Common.{drop}
use Rattle.job_report.proofs.Summed.{AreSmall, IsCounting}
use Rattle.job_report.proofs.summaries.Counts.of.Given as goal

abbrev pub invariant-loop-job : goal.invariant-loop-job
invariant-loop-job l = record {
  small : AreSmall l.job-index l.counts;
  counting : IsCounting l.found l.jobs (drop l.job-index l.jobs) l.counts;
}
