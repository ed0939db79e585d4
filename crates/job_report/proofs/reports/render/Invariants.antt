use Rattle.std.proofs.Common.{◌≤◌, ◌+◌, drop}
use Rattle.job_report.proofs.Parts.{IsBefore}
use Rattle.job_report.proofs.reports.render.Given as goal

abbrev pub invariant-loop-job : goal.invariant-loop-job
invariant-loop-job l = record {
  few : l.puzzle + l.batch ≤ 2 + l.job-index;
  parts : IsBefore l.jobs l.puzzle l.batch (drop l.job-index l.jobs) l.outcomes l.text.items;
}
