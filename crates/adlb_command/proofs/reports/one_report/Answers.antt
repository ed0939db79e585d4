use Rattle.job_report.proofs.Unique.{report_unique}
use Rattle.adlb_command.proofs.reports.one_report.Goals as goal

pub returns : goal.returns
returns c = report_unique
