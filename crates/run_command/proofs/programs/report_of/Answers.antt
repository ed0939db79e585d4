use Rattle.std.proofs.Common.{◌∙◌}
use Rattle.run_command.proofs.Keeping.{reported}
use Rattle.run_command.proofs.programs.report_of.Goals as goal

pub returns-clause-report : goal.returns-clause-report
returns-clause-report g c = record {
  found = c.in_ok-outcome.field-0;
  is = c.in_ok-outcome.was;
  report = c.inline.ensures.report ∙ reported _ _ _ _ _ _ _ _ c.in_ok-transcripts.ensures.list c.in_ok-outcomes.ensures.list;
}
