use Rattle.flow_command.proofs.Ended.{accepted_fine, overlong_told, refused_at_line, short_fine}
use Rattle.flow_command.proofs.Joining.{flows_run, some_ranks}
use Rattle.flow_command.proofs.laws.flow_laws.Goals as goal

pub returns-clause-complete : goal.returns-clause-complete
returns-clause-complete c = λ ranks before after fault kept bytes ends told no_read short is no_write no_refusal.
    accepted_fine ranks before after fault kept bytes ends told no_read short is no_write no_refusal

pub returns-clause-refused : goal.returns-clause-refused
returns-clause-refused c = λ ranks before after fault kept bytes ends told no_read line why short is.
    refused_at_line ranks before after fault kept bytes ends told no_read line why short is

pub returns-clause-overlong : goal.returns-clause-overlong
returns-clause-overlong c = λ ranks before after fault kept bytes ends told no_read long.
    overlong_told ranks before after fault kept bytes ends told no_read long

pub returns-clause-short : goal.returns-clause-short
returns-clause-short c = λ ranks before after fault kept bytes ends told few fine.
    short_fine ranks before after fault kept bytes ends told few fine

pub returns-clause-entered : goal.returns-clause-entered
returns-clause-entered c = λ flow k kept.
    c.value_laws.ensures.entered k.report.config k.report.ledger kept.run.last flow k.report.outcomes (some_ranks flow k.report kept.run)
    kept.run.legal (flows_run flow k.report kept.run)

pub returns-clause-known : goal.returns-clause-known
returns-clause-known c = λ flow k kept.
    c.value_laws.ensures.known k.report.config k.report.ledger kept.run.last flow k.report.outcomes (some_ranks flow k.report kept.run)
    kept.run.legal (flows_run flow k.report kept.run)

pub returns-clause-all_entered : goal.returns-clause-all_entered
returns-clause-all_entered c = λ flow k kept.
    c.value_laws.ensures.complete k.report.config k.report.ledger kept.run.last flow k.report.outcomes (some_ranks flow k.report kept.run)
    kept.run.legal (flows_run flow k.report kept.run)
