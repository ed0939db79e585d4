use Rattle.std.proofs.Common.{◌∙◌, ap, Err}
use Rattle.run_command.proofs.Keeping.{trouble_told}
use Rattle.run_command.proofs.programs.end.Goals as goal

pub returns-in-Err-clause-faults : goal.returns-in-Err-clause-faults
returns-in-Err-clause-faults c =
    trouble_told c.in-Err.trouble c.args.world.run c.args.world.late
    (λ n e. let is = c.in-Err.is ∙ ap Err e in ((c.end.ensures.too_long n).0 is, c.end.ensures.many n is))
