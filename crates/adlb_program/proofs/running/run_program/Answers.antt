use Rattle.std.proofs.Common.{Some, ◌∙◌}
use Rattle.adlb_program.proofs.running.run_program.Goals as goal

pub returns-in-Err : goal.returns-in-Err
returns-in-Err g c = (Some c.in-Err.fault, c.answer-in-Err.ensures ∙ c.new.ensures.status)
