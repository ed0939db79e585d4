use Rattle.run_command.proofs.Keeping.{run_is_kept}
use Rattle.run_command.proofs.answers.answer_of.Goals as goal

pub returns-in-Ok-clause-answered : goal.returns-in-Ok-clause-answered
returns-in-Ok-clause-answered g c =
    (run_is_kept _ _ c.args.asked.now c.args.kept c.requires.run c.in-Ok.ensures.worked_up, c.in-Ok.ensures.told)
