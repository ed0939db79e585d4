use Rattle.flow_command.proofs.flowing.flow.Goals as goal

pub returns-clause-finds : goal.returns-clause-finds
returns-clause-finds g c = record { ends = c.run.ensures.ends; run = c.run.ensures.ran }
