use Rattle.solve_command.proofs.solving.solve.Goals as goal

pub returns-clause-solves : goal.returns-clause-solves
returns-clause-solves g c = record { ends = c.run.ensures.ends; run = c.run.ensures.ran }
