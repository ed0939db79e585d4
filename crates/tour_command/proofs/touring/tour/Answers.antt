use Rattle.tour_command.proofs.touring.tour.Goals as goal

pub returns-clause-finds : goal.returns-clause-finds
returns-clause-finds g c = record { ends = c.run.ensures.ends; run = c.run.ensures.ran }
