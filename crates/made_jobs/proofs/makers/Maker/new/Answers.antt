use Rattle.made_jobs.specs.Made.{seeded}
use Rattle.made_jobs.proofs.makers.Maker.new.Goals as goal

pub returns : goal.returns
unfolding seeded
returns c = c.new.ensures
