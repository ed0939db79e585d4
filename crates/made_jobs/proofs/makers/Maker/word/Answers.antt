use Rattle.made_jobs.specs.Made.{draw}
use Rattle.made_jobs.proofs.makers.Maker.word.Goals as goal

pub returns : goal.returns
unfolding draw
returns c = c.next_word.ensures
