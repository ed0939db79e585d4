use Rattle.made_jobs.specs.Made.{seeded}
use Rattle.made_jobs.proofs.Lengths.{made_long, text_short}
use Rattle.made_jobs.proofs.Signs.{puzzle_filled, puzzle_signs}
use Rattle.made_jobs.proofs.laws.made_laws.Goals as goal

pub returns-clause-puzzles : goal.returns-clause-puzzles
returns-clause-puzzles c = puzzle_signs

pub returns-clause-filled : goal.returns-clause-filled
returns-clause-filled c = puzzle_filled

pub returns-clause-long : goal.returns-clause-long
returns-clause-long c = λ count seed. made_long count (seeded seed)

pub returns-clause-short : goal.returns-clause-short
returns-clause-short c = text_short
