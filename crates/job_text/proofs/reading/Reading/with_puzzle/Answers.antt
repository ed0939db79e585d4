use Rattle.std.proofs.Common.{◌≡◌, ◌∷◌, ◌++◌, [], refl, rules}
use Rattle.job_text.specs.declared.jobs.Job.TheVariants.{Puzzle}
use Rattle.job_text.proofs.SoFar.{puzzle_added}
use Rattle.job_text.proofs.reading.Reading.with_puzzle.Goals as goal

pub returns : goal.returns
returns c =
    let more : c.push.new.self.items ≡ c.in_ok-jobs.jobs.items ++ Puzzle c.args.grid ∷ [] = search rules in
    puzzle_added c.args.self _ c.in_ok-jobs.jobs.items c.args.grid c.in_ok-jobs.ensures.jobs c.in_ok-jobs.ensures.few more refl
