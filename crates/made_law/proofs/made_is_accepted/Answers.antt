use Rattle.std.proofs.Common.{◌≡◌, ◌∙◌, ℕ, List, ap, length, subst, sym}
use Rattle.std.specs.Prelude.{All}
use Rattle.rand_pcg.specs.Lcg.{Lcg}
use Rattle.job_report.specs.Jobs.{all_items, puzzles}
use Rattle.job_text.specs.Jobs.{input_jobs}
use Rattle.job_text.specs.declared.jobs.Job.{Job}
use Rattle.made_jobs.specs.Made.{made_text, puzzle, seeded}
use Rattle.made_jobs.specs.Signs.{IsPuzzle}
use Rattle.made_law.specs.Jobs.{made_jobs}
use Rattle.made_law.specs.Solved.{IsSolvable}
use Rattle.made_law.proofs.Accepted.{made_is_front}
use Rattle.made_law.proofs.Counted.{made_are_counted}
use Rattle.made_law.proofs.Fronts.{all_jobs, none_refused}
use Rattle.made_law.proofs.Solvable.{made_solved}
use Rattle.made_law.proofs.made_is_accepted.Goals as goal

module _ (are_puzzles : (generator : Lcg) → IsPuzzle (puzzle generator).0) where
  jobs_are : (count seed : ℕ) → input_jobs (made_text count seed) ≡ made_jobs count (seeded seed)
  jobs_are count seed = all_jobs (made_text count seed) (made_jobs count (seeded seed)) (made_is_front are_puzzles count (seeded seed))

pub returns-clause-accepted : goal.returns-clause-accepted
returns-clause-accepted c = λ count seed.
    none_refused (made_text count seed) (made_jobs count (seeded seed)) (made_is_front c.made_laws.ensures.puzzles count (seeded seed))

pub returns-clause-jobs : goal.returns-clause-jobs
returns-clause-jobs c = jobs_are c.made_laws.ensures.puzzles

pub returns-clause-puzzles : goal.returns-clause-puzzles
returns-clause-puzzles c = λ count seed.
    ap (λ jobs. length (puzzles jobs)) (jobs_are c.made_laws.ensures.puzzles count seed) ∙ (made_are_counted count (seeded seed)).each

pub returns-clause-all : goal.returns-clause-all
returns-clause-all c = λ count seed.
    ap (λ jobs. length jobs) (jobs_are c.made_laws.ensures.puzzles count seed) ∙ (made_are_counted count (seeded seed)).all

pub returns-clause-items : goal.returns-clause-items
returns-clause-items c = λ count seed.
    ap all_items (jobs_are c.made_laws.ensures.puzzles count seed) ∙ (made_are_counted count (seeded seed)).items

pub returns-clause-solved : goal.returns-clause-solved
returns-clause-solved c = λ count seed.
    subst (λ (jobs : List Job). All IsSolvable (puzzles jobs)) (sym (jobs_are c.made_laws.ensures.puzzles count seed))
    (made_solved count (seeded seed))
