use Rattle.std.proofs.Common.{◌≡◌, ◌∷◌, ◌++◌, [], sym, ap, ◌∙◌, rules}
use Rattle.job_text.specs.declared.jobs.Job.TheVariants.{Batch}
use Rattle.job_text.specs.inside.Read.{jobs_behind}
use Rattle.job_text.proofs.SoFar.{nothing_more, batch_ends}
use Rattle.job_text.proofs.reading.Reading.whole.Goals as goal
use Rattle.job_text.proofs.reading.Reading.whole.Goals.{in-Some+in_ok-items+in_ok-or_no_memory, in_default}

pub returns-clause-jobs : goal.returns-clause-jobs
returns-clause-jobs c = elim c.match-current.branch [
  | in-Some+in_ok-items+in_ok-or_no_memory w ↦
      let more : c.match-current.jobs.items
      ≡ c.args.self.jobs.items ++ Batch w.in-Some.batch.common w.in-Some.batch.items.items ∷ [] = search rules in
      more ∙ batch_ends c.args.self.jobs.items w.in-Some.batch.common w.in-Some.batch.items.items
      ∙ ap (λ x. c.args.self.jobs.items ++ jobs_behind x []) (sym w.in-Some.is)
  | in_default w ↦
      ap (λ x. x.items) w.jobs-is ∙ nothing_more c.args.self.jobs.items
      ∙ ap (λ x. c.args.self.jobs.items ++ jobs_behind x []) (sym w.in_default.is)
]
