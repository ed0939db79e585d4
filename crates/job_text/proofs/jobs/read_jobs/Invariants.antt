use Rattle.job_text.specs.inside.Left.{ends_left}
use Rattle.job_text.proofs.Steps.{IsReadTo}
use Rattle.job_text.proofs.jobs.read_jobs.Given as goal

abbrev pub invariant-each : goal.invariant-each
invariant-each l = IsReadTo l.bytes l.reading l.lines l.number

abbrev pub decreases-each : goal.decreases-each
decreases-each l = ends_left l.lines
