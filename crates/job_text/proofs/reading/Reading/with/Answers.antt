use Rattle.std.proofs.Common.{subst}
use Rattle.job_text.specs.inside.Read.{Extends}
use Rattle.job_text.proofs.SoFar.{skips}
use Rattle.job_text.proofs.reading.Reading.with.Goals as goal

pub returns-in-Skipped-clause-extends : goal.returns-in-Skipped-clause-extends
returns-in-Skipped-clause-extends c = subst (λ k. Extends c.args.self k c.args.self) c.in-Skipped.ensures (skips c.args.self)
