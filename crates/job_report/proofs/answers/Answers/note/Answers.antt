use Rattle.job_report.proofs.Told.{value_noted}
use Rattle.job_report.proofs.answers.Answers.note.Goals as goal

pub returns : goal.returns
returns c = λ b n.
    let updates = rw c.in_ok-or_no_memory.ensures at c.insert.ensures.updates in
    value_noted c.args.batch c.args.item c.args.value b n c.args.self.now (record { held = c.insert.new.self }) (updates.0 (b, n))
