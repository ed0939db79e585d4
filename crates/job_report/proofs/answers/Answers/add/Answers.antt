use Rattle.std.proofs.Common.{◌∙◌, refl}
use Rattle.job_report.proofs.Told.{all_noted, answer_noted}
use Rattle.job_report.proofs.answers.Answers.add.Goals as goal

pub loop-answer-preserved : goal.loop-answer-preserved
loop-answer-preserved c = λ b n.
    answer_noted b n c.loop-answer.answer-index c.args.answers.now _ _ _ _ c.loop-answer-test.true refl (c.in_ok-note.ensures b n)
    ∙ c.loop-answer.invariant b n

pub returns : goal.returns
returns c = λ b n. all_noted b n c.loop-answer.answer-index c.args.answers.now _ _ c.loop-answer-test.false (c.loop-answer.invariant b n)
