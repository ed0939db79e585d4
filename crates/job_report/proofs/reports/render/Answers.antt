use Rattle.std.proofs.Common.{◌∙◌, arith, length, subst, ap, Vec, Global, ℕ}
use Rattle.job_report.specs.Report.{IsReport}
use Rattle.job_report.specs.Whole.{AreWhole}
use Rattle.job_report.proofs.Parts.{adds_puzzle, batch_more, before_at, puzzle_more, report_is}
use Rattle.job_report.proofs.reports.render.Goals as goal
use Rattle.job_report.proofs.reports.render.Goals.{in-Puzzle+in_ok-append_puzzle-in-Puzzle, in-Batch+in_ok-append_batch-in-Batch}

pub loop-job-preserved : goal.loop-job-preserved
loop-job-preserved c = elim c.match-job.branch [
  | in-Puzzle+in_ok-append_puzzle-in-Puzzle w ↦ record {
    few = omega (arith, c.loop-job.invariant.few, w.puzzle-is, w.batch-is);
    parts = before_at _ _ _ _ _ _ _ _ _ w.puzzle-is w.batch-is (ap (λ (t : Vec ℕ Global). t.items) w.text-is)
        (puzzle_more c.loop-job.job-index c.loop-job.puzzle c.loop-job.batch c.as_slice-jobs.result.now c.job-item.result
        w.in-Puzzle.field-0 c.args.outcomes.now c.loop-job.text.items w.append_puzzle.new.text.items c.loop-job-test.true
        c.job-item.is w.in-Puzzle.is (adds_puzzle c.loop-job.puzzle c.in_ok-found.found c.args.outcomes.now c.loop-job.text.items
        w.append_puzzle.new.text.items w.in_ok-append_puzzle-in-Puzzle.ensures (c.in_ok-found.ensures.grids c.loop-job.puzzle)
        (c.in_ok-found.ensures.overs c.loop-job.puzzle)) c.loop-job.invariant.parts);
  }
  | in-Batch+in_ok-append_batch-in-Batch w ↦ record {
    few = omega (arith, c.loop-job.invariant.few, w.puzzle-is, w.batch-is);
    parts = before_at _ _ _ _ _ _ _ _ _ w.puzzle-is w.batch-is (ap (λ (t : Vec ℕ Global). t.items) w.text-is)
        (batch_more c.loop-job.job-index c.loop-job.puzzle c.loop-job.batch c.as_slice-jobs.result.now c.job-item.result
        w.in-Batch.common w.in-Batch.items w.len-bytes.result w.as_slice.result.now c.in_ok-answers.answers c.args.outcomes.now
        c.loop-job.text.items w.append_batch.new.text.items c.loop-job-test.true c.job-item.is w.in-Batch.is
        (w.len-bytes.ensures ∙ ap length w.payload.ensures)
        w.as_slice.ensures.items c.in_ok-answers.ensures w.in_ok-append_batch-in-Batch.ensures c.loop-job.invariant.parts);
  }
]

pub returns : goal.returns
returns c = λ budget grain.
    subst (λ jobs. AreWhole budget grain jobs c.args.outcomes.now → IsReport budget grain jobs c.append_totals.new.text.items)
    c.as_slice-jobs.ensures.jobs
    (report_is c.loop-job.job-index c.loop-job.puzzle c.loop-job.batch c.as_slice-jobs.result.now c.args.outcomes.now
    c.loop-job.text.items c.append_totals.new.text.items c.loop-job-test.false c.loop-job.invariant.parts
    c.in_ok-append_totals.ensures budget grain)
