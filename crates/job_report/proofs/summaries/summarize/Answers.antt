use Rattle.std.proofs.Common.{◌≡◌, subst}
use Rattle.job_report.specs.Summary.{summary}
use Rattle.job_report.specs.Whole.{AreWhole}
use Rattle.job_report.proofs.Summed.{puzzles_line_is, summary_is}
use Rattle.job_report.proofs.summaries.summarize.Goals as goal

pub returns : goal.returns
returns c = λ budget grain.
    let told = c.of-counts.ensures in
    subst (λ jobs. AreWhole budget grain jobs c.args.outcomes.now → c.append_totals.new.text.items ≡ summary budget grain jobs)
    c.as_slice.ensures.jobs (λ whole. summary_is budget grain c.as_slice.result.now c.in_ok-found.found c.args.outcomes.now
    c.of-counts.result whole c.new-text.result.items c.append_puzzles.new.text.items c.append_batches.new.text.items
    c.append_totals.new.text.items _ c.new-text.ensures.items (puzzles_line_is budget grain c.as_slice.result.now c.in_ok-found.found
    c.args.outcomes.now c.of-counts.result whole c.in_ok-found.ensures.grids c.in_ok-found.ensures.overs told.puzzles told.overs
    told.solutions) told.batches told.items c.in_ok-append_puzzles.ensures c.in_ok-append_batches.ensures
    c.in_ok-append_totals.ensures)
