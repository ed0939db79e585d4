use Rattle.std.proofs.Common.{sym, ◌∙◌}
use Rattle.work_queue.proofs.Runs.{run_passed, run_serves}
use Rattle.work_queue.specs.inside.Index.{came_first, may_serve}
use Rattle.work_queue.proofs.fitting.first_asked.Goals as goal

pub loop-place-preserved : goal.loop-place-preserved
loop-place-preserved c =
    let run = c.run_at-run.ensures in
    let entries = c.args.entries.now.items in
    let asked = c.args.asked.now in
    record {
      within = run.within;
      leads =
          run_passed (may_serve asked) came_first entries c.loop-place.place c.run_at-run.result.end c.loop-place.first (λ k d from below.
          run_serves asked entries c.loop-place.place c.run_at-run.result run k d from below
          ∙ (sym c.is_permitted.ensures ∙ c.if-is_permitted.false)) c.loop-place.invariant.leads;
    }
