use Rattle.std.proofs.Common.{arith, sym, ◌∙◌}
use Rattle.work_queue.proofs.Runs.{first_listed, passed_by, run_suits, suits_ranks, taken_up}
use Rattle.work_queue.specs.inside.Index.{may_have, suits_better}
use Rattle.work_queue.proofs.ranking.best_entry.Goals as goal

pub loop-place-preserved-then-permits : goal.loop-place-preserved-then-permits
loop-place-preserved-then-permits c =
    let run = c.run_at-run.ensures in
    let on = run.goes_on in
    record {
      within = run.within;
      leads = rw c.better_of.ensures
          (taken_up (may_have c.args.rank c.args.types.now) (suits_better c.args.rank) (suits_ranks c.args.rank) c.args.entries.now.items
          c.loop-place.place c.run_at-run.result.end c.run_at-run.result.first (omega arith)
          (first_listed c.args.entries.now.items c.loop-place.place c.run_at-run.result run)
          (run_suits c.args.rank c.args.types.now c.args.entries.now.items c.loop-place.place c.run_at-run.result run) c.loop-place.best
          (sym c.permits.ensures.test ∙ c.if-permits.true) c.loop-place.invariant.leads);
    }

pub loop-place-preserved : goal.loop-place-preserved
loop-place-preserved c =
    let run = c.run_at-run.ensures in
    let on = run.goes_on in
    record {
      within = run.within;
      leads =
          passed_by (may_have c.args.rank c.args.types.now) (suits_better c.args.rank) (suits_ranks c.args.rank) c.args.entries.now.items
          c.loop-place.place c.run_at-run.result.end c.run_at-run.result.first (omega arith)
          (first_listed c.args.entries.now.items c.loop-place.place c.run_at-run.result run)
          (run_suits c.args.rank c.args.types.now c.args.entries.now.items c.loop-place.place c.run_at-run.result run) c.loop-place.best
          (sym c.permits.ensures.test ∙ c.if-permits.false) c.loop-place.invariant.leads;
    }
