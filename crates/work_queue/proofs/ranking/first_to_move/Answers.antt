use Rattle.std.proofs.Common.{arith, sym, ◌∙◌}
use Rattle.work_queue.proofs.Runs.{last_listed, moves_ranks, passed_by, run_moves, taken_up}
use Rattle.work_queue.specs.inside.Index.{may_move, moves_first}
use Rattle.work_queue.proofs.ranking.first_to_move.Goals as goal

pub loop-place-preserved-then-is_for_any : goal.loop-place-preserved-then-is_for_any
loop-place-preserved-then-is_for_any c =
    let run = c.run_at-run.ensures in
    let on = run.goes_on in
    record {
      within = run.within;
      leads = rw c.first_of.ensures
          (taken_up may_move moves_first moves_ranks c.args.entries.now.items c.loop-place.place c.run_at-run.result.end
          c.run_at-run.result.last (omega arith)
          (last_listed c.args.entries.now.items c.loop-place.place c.run_at-run.result run)
          (run_moves c.args.entries.now.items c.loop-place.place c.run_at-run.result run) c.loop-place.first
          (sym c.is_for_any.ensures ∙ c.if-is_for_any.true) c.loop-place.invariant.leads);
    }

pub loop-place-preserved : goal.loop-place-preserved
loop-place-preserved c =
    let run = c.run_at-run.ensures in
    let on = run.goes_on in
    record {
      within = run.within;
      leads =
          passed_by may_move moves_first moves_ranks c.args.entries.now.items c.loop-place.place c.run_at-run.result.end
          c.run_at-run.result.last (omega arith)
          (last_listed c.args.entries.now.items c.loop-place.place c.run_at-run.result run)
          (run_moves c.args.entries.now.items c.loop-place.place c.run_at-run.result run) c.loop-place.first
          (sym c.is_for_any.ensures ∙ c.if-is_for_any.false) c.loop-place.invariant.leads;
    }
