use Rattle.std.proofs.Common.{◌≤◌, ◌-◌, arith, sym, ◌∙◌, ap, inl, inr}
use Rattle.std.proofs.lemmas.Bool.{cases_lt}
use Rattle.adlb_unit.specs.declared.notes.Info.{Info}
use Rattle.work_queue.specs.inside.Counting.{run_with}
use Rattle.work_queue.proofs.Tallies.{run_bounds, run_counted_to, run_not_counted}
use Rattle.work_queue.proofs.counting.count_kind.Goals as goal

pub loop-place-preserved : goal.loop-place-preserved
loop-place-preserved c =
    let run = c.run_at-run.ensures in
    let on = run.goes_on in
    record {
      within = run.within;
      counted =
          c.loop-place.invariant.counted
          ∙ sym (run_not_counted c.args.kind c.args.entries.now.items c.loop-place.place c.run_at-run.result run
          (sym c.eq.ensures ∙ c.if-eq.false));
      free = omega (arith, c.loop-place.invariant.free);
      at_top = c.loop-place.invariant.at_top;
    }

pub loop-place-preserved-then-eq : goal.loop-place-preserved-then-eq
loop-place-preserved-then-eq c =
    let run = c.run_at-run.ensures in
    let on = run.goes_on in
    let point = c.top_end.result in
    let end = c.run_at-run.result.end in
    let place = c.loop-place.place in
    let top = c.min-top.result in
    let counted = run_counted_to c.args.kind c.args.entries.now.items place c.run_at-run.result run (sym c.eq.ensures ∙ c.if-eq.true) point
    c.top_end.ensures.point top (elim (cases_lt end point) [
      | inl past ↦ inr (omega arith, omega (arith, past, c.min-top.ensures))
      | inr within ↦ inl (within, omega (arith, within, c.min-top.ensures))
    ]) in
    let few : top - place ≤ end - place = omega (arith, c.min-top.ensures) in
    let bounds =
    run_bounds c.loop-place.info (end - place) c.run_at-run.result.first.prio (top - place) c.loop-place.invariant.at_top few in
    let free = ap (λ (i : Info). i.free) c.with_run-info.ensures in
    let at = ap (λ (i : Info). i.at_top) c.with_run-info.ensures in
    record {
      within = run.within;
      counted = c.with_run-info.ensures
          ∙ ap (λ i. run_with i (end - place) c.run_at-run.result.first.prio (top - place)) c.loop-place.invariant.counted ∙ sym counted;
      free = omega (arith, free, bounds.0, c.loop-place.invariant.free);
      at_top = omega (arith, free, at, bounds.0, bounds.1);
    }
