use Rattle.std.proofs.Common.{[], ◌∷◌, ◌++◌, List, ap, sym, ◌∙◌, length, arith, append_assoc, length-append}
use Rattle.core_run.specs.declared.events.Event.{Event}
use Rattle.core_world.proofs.Running.{run_more, stops_at}
use Rattle.core_world.proofs.worlds.World.run_events.Goals as goal

pub overflow_add-applied : goal.overflow_add-applied
overflow_add-applied c =
    let v = c.loop-event.invariant in
    let h = c.in-Some.ensures.steps in
    let all = v.1 ∙ ap (λ (r : List Event). v.0 ++ r) h.0 in
    omega (
      arith,
      v.3,
      ap length all,
      length-append v.0 (c.in-Some.event ∷ c.next.new.self.rest.items),
      c.args.events.ok.0,
      c.args.events.ok.1,
      c.args.events.small,
    )

pub loop-event-preserved : goal.loop-event-preserved
loop-event-preserved c =
    let v = c.loop-event.invariant in
    let h = c.in-Some.ensures.steps in
    let a = c.in-Ok.ensures.applied in
    let all = v.1 ∙ ap (λ (r : List Event). v.0 ++ r) h.0 in (
      v.0 ++ c.in-Some.event ∷ [],
      all ∙ sym (append_assoc v.0 (c.in-Some.event ∷ []) c.next.new.self.rest.items),
      run_more c.args.self.now.world c.loop-event.self.world c.apply.new.self.world v.0 c.in-Some.event v.2 a.happened,
      omega (arith, v.3, length-append v.0 (c.in-Some.event ∷ [])),
      a.goes_on ∙ sym a.whole ∙ v.4,
      c.in-Ok.ensures.config ∙ v.5,
      omega (arith, h.1, v.6, ap length h.0),
    )

pub returns-in-Err-clause-refused : goal.returns-in-Err-clause-refused
returns-in-Err-clause-refused c =
    let v = c.loop-event.invariant in
    let all = v.1 ∙ ap (λ (r : List Event). v.0 ++ r) c.in-Some.ensures.steps.0 in
    stops_at c.args.self.now c.loop-event.self c.apply.new.self c.args.events.items v.0 c.next.new.self.rest.items c.in-Some.event
    c.loop-event.applied c.in-Err.fault
    all v.3 v.2 v.4 c.in-Err.ensures.refused
