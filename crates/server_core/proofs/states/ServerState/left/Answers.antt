use Rattle.server_core.proofs.Prelude.{◌∙◌, ◌≡◌, arith, is_ok, left_more, refl, sym, true}
use Rattle.server_core.proofs.states.ServerState.left.Goals as goal

pub loop-id-preserved : goal.loop-id-preserved
loop-id-preserved c =
    let i = c.self.inside in
    let more = left_more i.me i.queue.units c.loop-id.place c.in-Some.id c.in-Some.pinned (sym c.unit_at.ensures.at ∙ c.in-Some.is) in
    let okay : is_ok c.push.result ≡ true = c.if-is_err.ensures.negation in
    record {
      items = rw (c.push.ensures.items, okay, more.1, c.loop-id.invariant.items) refl;
      within = omega (arith, more.0);
      count = rw (c.push.ensures.len, okay, c.loop-id.invariant.count) refl;
    }
