use Rattle.server_core.proofs.Prelude.{has_none, has_room, length, no_unit, refl}
use Rattle.server_core.proofs.states.ServerState.has_room_for.Goals as goal

pub returns-then-not-has_unit : goal.returns-then-not-has_unit
returns-then-not-has_unit c =
    let id = c.args.unit.now.id in
    let q = c.self.inside.queue in
    let new = no_unit q.units id (λ has. let there = c.has_unit.ensures.1 has in cc) in
    let own = has_room id q.promises c.promised.result c.promised.ensures c.in-Some.length c.len.result c.in-Some.is in
    rw (← c.self.view_is, ← c.len.ensures) (λ same. (new, own.0 same, refl), λ is. own.1 is.1)

pub returns-in-None : goal.returns-in-None
returns-in-None c =
    let none = has_none c.args.unit.now.id c.self.inside.queue.promises c.promised.result c.promised.ensures
    (length c.args.unit.now.body) c.in-None.is in
    rw (← c.self.view_is) (λ yes. absurd (cc), λ is. absurd (none is.1))
