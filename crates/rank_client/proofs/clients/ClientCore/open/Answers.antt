use Rattle.std.proofs.Common.{◌≡◌, ◌≤◌, ◌+◌, true, arith, sym, subst}
use Rattle.std.specs.Vec.{vec_capacity, vec_len}
use Rattle.rank_client.specs.declared.openings.First.{First}
use Rattle.rank_client.specs.declared.pendings.Pending.{Pending}
use Rattle.rank_client.specs.declared.rooms.Room.{Room}
use Rattle.rank_client.specs.inside.{HasFirst, HasRoom, IsFresh, Opens, state_of}
use Rattle.rank_client.specs.Rules.{is_free}
use Rattle.rank_client.specs.State.{ClientModel}
use Rattle.rank_client.proofs.Insides.{asks_inside, first_letter, over_inside}
use Rattle.rank_client.proofs.clients.ClientCore.open.Goals as goal

pub write-requires-clause-first : goal.write-requires-clause-first
write-requires-clause-first c =
    let fresh : IsFresh (state_of c.self.inside) = subst IsFresh (sym c.self.view_is) c.requires.fresh in
    let opens = subst (λ (s : ClientModel). Opens s c.args.opening) (sym c.self.view_is) c.requires.opens in
    let has = subst (λ (f : First). HasFirst c.self.inside.config f) c.in-Asks.is opens.1 in
    first_letter (state_of c.self.inside) c.in-Asks.to.0 c.self.invariant.sound fresh has.0

pub invariant_of-self-in-Asks : goal.invariant_of-self-in-Asks
invariant_of-self-in-Asks c =
    let fresh : IsFresh (state_of c.self.inside) = subst IsFresh (sym c.self.view_is) c.requires.fresh in
    let opens = subst (λ (s : ClientModel). Opens s c.args.opening) (sym c.self.view_is) c.requires.opens in
    let has = subst (λ (f : First). HasFirst c.self.inside.config f) c.in-Asks.is opens.1 in
    let made = c.in_ok-asking.ensures in
    let held = c.spend.new.handles in
    let space : vec_len held + 1 ≤ vec_capacity held = omega (arith, made.held, c.spend.ensures.fewer, c.spend.ensures.room) in
    let config = c.self.inside.config in
    let pending_has = subst (λ (p : Pending). HasRoom config c.in-Asks.room p) (sym c.replace.ensures.after) has.1 in
    let room_has = subst (λ (r : Room). HasRoom config r c.replace.new.dest) (sym c.replace-in-Asks.ensures.after) pending_has in
    asks_inside c.self.inside _ _ c.args.opening.puts _ _ _ c.args.opening.spent _ c.in-Asks.to.0 c.self.invariant fresh opens.0 has.0
    room_has c.write.ensures.counted c.spend.ensures.items made.handles space made.said made.ids

pub invariant_of-self-in-Over : goal.invariant_of-self-in-Over
invariant_of-self-in-Over c =
    let fresh : IsFresh (state_of c.self.inside) = subst IsFresh (sym c.self.view_is) c.requires.fresh in
    let opens = subst (λ (s : ClientModel). Opens s c.args.opening) (sym c.self.view_is) c.requires.opens in
    let free = subst (λ (s : ClientModel). is_free s ≡ true) (sym c.self.view_is) c.requires.free in
    let made = c.in_ok-asking.ensures in
    let push = c.add.ensures in
    let held = c.spend.new.handles in
    let space : vec_len held + 1 ≤ vec_capacity held = omega (arith, made.held, c.spend.ensures.fewer, c.spend.ensures.room) in
    over_inside c.self.inside c.args.opening.puts _ _ c.args.opening.spent _ _ _ c.self.invariant fresh free opens.0 c.spend.ensures.items
    made.handles space push.items made.said push.ids made.ids
