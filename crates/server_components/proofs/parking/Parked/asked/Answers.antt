use Rattle.std.proofs.Common.{◌≡◌, ◌<◌, ◌≤◌, ◌+◌, ◌++◌, List, length, get_or, map, take, drop, set, ap, sym, ◌∙◌, arith}
use Rattle.adlb_unit.specs.declared.names.Rank.{Rank}
use Rattle.adlb_unit.specs.declared.names.WorkType.{WorkType}
use Rattle.std.specs.Prelude.{Option}
use Rattle.server_components.proofs.Rooms.{fills_more}
use Rattle.server_components.proofs.Sound.{waiting_few}
use Rattle.server_components.specs.Calls.{wants}
use Rattle.server_components.specs.inside.Reserving.{parked_of}
use Rattle.server_components.specs.Parked.{ParkedModel}
use Rattle.server_components.specs.declared.waits.Waiting.{Waiting}
use Rattle.server_components.proofs.parking.Parked.asked.Goals as goal

pub listed : goal.listed
listed c =
    let few = waiting_few (parked_of c.self.inside) c.self.invariant.sound c.waits-item.result in
    let long = ap (λ (l : List Waiting). length l) c.as_slice-waiting.ensures.value in
    omega (arith, few, long, c.loop-waits-test.true, c.loop-waits.invariant.0, c.self.inside.config.ranks_within.1)

pub bounds-room-count : goal.bounds-room-count
bounds-room-count c =
    let few = waiting_few (parked_of c.self.inside) c.self.invariant.sound c.waits-item.result in
    let long = ap (λ (l : List Waiting). length l) c.as_slice-waiting.ensures.value in
    omega (arith, few, long, c.loop-waits-test.true, c.loop-waits.invariant.0, c.self.inside.config.ranks_within.1)

pub loop-waits-preserved : goal.loop-waits-preserved
loop-waits-preserved c =
    let items = c.self.inside.waiting.items in
    let e = c.waits-item.result in
    let i = c.loop-waits.waits-index in
    let y : Rank × Option (List WorkType) = (e.wish.rank, c.twin.result) in
    let few = waiting_few (parked_of c.self.inside) c.self.invariant.sound e in
    let long = ap (λ (l : List Waiting). length l) c.as_slice-waiting.ensures.value in
    let within : i < length items = omega (arith, long, c.loop-waits-test.true) in
    let enough : length items ≤ length c.args.room.now = omega (arith, few, c.told-room, c.self.inside.config.ranks_within.1) in
    let view = ap (λ (m : ParkedModel). m.parked.waiting) c.self.view_is in
    let was = c.loop-waits.invariant.1 ∙ ap (λ l. map wants (take i l) ++ drop i c.args.room.now) (sym view) in
    let read : get_or items i e ≡ e = ap (λ l. get_or l i e) (sym c.as_slice-waiting.ensures.value) ∙ sym c.waits-item.is in
    let made : y ≡ wants e = ap (λ (t : Option (List WorkType)). (e.wish.rank, t)) c.twin.ensures in
    let more = fills_more wants items c.args.room.now c.loop-waits.room i e y within enough was read made in
    let place : c.loop-waits.count ≡ i = c.loop-waits.invariant.0 in (
      omega (arith, place),
      ap (λ n. set c.loop-waits.room n y) place ∙ more ∙ ap (λ l. map wants (take (i + 1) l) ++ drop (i + 1) c.args.room.now) view,
    )
