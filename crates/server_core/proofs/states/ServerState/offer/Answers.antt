use Rattle.server_core.proofs.Prelude.{◌∙◌, ◌≡◌, All, All-contains, Option, ParkedModel, Placed, Rank, Some, UnitNote, ap, closes, find}
use Rattle.server_core.proofs.Prelude.{free_is, free_there, given, given_pins, gone_if, gone_if_stays, granted, id_of, is_free_as}
use Rattle.server_core.proofs.Prelude.{option_map, parked_at, parked_is, parked_of, seat_at, seen, taker_of, ℕ}
use Rattle.server_core.proofs.states.ServerState.offer.Goals as goal
use Rattle.server_core.proofs.states.ServerState.offer.Goals.{After-offer}

-- what is so of each unit of the id is so of the free one
offers : (c : After-offer) (P : Placed → Type 0) (p : Placed) → find (is_free_as c.args.id) c.args.self.now.kept.queue.units ≡ Some p
    → All (λ u. id_of u ≡ c.args.id → P u) c.self.inside.queue.units → P p
offers c P p found all =
    let is = free_is c.args.id c.self.inside.queue.units p (rw (← c.self.view_is) at found) in
    All-contains (λ u. id_of u ≡ c.args.id → P u) c.self.inside.queue.units p all is.2 is.0

-- so it is of what waits, and of the queue
abbrev Parks : After-offer → Placed → Type 0
Parks c u = c.offer.new.self ≡ gone_if c.self.inside.parked (taker_of u.unit c.self.inside.parked)

abbrev Pins : After-offer → Placed → Type 0
Pins c u = c.offer.new.queue ≡ given (taker_of u.unit c.self.inside.parked) u c.self.inside.queue

pub offer-requires : goal.offer-requires
offer-requires c = rw (← c.self.view_is) at c.requires

pub invariant_of-self : goal.invariant_of-self
invariant_of-self c =
    let d = (goal.at.invariant_of-self c).After-offer in
    let p = free_there c.args.id c.args.self.now.kept.queue.units c.requires in
    let who = taker_of p.0.unit c.self.inside.parked in
    closes c.self.invariant (offers d (Parks d) p.0 p.1 c.offer.ensures.parked) (gone_if_stays (parked_is c.self.invariant) who)
    (offers d (Pins d) p.0 p.1 c.offer.ensures.queue) (given_pins who p.0 c.self.inside.queue)

pub returns-clause-given : goal.returns-clause-given
returns-clause-given c p found =
    let told : ParkedModel → Placed → Option (Rank × ℕ × UnitNote) = λ m u. option_map (granted m.me u.unit) (taker_of u.unit m) in
    offers (goal.at.returns-clause-given c).After-offer (λ u. c.offer.result ≡ told c.self.inside.parked u) p found c.offer.ensures.given
    ∙ ap (λ m. told m p) (parked_at c.self.invariant c.self.view_is)

pub returns-clause-made : goal.returns-clause-made
returns-clause-made c p found =
    let d = (goal.at.returns-clause-made c).After-offer in
    let queue = offers d (Pins d) p found c.offer.ensures.queue in
    seat_at c.self.invariant c.self.view_is (λ u. given (taker_of p.unit (parked_of u)) p u.kept.queue)
    (λ u m. gone_if m (taker_of p.unit m)) (offers d (Parks d) p found c.offer.ensures.parked)
    (queue ∙ ap (λ m. given (taker_of p.unit m) p c.self.inside.queue) (seen c.self.invariant))
