-- A letter of a push at the front of its link is awaited: by the push that stands at its receiver, or by what the bag has of its unit.
use Rattle.std.proofs.Common.{◌≡◌, ◌≢◌, ◌<◌, ℕ, ◌==◌, ◌&&◌, Bool, true, false, List, ◌∷◌, length, Option, Some, None, refl, sym, ap, ◌∙◌}
use Rattle.std.proofs.Common.{arith}
use Rattle.std.specs.Prelude.{option_and_then}
use Rattle.std.specs.Option.{option_map}
use Rattle.std.proofs.lemmas.Bool.{and_from, and_parts, eq-eqb, eqb-true, false_from_ne_true, lt-ltb}
use Rattle.adlb_unit.specs.Ids.{same_unit}
use Rattle.adlb_unit.specs.Links.{is_within, place_of}
use Rattle.adlb_unit.specs.declared.actors.Actor.{Actor}
use Rattle.adlb_unit.specs.declared.actors.Actor.TheVariants as by
use Rattle.adlb_unit.specs.declared.letters.Letter.{Letter}
use Rattle.adlb_unit.specs.declared.messages.Message.{Message}
use Rattle.adlb_unit.specs.declared.messages.Message.TheVariants as tells
use Rattle.adlb_unit.specs.declared.names.Rank.{Rank}
use Rattle.adlb_unit.specs.declared.names.Server.{Server}
use Rattle.adlb_unit.specs.declared.names.UnitId.{UnitId}
use Rattle.adlb_unit.specs.declared.units.Unit.{Unit}
use Rattle.adlb_unit.proofs.Same.{same_unit_from}
use Rattle.bag_ledger.proofs.Tests.{some_is}
use Rattle.bag_ledger.specs.Bag.{Bag, promise_of, unit_of}
use Rattle.bag_ledger.specs.Words.{IsTracked}
use Rattle.bag_ledger.specs.declared.states.Placed.{Placed}
use Rattle.bag_ledger.specs.declared.states.Promise.{Promise as Room}
use Rattle.bag_ledger.specs.declared.states.UnitPlace.{UnitPlace}
use Rattle.bag_ledger.specs.declared.states.UnitPlace.TheVariants.{Free, Pinned, Spent, Travelling}
use Rattle.server_components.specs.Pushes.{is_push_as, is_sent}
use Rattle.server_components.specs.declared.standing.StandingPush.{StandingPush}
use Rattle.server_components.proofs.StandingPushes.{push_is}
use Rattle.work_queue.proofs.Named.{find_listed, find_nothing}
use Rattle.work_queue.specs.Queue.{HasNoUnit, Promise, id_of}
use Rattle.server_law.specs.Agreement.{ServerAgrees, pin_at, room_at, room_for, slot_of}
use Rattle.server_law.specs.Expected.{IsAwaitedFrom}
use Rattle.server_law.specs.Moving.{IsPromisedAt, is_held_at}
use Rattle.server_law.specs.State.{ServerModel, start as new_pool}
use Rattle.core_run.specs.World.{World, link, pool_of, server_named}
use Rattle.core_law.specs.Letters.{one}
use Rattle.core_law.specs.Measures.{due, push_weights, server_weight, weight}
use Rattle.core_law.specs.Pushed.{OfPush}
use Rattle.core_law.specs.Pushes.{is_push, push_as, pushing_to}
use Rattle.core_law.specs.Well.{IsWell}
use Rattle.core_law.proofs.Fifo.{front_held}
use Rattle.core_law.proofs.OwedByRanks.{no_sum}
use Rattle.core_law.proofs.Remote.{one_is}
use Rattle.core_law.proofs.Sums.{one_adds}

-- Where the push began: the push that stands is the one of which the letter tells.

-- the server's push is of this unit to that server, and it was sent or not
abbrev Stands_as : ServerModel → Server → UnitId → Bool → Type 0
Stands_as s to id sent =
    (n : ℕ) × (s.kept.pushing.push ≡ Some (record { to = to; id = id; length = n; sent = sent }))

never : (a b c : Bool) → one (a && (false && (b && c))) ≡ 0
never true b c = refl
never false b c = refl

-- a push of another server weighs nothing here
pub elsewhere : (a t : Server) (id : UnitId) (sent : Bool) (place : ℕ) (o : Option StandingPush) → place ≢ a.0
    → weight (λ (p : StandingPush). one (is_sent sent p.sent && is_push a t id place p.to.0 p.id)) o ≡ 0
elsewhere a t id sent place None differs = refl
elsewhere a t id sent place (Some p) differs =
    let no_one = false_from_ne_true (place == a.0) (λ same. differs (eqb-true place a.0 same)) in
    rw no_one (never (is_sent sent p.sent) (p.to.0 == t.0) (same_unit p.id id))

-- by the weight of what a server holds
stands_by : (a t : Server) (id : UnitId) (sent : Bool) (s : ServerModel) (o : Option StandingPush) → s.kept.pushing.push ≡ o
    → 0 < weight (λ (p : StandingPush). one (is_sent sent p.sent && is_push a t id a.0 p.to.0 p.id)) o → Stands_as s t id sent
stands_by a t id sent s None is some = absurd (omega arith)
stands_by a t id sent s (Some p) is some =
    let all = one_is (is_sent sent p.sent && is_push a t id a.0 p.to.0 p.id) some in
    let parts = and_parts (is_sent sent p.sent) (is_push a t id a.0 p.to.0 p.id) all in
    let more = and_parts (a.0 == a.0) ((p.to.0 == t.0) && same_unit p.id id) parts.1 in
    let both = and_parts (p.to.0 == t.0) (same_unit p.id id) more.1 in
    let its : is_push_as t id sent p ≡ true =
    and_from (p.to.0 == t.0) (same_unit p.id id && is_sent sent p.sent) both.0
    (and_from (same_unit p.id id) (is_sent sent p.sent) both.1 parts.0) in
    (p.length, is ∙ ap (λ (x : StandingPush). Some x) (push_is t id sent p its))

-- a letter of weight 1 at the front of a link
front_stands : (w : World) (a t : Server) (id : UnitId) (sent : Bool) (from to : Actor) (l : Letter) (rest : List Letter) → IsWell w
    → a.0 < w.config.servers → is_within w.config from ≡ true → is_within w.config to ≡ true
    → link w.links (place_of w.config from) (place_of w.config to) ≡ l ∷ rest → push_as a t id sent from to l.message ≡ 1
    → Stands_as (pool_of w a) t id sent
unfolding due
front_stands w a t id sent from to l rest well here f g front weighs =
    let m = push_weights (pushing_to a t id sent) in
    let held = front_held m w from to l rest well.shape f g front in
    let even = (well.push_to a t id sent).same in
    let none = no_sum w.ranks in
    let inside : a.0 < length w.servers = let e = (well.shape).servers in omega arith in
    let only = one_adds (server_weight m.server_due) w.servers a.0 (new_pool w.config a) inside
    (λ i s differs. elsewhere a t id sent i s.kept.pushing.push differs) in
    stands_by a t id sent (pool_of w a) (pool_of w a).kept.pushing.push refl (omega arith)

-- Where the unit goes: what its server has of it, by the bag.

other_server : (a me at : Server) → a ≢ me → (at.0 == a.0) ≡ true → (at.0 == me.0) ≡ false
other_server a me at differs held =
    false_from_ne_true (at.0 == me.0)
    (λ same. differs (ap server_named (sym (eqb-true at.0 a.0 held) ∙ eqb-true at.0 me.0 same)))

-- what is held at another server, or travels, is not here
not_held : (a me : Server) (place : UnitPlace) → a ≢ me → is_held_at a place ≡ true → pin_at me place ≡ None
not_held a me (Free at) differs held = rw (other_server a me at differs held) refl
not_held a me (Pinned at rank) differs held = rw (other_server a me at differs held) refl
not_held a me (Travelling to) differs held = refl
not_held a me Spent differs held = refl

no_unit_here : (b : Bag) (s : ServerModel) (id : UnitId) (u : Placed) → ServerAgrees b s → unit_of b id ≡ Some u
    → pin_at s.me u.place ≡ None → HasNoUnit id s.kept.queue.units
no_unit_here b s id u a found away =
    let slot : slot_of s.me u ≡ None = ap (λ o. option_map (λ (pin : Option Rank). record { unit = u.unit; pin = pin }) o) away in
    find_nothing id_of s.kept.queue.units id (a.units.each id ∙ ap (λ o. option_and_then (slot_of s.me) o) found ∙ slot)

room_here : (b : Bag) (s : ServerModel) (id : UnitId) (p : Room) → ServerAgrees b s → promise_of b id ≡ Some p → p.server ≡ s.me
    → room_for id s.kept.queue.promises ≡ Some (record { id = p.id; length = p.length })
room_here b s id p a found at =
    a.promises id ∙ ap (λ o. option_and_then (room_at s.me) o) found ∙ rw (at, eq-eqb s.me.0 s.me.0 refl) refl

query_awaited : (b : Bag) (s : ServerModel) (from to : Server) (id : UnitId) (n : ℕ) → ServerAgrees b s → from ≢ s.me
    → OfPush b from to (tells.PushQuery id n) → IsAwaitedFrom s from (tells.PushQuery id n)
query_awaited b s from to id n a differs of =
    let held = of.0 in (
      no_unit_here b s id held.unit a held.found (not_held from s.me held.unit.place differs held.held),
      find_nothing (λ (p : Promise). p.id) s.kept.queue.promises id
          (a.promises id ∙ ap (λ o. option_and_then (room_at s.me) o) of.2),
    )

unit_awaited : (b : Bag) (s : ServerModel) (from to : Server) (unit : Unit) → ServerAgrees b s → IsTracked b → s.me ≡ to
    → s.kept.owed ≡ None → OfPush b from to (tells.PushUnit unit) → IsAwaitedFrom s from (tells.PushUnit unit)
unit_awaited b s from to unit a tracked named owed of =
    let u : Placed = record { unit = unit; place = Travelling to } in
    let p = tracked.promised unit.id u to (of, refl) in
    let measured = tracked.measured unit.id p.0 p.1 in
    let same : measured.0 ≡ u = some_is (sym measured.1 ∙ of) in
    let long : p.0.length ≡ length unit.body = sym measured.2 ∙ ap (λ (x : Placed). length x.unit.body) same in
    let room = room_here b s unit.id p.0 a p.1 (p.2 ∙ sym named) in
    let q : Promise = record { id = p.0.id; length = p.0.length } in
    let found = find_listed (λ (x : Promise). x.id) s.kept.queue.promises q unit.id room in (
      no_unit_here b s unit.id u a of refl,
      (found.0.0, q, found.0.1, found.0.2, (found.1, long)),
      owed,
    )

cancel_awaited : (b : Bag) (s : ServerModel) (from to : Server) (id : UnitId) → ServerAgrees b s → s.me ≡ to
    → IsPromisedAt b to id → IsAwaitedFrom s from (tells.PushCancel id)
cancel_awaited b s from to id a named promised =
    let p = promised.room in
    let room = room_here b s id p a promised.found (promised.here ∙ sym named) in
    let found = find_listed (λ (x : Promise). x.id) s.kept.queue.promises (record { id = p.id; length = p.length }) id room in
    (found.0.0, record { id = p.id; length = p.length }, found.0.1, found.0.2, found.1)

-- Each of the six letters.

-- what is so where one comes: its weight on its link, by its message
own_push : (a t : Server) (id : UnitId) → is_push a t id a.0 t.0 id ≡ true
own_push a t id = rw (eq-eqb a.0 a.0 refl, eq-eqb t.0 t.0 refl, same_unit_from id id refl) refl

-- the letter is of a push
abbrev pub IsOfPushes : Message → Type 0
IsOfPushes (tells.PushQuery id n) = Prim.Unit {0}
IsOfPushes (tells.PushYes id) = Prim.Unit {0}
IsOfPushes (tells.PushNo id) = Prim.Unit {0}
IsOfPushes (tells.PushUnit unit) = Prim.Unit {0}
IsOfPushes (tells.PushCancel id) = Prim.Unit {0}
IsOfPushes (tells.PushAck id) = Prim.Unit {0}
IsOfPushes _ = ⊥

-- a letter of a push at the front of its link is awaited
pub push_awaited : (w : World) (b : Bag) (from me : Server) (l : Letter) (rest : List Letter) (m : Message) → IsWell w → IsTracked b
    → ServerAgrees b (pool_of w me) → (pool_of w me).kept.owed ≡ None → from.0 < w.config.servers → me.0 < w.config.servers
    → from ≢ (pool_of w me).me
    → link w.links (place_of w.config (by.Server from)) (place_of w.config (by.Server me)) ≡ l ∷ rest → l.message ≡ m
    → OfPush b from me m → IsOfPushes m → IsAwaitedFrom (pool_of w me) from m
push_awaited w b from me l rest m well tracked a owed there here differs front says of is = by_message m says of is
  where
    s : ServerModel
    s = pool_of w me

    f : is_within w.config (by.Server from) ≡ true
    f = lt-ltb from.0 w.config.servers there

    t : is_within w.config (by.Server me) ≡ true
    t = lt-ltb me.0 w.config.servers here

    named : s.me ≡ me
    named = (well.own.servers me here).me

    stands : (id : UnitId) (sent : Bool) (x : Message) → l.message ≡ x
        → push_as me from id sent (by.Server from) (by.Server me) x ≡ 1 → Stands_as s from id sent
    stands id sent x says weighs =
        front_stands w me from id sent (by.Server from) (by.Server me) l rest well here f t front
        (ap (push_as me from id sent (by.Server from) (by.Server me)) says ∙ weighs)

    by_message : (x : Message) → l.message ≡ x → OfPush b from me x → IsOfPushes x → IsAwaitedFrom s from x
    by_message (tells.PushQuery id n) says of is = query_awaited b s from me id n a differs of
    by_message (tells.PushYes id) says of is = stands id false (tells.PushYes id) says (ap one (own_push me from id))
    by_message (tells.PushNo id) says of is = stands id false (tells.PushNo id) says (ap one (own_push me from id))
    by_message (tells.PushAck id) says of is = stands id true (tells.PushAck id) says (ap one (own_push me from id))
    by_message (tells.PushUnit unit) says of is = unit_awaited b s from me unit a tracked named owed of
    by_message (tells.PushCancel id) says of is = cancel_awaited b s from me id a named of.1
    by_message _ says of is = absurd is
