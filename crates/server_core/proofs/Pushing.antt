-- The letters of pushes: what a server makes of them.
use Rattle.std.proofs.Common.{◌≡◌, ◌≤◌, ◌+◌, ℕ, Bool, true, false, cond, [], ◌∷◌, find, Option, None, Some, All, refl, sym, ap, ◌∙◌, subst}
use Rattle.std.proofs.lemmas.Bool.{le-ltb, lt-ltb}
use Rattle.std.proofs.lemmas.List.Elements.{All-contains}
use Rattle.adlb_unit.specs.declared.actors.Actor.TheVariants as by
use Rattle.adlb_unit.specs.declared.messages.Message.TheVariants as tells
use Rattle.adlb_unit.specs.declared.names.Rank.{Rank}
use Rattle.adlb_unit.specs.declared.names.Server.{Server}
use Rattle.adlb_unit.specs.declared.names.UnitId.{UnitId}
use Rattle.adlb_unit.specs.declared.units.Unit.{Unit}
use Rattle.bag_ledger.specs.declared.entries.Entry.TheVariants as enters
use Rattle.bag_ledger.proofs.Tests.{some_is}
use Rattle.work_queue.specs.Queue.{HasFree, Queue, charge_of, id_of, without, without_promise}
use Rattle.work_queue.specs.declared.placing.Placed.{Placed}
use Rattle.server_components.specs.Pushes.{IsPromise, PushModel, Pushing, asks_room, has_sent, with_push, with_pushing}
use Rattle.server_components.proofs.StandingPushes.{push_from}
use Rattle.server_law.specs.Acts.{Cancels, Promises, Refuses_push, Sends_unit, Withdraws, does, to_server}
use Rattle.server_law.specs.Carried.{Served, counted, posted}
use Rattle.server_law.specs.Finding.{exceeds, has_promise, is_free_as}
use Rattle.server_law.specs.Plan.{Plan, plan}
use Rattle.server_law.specs.Presses.{presses}
use Rattle.server_law.specs.Pushes.{answer_query, cancel_rule, expects_query, query_rule, sends as sends_on, yes_at, yes_rule}
use Rattle.server_law.specs.Puts.{expects_put, is_taken, put_now, put_rule, settles}
use Rattle.server_law.specs.State.{ServerModel}
use Rattle.server_law.proofs.Found.{free_is, free_there, none_free}
use Rattle.server_core.specs.inside.{IsInside, IsSound, bytes_in, state_of}
use Rattle.server_core.specs.Out.{HasRoom, Out, going_on, made, planned, with_answer, with_letter}
use Rattle.server_core.specs.declared.states.ServerState.TheInside.{Inside}
use Rattle.server_core.proofs.Going.{answers_only, decides, goes_on, plan_if, says_only}
use Rattle.server_core.proofs.Sounds.{IsPinned}

-- the server with this queue and this push
abbrev pub moved : ServerModel → Queue → Pushing → ServerModel
moved s queue pushing = record s { kept = record s.kept { queue = queue; pushing = pushing } }

-- room stays where only the queue and the pushes change
pub room_moved : {s : ServerModel} {out : Out} {n : ℕ} (queue : Queue) (pushing : Pushing) → HasRoom s out n
    → HasRoom (moved s queue pushing) out n
room_moved queue pushing room = record { tells = room.tells; places = room.places }

-- A put: it is answered, the unit is settled, and a push begins where it may.
pub puts_goes : (s t u v : ServerModel) (out mid end last : Out) (from : Rank) (unit : Unit)
    → made t mid ≡ going_on out (put_now s.kept unit ∷ []) s → made u end ≡ going_on mid (settles unit.id t) t
    → made v last ≡ going_on end (presses (is_taken s.kept unit) u) u
    → (p : Plan) → put_rule s from unit ≡ Some p → made v last ≡ planned out p s
puts_goes s t u v out mid end last from unit answered settled pressed p is =
    let first : Plan = record { first = put_now s.kept unit; follow = [] } in
    let next : Plan = record { first = put_now s.kept unit; follow = settles unit.id ∷ [] } in
    let press = presses (is_taken s.kept unit) in
    let then = goes_on (settles unit.id ∷ []) first s t u out mid end answered (decides (settles unit.id) t u mid end settled) in
    let all = goes_on (press ∷ []) next s u v out end last then (decides press u v end last pressed) in
    plan_if (expects_put s from unit) (put_now s.kept unit) (settles unit.id ∷ press ∷ []) s out (made v last) all p is

-- What is so of the server stays so.

moved_sound : (s : ServerModel) (queue : Queue) (pushing : Pushing) → IsSound s → queue.arrivals ≤ s.clock
    → queue.common ≡ s.kept.queue.common → IsSound (moved s queue pushing)
moved_sound s queue pushing sound arrivals same = record {
  finished = sound.finished;
  actors = sound.actors;
  parked = sound.parked;
  arrivals = arrivals;
  charged = subst (λ n. bytes_in s.kept.parts ≤ n) (sym same) sound.charged;
  check = sound.check;
  activity = sound.activity;
  sent = sound.sent;
  clock = sound.clock;
}

-- a server is sound with another queue of its pins and another push
pub moved_inside : {i : Inside} {n : PushModel} {queue after : Queue} (pushing : Pushing) → IsInside i → n ≡ with_pushing i.pushes pushing
    → queue ≡ after → IsPinned i.queue after → IsInside (record i { queue = queue; pushes = n })
moved_inside {i} {n} {queue} pushing inside is now pins = record {
  sound = moved_sound (state_of i) queue n.pushing inside.sound
      (subst (λ k. k ≤ i.clock) (sym (ap (λ (q : Queue). q.arrivals) now ∙ pins.arrivals)) inside.sound.arrivals)
      (ap (λ (q : Queue). q.common) now ∙ pins.common);
  config = inside.config;
  me = inside.me;
  push_config = ap (λ (m : PushModel). m.config) is ∙ inside.push_config;
  push_me = ap (λ (m : PushModel). m.me) is ∙ inside.push_me;
  ring_config = inside.ring_config;
  ring_me = inside.ring_me;
}

-- The unit goes, or a cancel.

module _ (s : ServerModel) (out : Out) (from : Server) (id : UnitId) (n : ℕ)
    (stands : s.kept.pushing.push ≡ Some (asks_room from id n)) where
  yes_is : (o : Option Placed) → find (is_free_as id) s.kept.queue.units ≡ o → yes_rule s from id ≡ plan (sends_on from id n o) []
  yes_is o found =
      ap (λ push. yes_at from id push (find (is_free_as id) s.kept.queue.units)) stands
      ∙ ap (λ t. cond t (plan (sends_on from id n (find (is_free_as id) s.kept.queue.units)) []) None) (push_from from id n false)
      ∙ ap (λ q. plan (sends_on from id n q) []) found

  -- a free unit for which there is room is sent as the rule says
  pub sends_goes : (unit : Unit) {queue : Queue} {pushing : Pushing} → HasFree id s.kept.queue.units
      → All (λ p. id_of p ≡ id → unit ≡ p.unit) s.kept.queue.units → queue ≡ without s.kept.queue id
      → pushing ≡ with_push s.kept.pushing (Some (has_sent from id n)) → {t : ServerModel} {last : Out}
      → t ≡ counted (moved s queue pushing) (by.Server from)
      → last ≡ with_answer out (posted (moved s queue pushing) (to_server from (tells.PushUnit unit))) (enters.Left s.me from unit.id)
      → (p : Plan) → yes_rule s from id ≡ Some p → made t last ≡ planned out p s
  sends_goes unit {queue} {pushing} free own gone sent {t} {last} after told p is =
      let u = free_there id s.kept.queue.units free in
      let at = free_is id s.kept.queue.units u.0 u.1 in
      let P : Placed → Type 0 = λ q. id_of q ≡ id → unit ≡ q.unit in
      let same : unit ≡ u.0.unit = All-contains P s.kept.queue.units u.0 own at.2 at.0 in
      let named : unit.id ≡ id = ap (λ (w : Unit). w.id) same ∙ at.0 in
      let a = Sends_unit from n unit in
      let x = to_server from (tells.PushUnit unit) in
      let left = enters.Left s.me from unit.id in
      let D : UnitId → ServerModel = λ k. moved s (without s.kept.queue k) (with_push s.kept.pushing (Some (has_sent from k n))) in
      let seat : moved s queue pushing ≡ does a s =
      ap (λ q. moved s q pushing) gone ∙ ap (λ r. moved s (without s.kept.queue id) r) sent ∙ ap D (sym named) in
      let now = after ∙ ap (λ v. counted v (by.Server from)) seat in
      let letter = told ∙ ap (λ v. with_answer out (posted v x) left) seat in
      let goes = answers_only a s out x left refl refl in
      let rule = yes_is (Some u.0) u.1 ∙ ap (λ w. plan (Sends_unit from n w) []) (sym same) in
      subst (λ r. made t last ≡ planned out r s) (some_is (sym rule ∙ is)) (rw (now, letter) goes)

  -- a unit that is no longer free is cancelled as the rule says
  pub cancels_goes : {queue : Queue} {pushing : Pushing} → (HasFree id s.kept.queue.units → ⊥) → queue ≡ s.kept.queue
      → pushing ≡ with_push s.kept.pushing (Some (has_sent from id n)) → {t : ServerModel} {last : Out}
      → t ≡ counted (moved s queue pushing) (by.Server from)
      → last ≡ with_letter out (posted (moved s queue pushing) (to_server from (tells.PushCancel id)))
      → (p : Plan) → yes_rule s from id ≡ Some p → made t last ≡ planned out p s
  cancels_goes {queue} {pushing} unfree same sent {t} {last} after told p is =
      let a = Cancels from id n in
      let x = to_server from (tells.PushCancel id) in
      let seat : moved s queue pushing ≡ does a s =
      ap (λ q. moved s q pushing) same ∙ ap (λ r. moved s s.kept.queue r) sent in
      let now = after ∙ ap (λ v. counted v (by.Server from)) seat in
      let letter = told ∙ ap (λ v. with_letter out (posted v x)) seat in
      let goes = says_only a s out x refl refl in
      let rule = yes_is None (none_free id s.kept.queue.units unfree) in
      subst (λ r. made t last ≡ planned out r s) (some_is (sym rule ∙ is)) (rw (now, letter) goes)

-- Room is promised where there is some, and otherwise refused.
module _ (s : ServerModel) (out : Out) (from : Server) (id : UnitId) (n : ℕ) (queue : Queue) (t : ServerModel) (last : Out)
    (after : t ≡ counted (moved s queue s.kept.pushing) (by.Server from)) where
  abbrev now : ServerModel
  now = moved s queue s.kept.pushing

  -- a query for which there is room is promised as the rule says
  pub promises_goes : IsPromise s.kept.queue id n true queue
      → last ≡ with_answer out (posted now (to_server from (tells.PushYes id))) (enters.Promised s.me id n)
      → (p : Plan) → query_rule s from id n ≡ Some p → made t last ≡ planned out p s
  promises_goes promised told =
      let a = Promises from id n in
      let x = to_server from (tells.PushYes id) in
      let e = enters.Promised s.me id n in
      let seat : moved s queue s.kept.pushing ≡ does a s = ap (λ q. moved s q s.kept.pushing) promised.1 in
      let state = after ∙ ap (λ v. counted v (by.Server from)) seat in
      let letter = told ∙ ap (λ v. with_answer out (posted v x) e) seat in
      let fits : exceeds s.kept.queue n ≡ false = le-ltb s.kept.queue.limit (charge_of s.kept.queue + n) promised.0 in
      let Q : Bool → Served = λ b. planned out (record { first = answer_query b from id n; follow = [] }) s in
      plan_if (expects_query s.kept id) (answer_query (exceeds s.kept.queue n) from id n) [] s out (made t last)
      (rw (state, letter) (answers_only a s out x e refl refl) ∙ ap Q (sym fits))

  -- a query for which there is no room is refused as the rule says
  pub refuses_goes : IsPromise s.kept.queue id n false queue → last ≡ with_letter out (posted now (to_server from (tells.PushNo id)))
      → (p : Plan) → query_rule s from id n ≡ Some p → made t last ≡ planned out p s
  refuses_goes full told =
      let a = Refuses_push from id n in
      let x = to_server from (tells.PushNo id) in
      let seat : moved s queue s.kept.pushing ≡ does a s = ap (λ q. moved s q s.kept.pushing) full.1 in
      let state = after ∙ ap (λ v. counted v (by.Server from)) seat in
      let letter = told ∙ ap (λ v. with_letter out (posted v x)) seat in
      let over : exceeds s.kept.queue n ≡ true = lt-ltb s.kept.queue.limit (charge_of s.kept.queue + n) full.0 in
      let Q : Bool → Served = λ b. planned out (record { first = answer_query b from id n; follow = [] }) s in
      plan_if (expects_query s.kept id) (answer_query (exceeds s.kept.queue n) from id n) [] s out (made t last)
      (rw (state, letter) (says_only a s out x refl refl) ∙ ap Q (sym over))

-- The promise is taken back.
pub withdraws_goes : (s : ServerModel) (out : Out) (from : Server) (id : UnitId) {queue : Queue}
    → queue ≡ without_promise s.kept.queue id → {t : ServerModel} {last : Out}
    → t ≡ counted (moved s queue s.kept.pushing) (by.Server from)
    → last ≡ with_answer out (posted (moved s queue s.kept.pushing) (to_server from (tells.PushAck id))) (enters.Withdrawn s.me id)
    → (p : Plan) → cancel_rule s from id ≡ Some p → made t last ≡ planned out p s
withdraws_goes s out from id {queue} gone {t} {last} after told p is =
    let a = Withdraws from id in
    let x = to_server from (tells.PushAck id) in
    let seat : moved s queue s.kept.pushing ≡ does a s = ap (λ q. moved s q s.kept.pushing) gone in
    let now = after ∙ ap (λ v. counted v (by.Server from)) seat in
    let letter = told ∙ ap (λ v. with_answer out (posted v x) (enters.Withdrawn s.me id)) seat in
    let goes = answers_only a s out x (enters.Withdrawn s.me id) refl refl in
    plan_if (has_promise id s.kept.queue.promises) a [] s out (made t last) (rw (now, letter) goes) p is
