-- A step of the bag leaves its agreement with each server that is not the entry's keeper.
use Rattle.std.proofs.Common.{◌≡◌, ◌≢◌, ℕ, ◌+◌, ◌==◌, Bool, true, false, cond, List, [], ◌∷◌, ◌++◌, find, Option, Some, None, refl, sym, ap}
use Rattle.std.proofs.Common.{◌∙◌, subst, arith}
use Rattle.std.specs.Prelude.{option_and_then}
use Rattle.std.specs.Option.{option_or}
use Rattle.std.proofs.lemmas.Bool.{eqb-true, false_from_ne_true}
use Rattle.std.proofs.lemmas.List.Folds.{find-append}
use Rattle.std.proofs.lemmas.List.Sums.{sum_by_push}
use Rattle.adlb_unit.specs.Ids.{same_unit}
use Rattle.adlb_unit.specs.declared.names.Rank.{Rank}
use Rattle.adlb_unit.specs.declared.names.Server.{Server}
use Rattle.adlb_unit.specs.declared.names.UnitId.{UnitId}
use Rattle.adlb_unit.specs.declared.units.Unit.{Unit}
use Rattle.adlb_unit.proofs.Same.{same_unit_is}
use Rattle.bag_ledger.specs.Bag.{Bag, part_charge, part_of, promise_charge, promise_of, putting, rank_at, unit_of}
use Rattle.bag_ledger.specs.Steps.{LegalWhere, after, kept, moved, new_part, taken, unpromised, with_part}
use Rattle.bag_ledger.specs.declared.entries.Entry.{Entry}
use Rattle.bag_ledger.specs.declared.entries.Entry.TheVariants as enters
use Rattle.bag_ledger.specs.declared.states.Part.{Part}
use Rattle.bag_ledger.specs.declared.states.Placed.{Placed}
use Rattle.bag_ledger.specs.declared.states.Promise.{Promise}
use Rattle.bag_ledger.specs.declared.states.RankState.{RankState}
use Rattle.bag_ledger.specs.declared.states.UnitPlace.{UnitPlace}
use Rattle.bag_ledger.specs.declared.states.UnitPlace.TheVariants.{Free, Travelling, Pinned, Spent}
use Rattle.bag_ledger.proofs.Charge.{unit_put}
use Rattle.bag_ledger.proofs.Lookups.{find_filtered, sum_changed}
use Rattle.bag_ledger.proofs.Moves.{unpromised_other}
use Rattle.bag_law.specs.Sound.{IsSoundBag, PromisesAreSingle}
use Rattle.bag_law.proofs.Batches.{put_is_open}
use Rattle.bag_law.proofs.Ids.{begun_part_is_new}
use Rattle.bag_ledger.specs.declared.states.Status.TheVariants as is_at
use Rattle.bag_ledger.proofs.Tests.{some_is}
use Rattle.adlb_unit.specs.declared.names.BatchId.{BatchId}
use Rattle.adlb_unit.specs.declared.names.CommonRef.{CommonRef}
use Rattle.bag_law.proofs.Facts.{sum_single}
use Rattle.bag_law.proofs.Plain.{kept_is}
use Rattle.server_law.specs.Agreement.{ServerAgrees, of_batch, part_at, pin_at, room_at, room_for}
use Rattle.server_law.specs.Legal.{IsOpen, ServersStay, keeper}
use Rattle.server_components.specs.Store.{part_in}
use Rattle.server_law.specs.State.{ServerModel}
use Rattle.server_law.proofs.Components.{holds_more, known_agrees, parts_agree, promises_agree, seen_kept, shared_agrees, units_agree}
use Rattle.server_law.proofs.Lodging.{holds_beside, holds_passing}
use Rattle.server_law.proofs.Rooms.{AreRooms, sum_off}

abbrev server_of : ℕ → Server
server_of n = record { 0 = n }

-- the keeper is another server
elsewhere : (me other : Server) → Some other ≢ Some me → (other.0 == me.0) ≡ false
elsewhere me other differs =
    false_from_ne_true (other.0 == me.0) (λ same. differs (ap (λ n. Some (server_of n)) (eqb-true other.0 me.0 same)))

free_away : (me other : Server) (place : UnitPlace) → (other.0 == me.0) ≡ false → place ≡ Free other → pin_at me place ≡ None
free_away me other place away is = rw (is, away) refl

pinned_away : (me other : Server) (rank : Rank) (place : UnitPlace) → (other.0 == me.0) ≡ false → place ≡ Pinned other rank
    → pin_at me place ≡ None
pinned_away me other rank place away is = rw (is, away) refl

-- Units.

added : (b : Bag) (s : ServerModel) (u : Placed) → pin_at s.me u.place ≡ None → ServerAgrees b s
    → ServerAgrees (record b { units = b.units ++ u ∷ [] }) s
added b s u away m =
    units_agree b s (b.units ++ u ∷ []) s.kept.queue.units s.kept.queue.arrivals m
    (holds_beside b.units s.me s.kept.queue.units u m.units away)

passes : (b : Bag) (s : ServerModel) (id : UnitId) (place : UnitPlace) (u : Placed) → unit_of b id ≡ Some u → pin_at s.me u.place ≡ None
    → pin_at s.me place ≡ None → ServerAgrees b s → ServerAgrees (moved id place b) s
passes b s id place u found was is m =
    units_agree b s (moved id place b).units s.kept.queue.units s.kept.queue.arrivals m
    (holds_passing b.units s.me s.kept.queue.units id place u m.units found was is)

-- Promises.

no_room : (me : Server) (p : Promise) → (p.server.0 == me.0) ≡ false → room_at me p ≡ None
no_room me p away = rw away refl

no_charge : (me : Server) (p : Promise) → (p.server.0 == me.0) ≡ false → promise_charge me p ≡ 0
no_charge me p away = rw away refl

promises : (b : Bag) (s : ServerModel) (p : Promise) → (p.server.0 == s.me.0) ≡ false → ServerAgrees b s
    → ServerAgrees (record b { promises = b.promises ++ p ∷ [] }) s
promises b s p away m =
    let more = sum_by_push (promise_charge s.me) b.promises p in
    let none = no_charge s.me p away in
    promises_agree b s (b.promises ++ p ∷ []) m rooms (omega arith)
  where
    rooms : AreRooms (b.promises ++ p ∷ []) s.me s.kept.queue.promises
    rooms id = rw (find-append test b.promises (p ∷ [])) (by_found (find test b.promises) (m.promises id))
      where
        test : Promise → Bool
        test q = same_unit q.id id

        by_found : (o : Option Promise) → room_for id s.kept.queue.promises ≡ option_and_then (room_at s.me) o
            → room_for id s.kept.queue.promises ≡ option_and_then (room_at s.me) (option_or o (cond (test p) (Some p) None))
        by_found (Some q) is = is
        by_found None is = is ∙ by_test (test p)
          where
            by_test : (t : Bool) → None ≡ option_and_then (room_at s.me) (cond t (Some p) None)
            by_test true = sym (no_room s.me p away)
            by_test false = refl

unpromises : (b : Bag) (s : ServerModel) (id : UnitId) (p : Promise) → PromisesAreSingle b.promises → promise_of b id ≡ Some p
    → (p.server.0 == s.me.0) ≡ false → ServerAgrees b s → ServerAgrees (unpromised id b) s
unpromises b s id p single found away m =
    let off = sum_off (promise_charge s.me) test b.promises in
    let one = sum_single (promise_charge s.me) test b.promises p found (single.each id) in
    let none = no_charge s.me p away in
    promises_agree b s (unpromised id b).promises m rooms (omega arith)
  where
    test : Promise → Bool
    test q = same_unit q.id id

    rooms : AreRooms (unpromised id b).promises s.me s.kept.queue.promises
    rooms other = by_id (same_unit id other) refl
      where
        here : room_for id s.kept.queue.promises ≡ option_and_then (room_at s.me) (promise_of (unpromised id b) id)
        here =
            let before = m.promises id ∙ ap (λ o. option_and_then (room_at s.me) o) found ∙ no_room s.me p away in
            rw (find_filtered test b.promises) before

        by_id : (t : Bool) → same_unit id other ≡ t
            → room_for other s.kept.queue.promises ≡ option_and_then (room_at s.me) (promise_of (unpromised id b) other)
        by_id true same =
            subst (λ k. room_for k s.kept.queue.promises ≡ option_and_then (room_at s.me) (promise_of (unpromised id b) k))
            (same_unit_is id other same) here
        by_id false differs = rw (unpromised_other b id other differs) (m.promises other)

-- Common parts.

-- a pending put shares an open part, if any
pub put_shares_open : (b : Bag) → IsSoundBag b → (rank : Rank) (r : RankState) (u : Unit) → rank_at b rank ≡ Some r
    → r.status ≡ is_at.Putting u
    → IsOpen b u.common
put_shares_open b sound rank r u there puts = by_common u.common refl
  where
    by_common : (o : Option CommonRef) → u.common ≡ o → IsOpen b o
    by_common None is = tt
    by_common (Some c) is = λ p found.
        let has = put_is_open b.ranks b.parts rank.0 r u c there puts is sound.batches in
        let same : has.0 ≡ p = some_is (sym has.1 ∙ found) in
        subst (λ (q : Part). q.closed ≡ false) same has.2

-- no part is there of a batch that begins
pub begun_is_new : (b : Bag) → IsSoundBag b → (batch : BatchId) (r : RankState) (common : List ℕ) → rank_at b batch.rank ≡ Some r
    → r.status ≡ is_at.Keeping batch.number common → part_of b batch ≡ None
begun_is_new b sound batch r common there keeps = begun_part_is_new b.ranks b.units b.parts batch r common there keeps sound.ids

-- a part of another server is changed
part_away : (b : Bag) (s : ServerModel) (batch : BatchId) (p : Part) (g : Part → Part) → ((q : Part) → (g q).batch ≡ q.batch)
    → ((q : Part) → (g q).server ≡ q.server) → ((q : Part) → (g q).common ≡ q.common) → part_of b batch ≡ Some p
    → (p.server.0 == s.me.0) ≡ false → ServerAgrees b s → ServerAgrees (with_part batch g b) s
part_away b s batch p g same stays whole found away m =
    let change = sum_changed (part_charge s.me) g (of_batch batch) b.parts p found in
    let moved : ((g p).server.0 == s.me.0) ≡ false = rw (stays p) away in
    let before : part_charge s.me p ≡ 0 = rw away refl in
    let now : part_charge s.me (g p) ≡ 0 = rw moved refl in
    let charged = m.common in
    let unseen : part_at s.me (g p) ≡ part_at s.me p = rw (moved, away) refl in
    parts_agree b s (with_part batch g b).parts s.kept.parts s.kept.queue.common m
    (λ other. m.parts other ∙ sym (seen_kept s.me batch other g same b.parts (λ q is.
    subst (λ (x : Part). part_at s.me (g x) ≡ part_at s.me x) (some_is (sym found ∙ is)) unseen)))
    (omega arith)

-- Entries.

entry_stays : (found : Bag → Bool) (b : Bag) (e : Entry) (s : ServerModel) → IsSoundBag b → LegalWhere found b e → keeper e ≢ Some s.me
    → ServerAgrees b s → ServerAgrees (after b e) s
entry_stays found b (enters.Accepted server id) s sound l differs m =
    let put = unit_put (λ (r : RankState). putting r.status) (rank_at b id.rank) l.0 l.1 l.2 (rw l.3 refl) in
    let u : Placed = record { unit = l.1; place = Free server } in
    let more : ServerAgrees (record b { units = b.units ++ u ∷ [] }) s =
    added b s u (free_away s.me server (Free server) (elsewhere s.me server differs) refl) m in
    let is_open : IsOpen b l.1.common = put_shares_open b sound id.rank l.0 l.1 l.2 l.3 in
    let all : ServerAgrees (taken server (Some l.1) b) s =
    shared_agrees (record b { units = b.units ++ u ∷ [] }) s l.1.common is_open more in
    subst (λ (o : Option Unit). ServerAgrees (taken server o b) s) (sym put) all
entry_stays found b (enters.Kept server batch) s sound l differs m =
    let part = new_part server batch l.1 in
    let away = elsewhere s.me server differs in
    let none : part_charge s.me part ≡ 0 = rw away refl in
    let more = sum_by_push (part_charge s.me) b.parts part in
    let charged = m.common in
    let unseen : part_at s.me part ≡ None = rw away refl in
    let new : part_of b batch ≡ None = begun_is_new b sound batch l.0 l.1 l.2 l.3 in
    let nothing : part_in s.kept.parts batch ≡ part_at s.me part =
    m.parts batch ∙ ap (λ o. option_and_then (part_at s.me) o) new ∙ sym unseen in
    let holds = holds_more b.parts s.me s.kept.parts s.kept.parts part new m.parts nothing (λ other differs. refl) in
    let all : ServerAgrees (kept server batch (Some (batch.number, l.1)) b) s =
    parts_agree b s (b.parts ++ part ∷ []) s.kept.parts s.kept.queue.common m holds (omega arith) in
    subst (λ (n : Bag). ServerAgrees n s) (sym (kept_is b server batch l)) all
entry_stays found b (enters.Closed server batch) s sound l differs m =
    let away : (l.3.server.0 == s.me.0) ≡ false = rw l.8.2 (elsewhere s.me server differs) in
    part_away b s batch l.3 (λ p. record p { closed = true }) (λ p. refl) (λ p. refl) (λ p. refl) l.8.1 away m
entry_stays found b (enters.Freed server batch) s sound l differs m =
    let p = l.0 in
    let g : Part → Part = λ q. record q { freed = true } in
    let away : (p.server.0 == s.me.0) ≡ false = rw (l.1.2) (elsewhere s.me server differs) in
    part_away b s batch p g (λ q. refl) (λ q. refl) (λ q. refl) l.1.1 away m
entry_stays found b (enters.Granted server rank call id) s sound l differs m =
    let away = elsewhere s.me server differs in
    passes b s id (Pinned server rank) l.2 l.6.0 (free_away s.me server l.2.place away l.6.1)
    (pinned_away s.me server rank (Pinned server rank) away refl) m
entry_stays found b (enters.Fetched server rank id) s sound l differs m =
    passes b s id Spent l.2 l.6.0 (pinned_away s.me server rank l.2.place (elsewhere s.me server differs) l.6.1) refl m
entry_stays found b (enters.CommonFetched server rank batch) s sound l differs m =
    let away : (l.5.server.0 == s.me.0) ≡ false = rw l.11.2 (elsewhere s.me server differs) in
    part_away b s batch l.5 (λ p. record p { fetched = p.fetched + 1 }) (λ p. refl) (λ p. refl) (λ p. refl) l.11.1 away m
entry_stays found b (enters.Promised server id n) s sound l differs m =
    promises b s (record { server = server; id = id; length = n }) (elsewhere s.me server differs) m
entry_stays found b (enters.Left server to id) s sound l differs m =
    passes b s id (Travelling to) l.0 l.2.0 (free_away s.me server l.0.place (elsewhere s.me server differs) l.2.1) refl m
entry_stays found b (enters.Arrived server id) s sound l differs m =
    let away = elsewhere s.me server differs in
    let p = sound.tracked.promised id l.0 server l.1 in
    let at : (p.0.server.0 == s.me.0) ≡ false = rw p.2 away in
    let gone : pin_at s.me l.0.place ≡ None = rw l.1.1 refl in
    let here : ServerAgrees (moved id (Free server) b) s =
    passes b s id (Free server) l.0 l.1.0 gone (free_away s.me server (Free server) away refl) m in
    unpromises (moved id (Free server) b) s id p.0 sound.single p.1 at here
entry_stays found b (enters.Withdrawn server id) s sound l differs m =
    let at : (l.1.server.0 == s.me.0) ≡ false = rw l.6 (elsewhere s.me server differs) in
    unpromises b s id l.1 sound.single l.5 at m
entry_stays found b (enters.Done rank call) s sound l differs m =
    known_agrees b s true b.exhausted s.kept.done s.kept.exhausted m (λ is. refl) m.exhausted m.found
entry_stays found b enters.Exhausted s sound l differs m =
    known_agrees b s b.done true s.kept.done s.kept.exhausted m m.done (λ is. refl)
    (λ zeroth is. absurd (differs (ap (λ n. Some (server_of n)) (sym zeroth))))
entry_stays found b _ s sound l differs m = m

-- a step of the bag leaves its agreement with each server that is not the entry's keeper
pub servers_stay : ServersStay
servers_stay found b next e s sound step differs m =
    subst (λ (n : Bag). ServerAgrees n s) (sym step.2) (entry_stays found b e s sound step.1 differs m)
