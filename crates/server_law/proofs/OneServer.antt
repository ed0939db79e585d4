-- With one server, all of the bag is there.
use Rattle.std.proofs.Common.{◌≡◌, ◌<◌, Bool, true, false, not, List, [], ◌∷◌, find, Some, None, refl, sym, ap, ◌∙◌, subst, All, arith}
use Rattle.std.specs.Prelude.{option_and_then}
use Rattle.std.proofs.lemmas.List.Elements.{All-cons, All-filter, All-head, All-nil, All-push, All-tail}
use Rattle.adlb_unit.specs.Ids.{same_unit}
use Rattle.adlb_unit.specs.declared.names.Server.{Server}
use Rattle.adlb_unit.proofs.Same.{same_unit_from}
use Rattle.bag_ledger.specs.Bag.{Bag, is_placed_at, settled, start}
use Rattle.bag_ledger.specs.Runs.{IsRun}
use Rattle.bag_ledger.specs.Steps.{Legal, after, change_first}
use Rattle.bag_ledger.specs.declared.entries.Entry.{Entry}
use Rattle.bag_ledger.specs.declared.entries.Entry.TheVariants as enters
use Rattle.bag_ledger.specs.declared.states.Placed.{Placed}
use Rattle.bag_ledger.specs.declared.states.Promise.{Promise}
use Rattle.bag_ledger.specs.declared.states.UnitPlace.{UnitPlace}
use Rattle.bag_ledger.specs.declared.states.UnitPlace.TheVariants.{Free, Pinned, Spent}
use Rattle.bag_ledger.proofs.Fixed.{run_servers}
use Rattle.bag_ledger.proofs.Tests.{same_number}
use Rattle.bag_law.specs.Sound.{IsSoundBag}
use Rattle.bag_law.proofs.Plain.{accepted_is, kept_is}
use Rattle.bag_law.proofs.Sound.{start_is_sound, step_keeps_sound}
use Rattle.server_law.specs.Agreement.{room_at, room_for}
use Rattle.server_law.specs.Rest.{HasAll, IsHereOrSpent, IsKeptAt, NoneIsPromised, OneHasAll}

here_moved : (me : Server) (place : UnitPlace) (test : Placed → Bool) (units : List Placed) → IsHereOrSpent me place
    → All (IsKeptAt me) units → All (IsKeptAt me) (change_first (λ u. record u { place = place }) test units)
here_moved me place test [] here all = all
here_moved me place test (u ∷ units) here all = by_test (here_moved me place test units here rest) (test u) refl
  where
    first : IsKeptAt me u
    first = All-head (IsKeptAt me) u units all

    rest : All (IsKeptAt me) units
    rest = All-tail (IsKeptAt me) u units all

    by_test : All (IsKeptAt me) (change_first (λ v. record v { place = place }) test units) → (t : Bool) → test u ≡ t
        → All (IsKeptAt me) (change_first (λ v. record v { place = place }) test (u ∷ units))
    by_test later true is = rw is (All-cons (IsKeptAt me) (record u { place = place }) units here rest)
    by_test later false is = rw is (All-cons (IsKeptAt me) u (change_first (λ v. record v { place = place }) test units) first later)

-- the only server
only : (b : Bag) (me server : Server) → b.servers ≡ 1 → me.0 ≡ 0 → server.0 < b.servers → server ≡ me
only b me server one zeroth within = let same : server.0 ≡ me.0 = omega arith in ap (λ n. record { 0 = n }) same

entry_has_all : (b : Bag) (e : Entry) (me : Server) → b.servers ≡ 1 → me.0 ≡ 0 → IsSoundBag b → Legal b e → HasAll b me
    → HasAll (after b e) me
entry_has_all b (enters.Accepted server id) me one zeroth sound l is =
    let n = accepted_is b server id l in
    let u : Placed = record { unit = n.u; place = Free server } in
    record {
      units = rw n.units (All-push (IsKeptAt me) b.units u is.units (only b me server one zeroth l.5));
      promises = rw n.promises is.promises;
    }
entry_has_all b (enters.Kept server batch) me one zeroth sound l is =
    rw (kept_is b server batch l) (record { units = is.units; promises = is.promises })
entry_has_all b (enters.Granted server rank call id) me one zeroth sound l is = record {
  units = here_moved me (Pinned server rank) (λ u. same_unit u.unit.id id) b.units (only b me server one zeroth l.5) is.units;
  promises = is.promises;
}
entry_has_all b (enters.Fetched server rank id) me one zeroth sound l is = record {
  units = here_moved me Spent (λ u. same_unit u.unit.id id) b.units tt is.units;
  promises = is.promises;
}
entry_has_all b (enters.Promised server id n) me one zeroth sound l is = record {
  units = is.units;
  promises =
      let p : Promise = record { server = server; id = id; length = n } in
      All-push (λ (q : Promise). q.server ≡ me) b.promises p is.promises (only b me server one zeroth l.3);
}
-- what is promised at the only server is not there, so it does not leave it
entry_has_all b (enters.Left server to id) me one zeroth sound l is =
    let free : is_placed_at l.1.server l.0.place ≡ true =
    rw (l.2.1, l.6, only b me to one zeroth l.4, only b me server one zeroth l.3) (same_number me.0) in
    let apart = sound.apart.each id l.0 l.1 l.2.0 l.5 in
    absurd (cc)
entry_has_all b (enters.Arrived server id) me one zeroth sound l is = record {
  units = here_moved me (Free server) (λ u. same_unit u.unit.id id) b.units (only b me server one zeroth l.2) is.units;
  promises = All-filter (λ (q : Promise). not (same_unit q.id id)) (λ (q : Promise). q.server ≡ me) b.promises is.promises;
}
entry_has_all b (enters.Withdrawn server id) me one zeroth sound l is = record {
  units = is.units;
  promises = All-filter (λ (q : Promise). not (same_unit q.id id)) (λ (q : Promise). q.server ≡ me) b.promises is.promises;
}
entry_has_all b _ me one zeroth sound l is = is

run_has_all : (b last : Bag) (es : List Entry) (me : Server) → b.servers ≡ 1 → me.0 ≡ 0 → IsSoundBag b → IsRun b es last → HasAll b me
    → HasAll last me
run_has_all b last [] me one zeroth sound run is = subst (λ x. HasAll x me) run is
run_has_all b last (e ∷ es) me one zeroth sound run is =
    let same = run_servers settled b run.0 (e ∷ []) (run.0, run.1, refl) in
    let kept : IsSoundBag run.0 = subst IsSoundBag (sym run.1.2) (step_keeps_sound settled b e run.1.1 sound) in
    let has : HasAll run.0 me = subst (λ x. HasAll x me) (sym run.1.2) (entry_has_all b e me one zeroth sound run.1.1 is) in
    run_has_all run.0 last es me (same ∙ one) zeroth kept run.2 has

-- in a run of one server the bag is all there
pub one_has_all : OneHasAll
one_has_all config ledger b me one zeroth run =
    run_has_all (start config) b ledger me one zeroth (start_is_sound config) run
    (record { units = All-nil (IsKeptAt me); promises = All-nil (λ (p : Promise). p.server ≡ me) })

-- and nothing is promised where the server promised nothing
pub none_is_promised : NoneIsPromised
none_is_promised b s m all none = by_promises b.promises refl
  where
    by_promises : (rooms : List Promise) → b.promises ≡ rooms → b.promises ≡ []
    by_promises [] is = is
    by_promises (p ∷ rooms) is =
        let test : Promise → Bool = λ q. same_unit q.id p.id in
        let here : p.server ≡ s.me = All-head (λ (q : Promise). q.server ≡ s.me) p rooms (rw is at all.promises) in
        let found : find test (p ∷ rooms) ≡ Some p = rw (same_unit_from p.id p.id refl) refl in
        let room : room_at s.me p ≡ Some (record { id = p.id; length = p.length }) = rw (here, same_number s.me.0) refl in
        let same : room_for p.id s.kept.queue.promises ≡ option_and_then (room_at s.me) (find test (p ∷ rooms)) =
        rw is at (m.promises p.id) in
        let absent : room_for p.id s.kept.queue.promises ≡ None = rw none refl in
        absurd (cc)
