-- The charge of each server stays within the limit.
use Rattle.std.proofs.Common.{◌≡◌, ℕ, ◌+◌, ◌≤◌, ◌⊎◌, inl, inr, Bool, true, false, ◌&&◌, ◌==◌, List, ◌∷◌, [], ◌++◌, length, Option, Some}
use Rattle.std.proofs.Common.{None, refl, sym, ap, ◌∙◌, subst, arith}
use Rattle.std.specs.Prelude.{if◌then◌else◌, option_and_then}
use Rattle.std.proofs.lemmas.List.Sums.{sum_by_push}
use Rattle.std.proofs.lemmas.Bool.{and_parts}
use Rattle.adlb_unit.specs.declared.names.Server.{Server}
use Rattle.adlb_unit.specs.declared.names.UnitId.{UnitId}
use Rattle.adlb_unit.specs.declared.names.BatchId.{BatchId}
use Rattle.adlb_unit.specs.declared.names.CommonRef.{CommonRef}
use Rattle.adlb_unit.specs.declared.units.Unit.{Unit}
use Rattle.adlb_unit.specs.Ids.{same_batch, same_unit}
use Rattle.adlb_unit.proofs.Same.{same_unit_is}
use Rattle.bag_ledger.specs.declared.entries.Entry.{Entry}
use Rattle.bag_ledger.specs.declared.entries.Entry.TheVariants.{Accepted, Kept, Closed, Freed, Granted, Fetched, CommonFetched, Promised}
use Rattle.bag_ledger.specs.declared.entries.Entry.TheVariants.{Left, Arrived, Withdrawn}
use Rattle.bag_ledger.specs.declared.states.RankState.{RankState}
use Rattle.bag_ledger.specs.declared.states.Placed.{Placed}
use Rattle.bag_ledger.specs.declared.states.Part.{Part}
use Rattle.bag_ledger.specs.declared.states.Promise.{Promise}
use Rattle.bag_ledger.specs.declared.states.UnitPlace.{UnitPlace}
use Rattle.bag_ledger.specs.declared.states.UnitPlace.TheVariants.{Free, Travelling, Pinned, Spent}
use Rattle.bag_ledger.specs.Bag.{Bag, empty, rank_at, unit_of, promise_of, is_travelling, unit_charge, part_charge, promise_charge, charge}
use Rattle.bag_ledger.specs.Bag.{putting, keeping}
use Rattle.bag_ledger.specs.Steps.{Fits, Stands, LegalWhere, after, with_part, moved, unpromised, shared, taken}
use Rattle.bag_ledger.specs.Runs.{IsRunWhere}
use Rattle.bag_ledger.specs.Words.{IsTracked}
use Rattle.bag_ledger.proofs.Tests.{some_is, same_server_is}
use Rattle.bag_ledger.proofs.Lookups.{find_before, find_appended, sum_changed, sum_lowered, sum_filtered}
use Rattle.bag_ledger.proofs.Moves.{moved_here, moved_keeps, moved_is, unpromised_other, unpromised_is}

-- the charge of each server is within the limit
abbrev pub IsWithin : Bag → Type 0
IsWithin b = (server : Server) → charge b server ≤ b.limit

-- Words of a step.

-- the rank whose unit is accepted puts it
pub unit_put : {X : Type 0} (f : RankState → Option X) (o : Option RankState) (r : RankState) (x : X) → o ≡ Some r → f r ≡ Some x
    → option_and_then f o ≡ Some x
unit_put f o r x is e = rw is e

-- what fits at one server is within the limit at each
room : (b : Bag) (server : Server) (n : ℕ) → Fits b server n → IsWithin b → (s : Server) (t : Bool) → (t ≡ true → server ≡ s)
    → charge b s + (if t then n else 0) ≤ b.limit
room b server n fits is s true here = rw (here refl) at fits
room b server n fits is s false here = omega (arith, is s)

charge_at : (s : Server) (u : Placed) (place : UnitPlace) → u.place ≡ place → unit_charge s u ≡ unit_charge s (record u { place = place })
charge_at s u place e = rw e refl

within_part : (b : Bag) (batch : BatchId) (g : Part → Part) → ((s : Server) (p : Part) → part_charge s (g p) ≤ part_charge s p) → IsWithin b
    → IsWithin (with_part batch g b)
within_part b batch g low is s =
    omega (arith, sum_lowered (part_charge s) g (λ p. same_batch p.batch batch) (low s) b.parts, is s)

within_moved : (b : Bag) (id : UnitId) (place : UnitPlace) (u : Placed) → unit_of b id ≡ Some u
    → ((s : Server) → unit_charge s (record u { place = place }) ≤ unit_charge s u) → IsWithin b → IsWithin (moved id place b)
within_moved b id place u there low is s =
    omega (arith, sum_changed (unit_charge s) (λ u. record u { place = place }) (λ u. same_unit u.unit.id id) b.units u there, low s, is s)

within_shared : (b : Bag) (common : Option CommonRef) → IsWithin b → IsWithin (shared common b)
within_shared b None is = is
within_shared b (Some common) is = within_part b common.batch (λ p. record p { accepted = p.accepted + 1 }) (λ s p. omega arith) is

within_taken : (b : Bag) (server : Server) (u : Unit) → Fits b server (length u.body) → IsWithin b → IsWithin (taken server (Some u) b)
within_taken b server u fits is =
    within_shared (record b { units = b.units ++ record { unit = u; place = Free server } ∷ [] }) u.common
    (λ s. omega (
      arith,
      sum_by_push (unit_charge s) b.units (record { unit = u; place = Free server }),
      room b server (length u.body) fits is s (server.0 == s.0) (same_server_is server s),
    ))

freed_lower : (s : Server) (p : Part) → part_charge s (record p { freed = true }) ≤ part_charge s p
freed_lower s p = by_test (p.server.0 == s.0) refl
  where
    by_test : (t : Bool) → (p.server.0 == s.0) ≡ t → part_charge s (record p { freed = true }) ≤ part_charge s p
    by_test true is = rw is (omega arith)
    by_test false is = rw is (omega arith)

within_arrived : (b : Bag) (server : Server) (id : UnitId) (u : Placed) → Stands b id u (Travelling server) → IsTracked b → IsWithin b
    → IsWithin (unpromised id (moved id (Free server) b))
within_arrived b server id u stands tracked is s =
    let p = tracked.promised id u server stands in
    let m = tracked.measured id p.0 p.1 in
    let same : m.0 ≡ u = some_is (sym m.1 ∙ stands.0) in
    let long : length u.unit.body ≡ p.0.length = rw same at m.2 in
    let gone : unit_charge s u ≡ 0 = charge_at s u (Travelling server) stands.1 in
    let less = sum_filtered (promise_charge s) (λ p. same_unit p.id id) b.promises p.0 p.1 in
    let freed : promise_charge s p.0 ≡ unit_charge s (record u { place = Free server }) = rw (p.2, ← long) refl in
    omega (
      arith,
      sum_changed (unit_charge s) (λ u. record u { place = Free server }) (λ u. same_unit u.unit.id id) b.units u stands.0,
      gone,
      less,
      freed,
      is s,
    )

step_within : (found : Bag → Bool) (b : Bag) (e : Entry) → LegalWhere found b e → IsTracked b → IsWithin b → IsWithin (after b e)
step_within found b (Accepted server id) l tracked is =
    let put = unit_put (λ r. putting r.status) (rank_at b id.rank) l.0 l.1 l.2 (rw l.3 refl) in
    let IsKept : Option Unit → Type 0 = λ o. IsWithin (taken server o b) in
    subst IsKept (sym put) (within_taken b server l.1 l.7 is)
step_within found b (Kept server batch) l tracked is =
    let kept = unit_put (λ r. keeping r.status) (rank_at b batch.rank) l.0 (batch.number, l.1) l.2 (rw l.3 refl) in
    rw kept (λ s. omega (
      arith,
      sum_by_push (part_charge s) b.parts
          (record { batch = batch; server = server; common = l.1; accepted = 0; fetched = 0; closed = false; freed = false }),
      room b server (length l.1) l.6 is s ((server.0 == s.0) && true) (λ e. same_server_is server s (and_parts (server.0 == s.0) true e).0),
    ))
step_within found b (Closed server batch) l tracked is = within_part b batch (λ p. record p { closed = true }) (λ s p. omega arith) is
step_within found b (Freed server batch) l tracked is = within_part b batch (λ p. record p { freed = true }) freed_lower is
step_within found b (Granted server rank call id) l tracked is =
    within_moved b id (Pinned server rank) l.2 l.6.0 (λ s. omega (arith, charge_at s l.2 (Free server) l.6.1)) is
step_within found b (Fetched server rank id) l tracked is = within_moved b id Spent l.2 l.6.0 (λ s. omega arith) is
step_within found b (CommonFetched server rank batch) l tracked is =
    within_part b batch (λ p. record p { fetched = p.fetched + 1 }) (λ s p. omega arith) is
step_within found b (Promised server id n) l tracked is =
    λ s. omega (
      arith,
      sum_by_push (promise_charge s) b.promises (record { server = server; id = id; length = n }),
      room b server n l.7 is s (server.0 == s.0) (same_server_is server s),
    )
step_within found b (Left server to id) l tracked is = within_moved b id (Travelling to) l.0 l.2.0 (λ s. omega arith) is
step_within found b (Arrived server id) l tracked is = within_arrived b server id l.0 l.1 tracked is
step_within found b (Withdrawn server id) l tracked is =
    λ s. omega (arith, sum_filtered (promise_charge s) (λ p. same_unit p.id id) b.promises l.1 l.5, is s)
step_within found b _ l tracked is = is

-- The tracking.

tracked_moved : (b : Bag) (id : UnitId) (place : UnitPlace) (u : Placed) → unit_of b id ≡ Some u
    → ((to : Server) → place ≡ Travelling to → (p : Promise) × (promise_of b id ≡ Some p) × (p.server ≡ to)) → IsTracked b
    → IsTracked (moved id place b)
tracked_moved b id place u there ready is = record {
  measured = λ x p e.
      let m = is.measured x p e in
      let v = moved_keeps b id x place m.0 m.1 in
      (v.0, v.1, ap (λ (w : Unit). length w.body) v.2 ∙ m.2);
  promised = λ x v to s. by_case x v to s (moved_is b id x place u v there s.0);
}
  where
    by_case : (x : UnitId) (v : Placed) (to : Server) → Stands (moved id place b) x v (Travelling to)
        → ((x ≡ id) × (v ≡ record u { place = place })) ⊎ ((same_unit id x ≡ false) × (unit_of b x ≡ Some v))
        → (p : Promise) × (promise_of b x ≡ Some p) × (p.server ≡ to)
    by_case x v to s (inl c) = let goes : place ≡ Travelling to = sym (ap (λ (w : Placed). w.place) c.1) ∙ s.1 in rw c.0 (ready to goes)
    by_case x v to s (inr c) = is.promised x v to (c.1, s.1)

tracked_unpromised : (b : Bag) (id : UnitId) (u : Placed) → unit_of b id ≡ Some u → is_travelling u.place ≡ false → IsTracked b
    → IsTracked (unpromised id b)
tracked_unpromised b id u there stays is = record {
  measured = λ x p e. is.measured x p (unpromised_is b id x p e);
  promised = λ x v to s. by_test x v to s (same_unit id x) refl;
}
  where
    by_test : (x : UnitId) (v : Placed) (to : Server) → Stands b x v (Travelling to) → (t : Bool) → same_unit id x ≡ t
        → (p : Promise) × (promise_of (unpromised id b) x ≡ Some p) × (p.server ≡ to)
    by_test x v to s true e =
        let same : id ≡ x = same_unit_is id x e in
        let found : unit_of b x ≡ Some u = rw same at there in
        let both : v ≡ u = some_is (sym s.0 ∙ found) in
        let goes : u.place ≡ Travelling to = rw both at s.1 in
        let moves : is_travelling u.place ≡ true = rw goes refl in
        absurd (cc)
    by_test x v to s false e = let p = is.promised x v to s in (p.0, unpromised_other b id x e ∙ p.1, p.2)

tracked_shared : (b : Bag) (common : Option CommonRef) → IsTracked b → IsTracked (shared common b)
tracked_shared b None is = is
tracked_shared b (Some common) is = record { measured = is.measured; promised = is.promised }

tracked_taken : (b : Bag) (server : Server) (u : Unit) → IsTracked b → IsTracked (taken server (Some u) b)
tracked_taken b server u is =
    tracked_shared (record b { units = b.units ++ record { unit = u; place = Free server } ∷ [] }) u.common (record {
      measured =
          λ x p e. let m = is.measured x p e in
          (m.0, find_before (λ u. same_unit u.unit.id x) b.units (record { unit = u; place = Free server } ∷ []) m.0 m.1, m.2);
      promised =
          λ x v to s.
          by_case x v to s.1 (find_appended (λ u. same_unit u.unit.id x) b.units (record { unit = u; place = Free server }) v s.0);
    })
  where
    by_case : (x : UnitId) (v : Placed) (to : Server) → v.place ≡ Travelling to
        → (unit_of b x ≡ Some v) ⊎ ((same_unit u.id x ≡ true) × (record { unit = u; place = Free server } ≡ v))
        → (p : Promise) × (promise_of b x ≡ Some p) × (p.server ≡ to)
    by_case x v to goes (inl there) = is.promised x v to (there, goes)
    by_case x v to goes (inr c) = let stays : Free server ≡ v.place = ap (λ (w : Placed). w.place) c.1 in absurd (cc)

tracked_promised : (b : Bag) (server : Server) (id : UnitId) (n : ℕ) (u : Placed) → unit_of b id ≡ Some u → length u.unit.body ≡ n
    → IsTracked b → IsTracked (record b { promises = b.promises ++ record { server = server; id = id; length = n } ∷ [] })
tracked_promised b server id n u there long is = record {
  measured = λ x p e. by_case x p (find_appended (λ p. same_unit p.id x) b.promises (record { server = server; id = id; length = n }) p e);
  promised =
      λ x v to s. let p = is.promised x v to s in
      (p.0, find_before (λ p. same_unit p.id x) b.promises (record { server = server; id = id; length = n } ∷ []) p.0 p.1, p.2);
}
  where
    by_case : (x : UnitId) (p : Promise) → (promise_of b x ≡ Some p)
        ⊎ ((same_unit id x ≡ true) × (record { server = server; id = id; length = n } ≡ p)) → (u : Placed) × (unit_of b x ≡ Some u)
        × (length u.unit.body ≡ p.length)
    by_case x p (inl e) = is.measured x p e
    by_case x p (inr c) = (u, rw (← same_unit_is id x c.0) there, long ∙ ap (λ (q : Promise). q.length) c.1)

-- a legal entry keeps what is tracked of the charges
pub step_tracked : (found : Bag → Bool) (b : Bag) (e : Entry) → LegalWhere found b e → IsTracked b → IsTracked (after b e)
step_tracked found b (Accepted server id) l is =
    let put = unit_put (λ r. putting r.status) (rank_at b id.rank) l.0 l.1 l.2 (rw l.3 refl) in
    let tracked : IsTracked (taken server (option_and_then (λ r. putting r.status) (rank_at b id.rank)) b) =
    rw put (tracked_taken b server l.1 is) in
    record { measured = tracked.measured; promised = tracked.promised }
step_tracked found b (Kept server batch) l is =
    let kept = unit_put (λ r. keeping r.status) (rank_at b batch.rank) l.0 (batch.number, l.1) l.2 (rw l.3 refl) in
    rw kept (record { measured = is.measured; promised = is.promised })
step_tracked found b (Granted server rank call id) l is =
    let tracked = tracked_moved b id (Pinned server rank) l.2 l.6.0 (λ to e. absurd (cc)) is in
    record { measured = tracked.measured; promised = tracked.promised }
step_tracked found b (Fetched server rank id) l is =
    let tracked = tracked_moved b id Spent l.2 l.6.0 (λ to e. absurd (cc)) is in
    record { measured = tracked.measured; promised = tracked.promised }
step_tracked found b (Promised server id n) l is = tracked_promised b server id n l.0 l.1 l.2 is
step_tracked found b (Left server to id) l is =
    tracked_moved b id (Travelling to) l.0 l.2.0 (λ s e. let same : to ≡ s = cc in (l.1, l.5, l.6 ∙ same)) is
step_tracked found b (Arrived server id) l is =
    let tracked = tracked_moved b id (Free server) l.0 l.1.0 (λ to e. absurd (cc)) is in
    tracked_unpromised (moved id (Free server) b) id (record l.0 { place = Free server })
    (moved_here b id (Free server) l.0 l.1.0) refl tracked
step_tracked found b (Withdrawn server id) l is = tracked_unpromised b id l.0 l.2 l.3 is
step_tracked found b _ l is = record { measured = is.measured; promised = is.promised }

-- a run from a bag within the limit ends in one within the limit
pub run_within : (found : Bag → Bool) (b last : Bag) (es : List Entry) → IsRunWhere found b es last → IsTracked b → IsWithin b
    → IsWithin last
run_within found b last [] run tracked is = rw (← run) is
run_within found b last (e ∷ es) run tracked is =
    let next : run.0 ≡ after b e = run.1.2 in
    run_within found run.0 last es run.2 (rw next (step_tracked found b e run.1.1 tracked))
    (rw next (step_within found b e run.1.1 tracked is))

-- at the start the charge of each server is within the limit
pub start_within : (ranks servers limit : ℕ) → IsWithin (empty ranks servers limit)
start_within ranks servers limit s = omega arith

-- at the start promises and units agree
pub start_tracked : (ranks servers limit : ℕ) → IsTracked (empty ranks servers limit)
start_tracked ranks servers limit = record { measured = λ x p e. absurd (cc); promised = λ x u to s. let none = s.0 in absurd (cc) }
