-- What an entry does to the units: one comes, one moves, or all stay; and what that does to sums over the units.
use Rattle.std.proofs.Common.{◌≡◌, ℕ, ◌+◌, ◌⊎◌, inl, inr, Bool, true, false, [], ◌∷◌, ◌++◌, Option, Some, None, refl, sym, ap, ◌∙◌, arith}
use Rattle.std.specs.Prelude.{if◌then◌else◌, option_and_then, sum_by}
use Rattle.std.proofs.lemmas.List.Sums.{sum_by_push}
use Rattle.adlb_unit.specs.declared.names.Rank.{Rank}
use Rattle.adlb_unit.specs.declared.names.Server.{Server}
use Rattle.adlb_unit.specs.declared.names.UnitId.{UnitId}
use Rattle.adlb_unit.specs.declared.names.CommonRef.{CommonRef}
use Rattle.adlb_unit.specs.declared.units.Unit.{Unit}
use Rattle.adlb_unit.specs.Ids.{same_unit}
use Rattle.adlb_unit.proofs.Same.{same_unit_is}
use Rattle.bag_ledger.specs.declared.entries.Entry.{Entry}
use Rattle.bag_ledger.specs.declared.entries.Entry.TheVariants.{Accepted, Kept, Granted, Fetched, Left, Arrived}
use Rattle.bag_ledger.specs.declared.states.RankState.{RankState}
use Rattle.bag_ledger.specs.declared.states.Placed.{Placed}
use Rattle.bag_ledger.specs.declared.states.UnitPlace.{UnitPlace}
use Rattle.bag_ledger.specs.declared.states.UnitPlace.TheVariants.{Free, Travelling, Pinned, Spent}
use Rattle.bag_ledger.specs.declared.states.Status.TheVariants as does
use Rattle.bag_ledger.specs.Bag.{Bag, rank_at, unit_of, putting, keeping}
use Rattle.bag_ledger.specs.Steps.{Is, Legal, after, moved, shared, taken}
use Rattle.bag_ledger.proofs.Tests.{some_is}
use Rattle.bag_ledger.proofs.Lookups.{find_before, sum_changed}
use Rattle.bag_ledger.proofs.Moves.{moved_other}
use Rattle.bag_ledger.proofs.Charge.{unit_put}
use Rattle.balance_law.proofs.Paths.{weight}
use Rattle.balance_law.proofs.Deeds.{accepted, granted, fetched, IsIdle}

-- free or on the way; pinned; not spent
abbrev pub is_loose : UnitPlace → Bool
is_loose (Free server) = true
is_loose (Travelling to) = true
is_loose place = false

-- the unit is pinned
abbrev pub is_pinned : UnitPlace → Bool
is_pinned (Pinned server rank) = true
is_pinned place = false

-- the unit is not spent
abbrev pub is_left : UnitPlace → Bool
is_left Spent = false
is_left place = true

-- a unit at a place that passes has its weight
abbrev pub lies : (UnitPlace → Bool) → (Unit → ℕ) → Placed → ℕ
lies at f u = if at u.place then f u.unit else 0

-- what the units of such places weigh
abbrev pub standing : (UnitPlace → Bool) → (Unit → ℕ) → Bag → ℕ
standing at f b = sum_by (lies at f) b.units

-- the unit of this id moves from one place to another
pub record IsMove (b : Bag) (e : Entry) (id : UnitId) (u : Placed) (from to : UnitPlace) : Type 0 where
  pub there : unit_of b id ≡ Some u
  pub stood : u.place ≡ from
  pub moves : (after b e).units ≡ (moved id to b).units

-- what an entry does to the units: all stay, one is accepted, or one moves
pub data Shift (b : Bag) (e : Entry) : Type 0 where
  stays : (after b e).units ≡ b.units → IsIdle b e → Shift b e
  adds : (rank : Rank) (r : RankState) (u : Unit) (server : Server) → Is b rank r → r.status ≡ does.Putting u
      → (after b e).units ≡ b.units ++ record { unit = u; place = Free server } ∷ [] → accepted b e ≡ Some (rank, u) → granted b e ≡ None
      → fetched b e ≡ None → Shift b e
  pins : (id : UnitId) (u : Placed) (server : Server) (rank : Rank) → IsMove b e id u (Free server) (Pinned server rank)
      → accepted b e ≡ None → granted b e ≡ Some (rank, u.unit) → fetched b e ≡ None → Shift b e
  spends : (id : UnitId) (u : Placed) (server : Server) (rank : Rank) → IsMove b e id u (Pinned server rank) Spent → accepted b e ≡ None
      → granted b e ≡ None → fetched b e ≡ Some (rank, u.unit) → Shift b e
  leaves : (id : UnitId) (u : Placed) (server to : Server) → IsMove b e id u (Free server) (Travelling to) → IsIdle b e → Shift b e
  arrives : (id : UnitId) (u : Placed) (server : Server) → IsMove b e id u (Travelling server) (Free server) → IsIdle b e → Shift b e

shared_units : (common : Option CommonRef) (b : Bag) → (shared common b).units ≡ b.units
shared_units None b = refl
shared_units (Some common) b = refl

-- what an entry does to the units is one of the shifts
pub shift_of : (b : Bag) (e : Entry) → Legal b e → Shift b e
shift_of b (Accepted server id) l =
    let put = unit_put (λ r. putting r.status) (rank_at b id.rank) l.0 l.1 l.2 (rw l.3 refl) in
    let units :
    (taken server
    (option_and_then (λ r. putting r.status) (rank_at b id.rank)) b).units ≡ b.units ++ record { unit = l.1; place = Free server } ∷ [] =
    rw put (shared_units l.1.common (record b { units = b.units ++ record { unit = l.1; place = Free server } ∷ [] })) in
    adds id.rank l.0 l.1 server l.2 l.3 units (rw (l.2, l.3) refl) refl refl
shift_of b (Kept server batch) l =
    let kept = unit_put (λ r. keeping r.status) (rank_at b batch.rank) l.0 (batch.number, l.1) l.2 (rw l.3 refl) in
    stays (rw kept refl) (refl, refl, refl)
shift_of b (Granted server rank call id) l =
    pins id l.2 server rank (record { there = l.6.0; stood = l.6.1; moves = refl }) refl (rw l.6.0 refl) refl
shift_of b (Fetched server rank id) l =
    spends id l.2 server rank (record { there = l.6.0; stood = l.6.1; moves = refl }) refl refl (rw l.6.0 refl)
shift_of b (Left server to id) l = leaves id l.0 server to (record { there = l.2.0; stood = l.2.1; moves = refl }) (refl, refl, refl)
shift_of b (Arrived server id) l = arrives id l.0 server (record { there = l.1.0; stood = l.1.1; moves = refl }) (refl, refl, refl)
shift_of b _ l = stays refl (refl, refl, refl)

-- A unit that is moved.
standing_moved : (at : UnitPlace → Bool) (f : Unit → ℕ) (b : Bag) (e : Entry) (id : UnitId) (u : Placed) (from to : UnitPlace)
    → IsMove b e id u from to
    → standing at f (after b e) + (if at from then f u.unit else 0) ≡ standing at f b + (if at to then f u.unit else 0)
standing_moved at f b e id u from to m =
    let h = sum_changed (lies at f) (λ u. record u { place = to }) (λ u. same_unit u.unit.id id) b.units u m.there in
    let was : lies at f u ≡ (if at from then f u.unit else 0) = rw m.stood refl in
    rw m.moves (omega (arith, h, was))

standing_same : (at : UnitPlace → Bool) (f : Unit → ℕ) (b : Bag) (e : Entry) → (after b e).units ≡ b.units
    → standing at f (after b e) ≡ standing at f b
standing_same at f b e same = rw same refl

standing_added : (at : UnitPlace → Bool) (f : Unit → ℕ) (b : Bag) (e : Entry) (u : Unit) (server : Server)
    → (after b e).units ≡ b.units ++ record { unit = u; place = Free server } ∷ []
    → standing at f (after b e) ≡ standing at f b + (if at (Free server) then f u else 0)
standing_added at f b e u server units = rw units (sum_by_push (lies at f) b.units (record { unit = u; place = Free server }))

-- A unit that is accepted is left until it is given.
left_law : (f : Unit → ℕ) (b : Bag) (e : Entry) → Shift b e
    → standing is_left f (after b e) + weight f (fetched b e) ≡ standing is_left f b + weight f (accepted b e)
left_law f b e (stays same idle) = rw (idle.0, idle.2) (omega (arith, standing_same is_left f b e same))
left_law f b e (adds rank r u server there puts units accepts grants gives) =
    rw (accepts, gives) (omega (arith, standing_added is_left f b e u server units))
left_law f b e (pins id u server rank m accepts grants gives) =
    rw (accepts, gives) (omega (arith, standing_moved is_left f b e id u (Free server) (Pinned server rank) m))
left_law f b e (spends id u server rank m accepts grants gives) =
    rw (accepts, gives) (omega (arith, standing_moved is_left f b e id u (Pinned server rank) Spent m))
left_law f b e (leaves id u server to m idle) =
    rw (idle.0, idle.2) (omega (arith, standing_moved is_left f b e id u (Free server) (Travelling to) m))
left_law f b e (arrives id u server m idle) =
    rw (idle.0, idle.2) (omega (arith, standing_moved is_left f b e id u (Travelling server) (Free server) m))

-- One that is granted is pinned until it is given.
pinned_law : (f : Unit → ℕ) (b : Bag) (e : Entry) → Shift b e
    → standing is_pinned f (after b e) + weight f (fetched b e) ≡ standing is_pinned f b + weight f (granted b e)
pinned_law f b e (stays same idle) = rw (idle.1, idle.2) (omega (arith, standing_same is_pinned f b e same))
pinned_law f b e (adds rank r u server there puts units accepts grants gives) =
    rw (grants, gives) (omega (arith, standing_added is_pinned f b e u server units))
pinned_law f b e (pins id u server rank m accepts grants gives) =
    rw (grants, gives) (omega (arith, standing_moved is_pinned f b e id u (Free server) (Pinned server rank) m))
pinned_law f b e (spends id u server rank m accepts grants gives) =
    rw (grants, gives) (omega (arith, standing_moved is_pinned f b e id u (Pinned server rank) Spent m))
pinned_law f b e (leaves id u server to m idle) =
    rw (idle.1, idle.2) (omega (arith, standing_moved is_pinned f b e id u (Free server) (Travelling to) m))
pinned_law f b e (arrives id u server m idle) =
    rw (idle.1, idle.2) (omega (arith, standing_moved is_pinned f b e id u (Travelling server) (Free server) m))

-- One that is accepted is loose until it is granted.
loose_law : (f : Unit → ℕ) (b : Bag) (e : Entry) → Shift b e
    → standing is_loose f (after b e) + weight f (granted b e) ≡ standing is_loose f b + weight f (accepted b e)
loose_law f b e (stays same idle) = rw (idle.0, idle.1) (omega (arith, standing_same is_loose f b e same))
loose_law f b e (adds rank r u server there puts units accepts grants gives) =
    rw (accepts, grants) (omega (arith, standing_added is_loose f b e u server units))
loose_law f b e (pins id u server rank m accepts grants gives) =
    rw (accepts, grants) (omega (arith, standing_moved is_loose f b e id u (Free server) (Pinned server rank) m))
loose_law f b e (spends id u server rank m accepts grants gives) =
    rw (accepts, grants) (omega (arith, standing_moved is_loose f b e id u (Pinned server rank) Spent m))
loose_law f b e (leaves id u server to m idle) =
    rw (idle.0, idle.1) (omega (arith, standing_moved is_loose f b e id u (Free server) (Travelling to) m))
loose_law f b e (arrives id u server m idle) =
    rw (idle.0, idle.1) (omega (arith, standing_moved is_loose f b e id u (Travelling server) (Free server) m))

-- units that are left: accepted ones come, and fetched ones go
pub left_stands : (f : Unit → ℕ) (b : Bag) (e : Entry) → Legal b e
    → standing is_left f (after b e) + weight f (fetched b e) ≡ standing is_left f b + weight f (accepted b e)
left_stands f b e l = left_law f b e (shift_of b e l)

-- units that are pinned: granted ones come, and fetched ones go
pub pinned_stands : (f : Unit → ℕ) (b : Bag) (e : Entry) → Legal b e
    → standing is_pinned f (after b e) + weight f (fetched b e) ≡ standing is_pinned f b + weight f (granted b e)
pinned_stands f b e l = pinned_law f b e (shift_of b e l)

-- units that are free or travel: accepted ones come, and granted ones go
pub loose_stands : (f : Unit → ℕ) (b : Bag) (e : Entry) → Legal b e
    → standing is_loose f (after b e) + weight f (granted b e) ≡ standing is_loose f b + weight f (accepted b e)
loose_stands f b e l = loose_law f b e (shift_of b e l)

-- A unit that is pinned to a rank stays, or is given to that rank.
other_stays : (b : Bag) (e : Entry) (id x : UnitId) (u v : Placed) (from to place : UnitPlace) → IsMove b e id u from to
    → unit_of b x ≡ Some v → v.place ≡ place → (from ≡ place → ⊥) → unit_of (after b e) x ≡ Some v
other_stays b e id x u v from to place m found is apart = by_test (same_unit id x) refl
  where
    by_test : (t : Bool) → same_unit id x ≡ t → unit_of (after b e) x ≡ Some v
    by_test true same =
        let one : id ≡ x = same_unit_is id x same in
        let there : unit_of b x ≡ Some u = rw one at m.there in
        let both : v ≡ u = some_is (sym found ∙ there) in
        absurd (apart (sym m.stood ∙ sym (ap (λ (w : Placed). w.place) both) ∙ is))
    by_test false differ = rw m.moves (moved_other b id x to differ ∙ found)

pinned_kept : (b : Bag) (e : Entry) (x : UnitId) (v : Placed) (at : Server) (to : Rank) → Shift b e → unit_of b x ≡ Some v
    → v.place ≡ Pinned at to → (unit_of (after b e) x ≡ Some v) ⊎ ((p : Unit) × (fetched b e ≡ Some (to, p)))
pinned_kept b e x v at to (stays same idle) found is = inl (rw same found)
pinned_kept b e x v at to (adds rank r u server there puts units accepts grants gives) found is =
    inl (rw units (find_before (λ u. same_unit u.unit.id x) b.units (record { unit = u; place = Free server } ∷ []) v found))
pinned_kept b e x v at to (pins id u server rank m accepts grants gives) found is =
    inl (other_stays b e id x u v (Free server) (Pinned server rank) (Pinned at to) m found is (λ same. absurd (cc)))
pinned_kept b e x v at to (spends id u server rank m accepts grants gives) found is = by_test (same_unit id x) refl
  where
    by_test : (t : Bool) → same_unit id x ≡ t → (unit_of (after b e) x ≡ Some v) ⊎ ((p : Unit) × (fetched b e ≡ Some (to, p)))
    by_test true same =
        let one : id ≡ x = same_unit_is id x same in
        let there : unit_of b x ≡ Some u = rw one at m.there in
        let both : v ≡ u = some_is (sym found ∙ there) in
        let places : Pinned server rank ≡ Pinned at to = sym m.stood ∙ sym (ap (λ (w : Placed). w.place) both) ∙ is in
        let ranks : rank ≡ to = cc in
        inr (u.unit, gives ∙ ap (λ (k : Rank). Some (k, u.unit)) ranks)
    by_test false differ = inl (rw m.moves (moved_other b id x Spent differ ∙ found))
pinned_kept b e x v at to (leaves id u server goes m idle) found is =
    inl (other_stays b e id x u v (Free server) (Travelling goes) (Pinned at to) m found is (λ same. absurd (cc)))
pinned_kept b e x v at to (arrives id u server m idle) found is =
    inl (other_stays b e id x u v (Travelling server) (Free server) (Pinned at to) m found is (λ same. absurd (cc)))

-- a pinned unit stays so until it is fetched
pub pinned_stays : (b : Bag) (e : Entry) (x : UnitId) (v : Placed) (at : Server) (to : Rank) → Legal b e → unit_of b x ≡ Some v
    → v.place ≡ Pinned at to → (unit_of (after b e) x ≡ Some v) ⊎ ((p : Unit) × (fetched b e ≡ Some (to, p)))
pinned_stays b e x v at to l found is = pinned_kept b e x v at to (shift_of b e l) found is

-- A unit that is spent stays so.
spent_kept : (b : Bag) (e : Entry) (x : UnitId) (v : Placed) → Shift b e → unit_of b x ≡ Some v → v.place ≡ Spent
    → unit_of (after b e) x ≡ Some v
spent_kept b e x v (stays same idle) found is = rw same found
spent_kept b e x v (adds rank r u server there puts units accepts grants gives) found is =
    rw units (find_before (λ u. same_unit u.unit.id x) b.units (record { unit = u; place = Free server } ∷ []) v found)
spent_kept b e x v (pins id u server rank m accepts grants gives) found is =
    other_stays b e id x u v (Free server) (Pinned server rank) Spent m found is (λ same. absurd (cc))
spent_kept b e x v (spends id u server rank m accepts grants gives) found is =
    other_stays b e id x u v (Pinned server rank) Spent Spent m found is (λ same. absurd (cc))
spent_kept b e x v (leaves id u server to m idle) found is =
    other_stays b e id x u v (Free server) (Travelling to) Spent m found is (λ same. absurd (cc))
spent_kept b e x v (arrives id u server m idle) found is =
    other_stays b e id x u v (Travelling server) (Free server) Spent m found is (λ same. absurd (cc))

-- a spent unit stays so
pub spent_stays : (b : Bag) (e : Entry) (x : UnitId) (v : Placed) → Legal b e → unit_of b x ≡ Some v → v.place ≡ Spent
    → unit_of (after b e) x ≡ Some v
spent_stays b e x v l found is = spent_kept b e x v (shift_of b e l) found is
