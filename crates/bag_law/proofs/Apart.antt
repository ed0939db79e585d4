-- A promised unit is not at the server that promised.
use Rattle.std.proofs.Common.{◌≡◌, ◌⊎◌, inl, inr, Bool, true, false, [], ◌∷◌, Some, None, refl, sym, ◌∙◌, subst}
use Rattle.adlb_unit.specs.declared.names.UnitId.{UnitId}
use Rattle.adlb_unit.specs.Ids.{same_unit}
use Rattle.adlb_unit.proofs.Same.{same_unit_is}
use Rattle.bag_ledger.specs.declared.entries.Entry.{Entry}
use Rattle.bag_ledger.specs.declared.entries.Entry.TheVariants.{Accepted, Kept, Granted, Fetched, Promised, Left, Arrived, Withdrawn}
use Rattle.bag_ledger.specs.declared.states.Placed.{Placed}
use Rattle.bag_ledger.specs.declared.states.Promise.{Promise}
use Rattle.bag_ledger.specs.declared.states.UnitPlace.{UnitPlace}
use Rattle.bag_ledger.specs.declared.states.UnitPlace.TheVariants.{Free, Travelling, Pinned, Spent}
use Rattle.bag_ledger.specs.Bag.{Bag, is_placed_at, promise_of, unit_of}
use Rattle.bag_ledger.specs.Steps.{LegalWhere, after, moved, unpromised}
use Rattle.bag_ledger.proofs.Lookups.{find_appended, find_before, find_filtered}
use Rattle.bag_ledger.proofs.Moves.{moved_is, unpromised_is}
use Rattle.bag_ledger.proofs.Tests.{some_is}
use Rattle.bag_ledger.specs.Words.{IsTracked}
use Rattle.bag_law.specs.Sound.{PromisesAreApart}
use Rattle.bag_law.proofs.Plain.{accepted_is, kept_is, lodged}

-- the promises of a bag
abbrev pub IsApart : Bag → Type 0
IsApart b = PromisesAreApart b.units b.promises

apart_moved : (b : Bag) (id : UnitId) (place : UnitPlace) (u : Placed) → unit_of b id ≡ Some u
    → ((p : Promise) → promise_of b id ≡ Some p → is_placed_at p.server place ≡ false) → IsApart b
    → PromisesAreApart (moved id place b).units b.promises
apart_moved b id place u there away is = record { each = λ x v p at promised. by_case x v p promised (moved_is b id x place u v there at) }
  where
    by_case : (x : UnitId) (v : Placed) (p : Promise) → promise_of b x ≡ Some p
        → ((x ≡ id) × (v ≡ record u { place = place })) ⊎ ((same_unit id x ≡ false) × (unit_of b x ≡ Some v))
        → is_placed_at p.server v.place ≡ false
    by_case x v p promised (inl c) = let own : promise_of b id ≡ Some p = rw c.0 at promised in rw c.1 (away p own)
    by_case x v p promised (inr c) = is.each x v p c.1 promised

-- a legal entry keeps promised units apart from their promises
pub apart_stays : (found : Bag → Bool) (b : Bag) (e : Entry) → LegalWhere found b e → IsTracked b → IsApart b → IsApart (after b e)
apart_stays found b (Accepted server id) l promised is =
    let a = accepted_is b server id l in
    rw (a.units, a.promises) (record {
      each = λ x v p at of.
          let m = promised.measured x p of in
          let one : m.0 ≡ v = some_is (sym (find_before (λ u. same_unit u.unit.id x) b.units (lodged server a.u ∷ []) m.0 m.1) ∙ at) in
          rw (← one) (is.each x m.0 p m.1 of);
    })
apart_stays found b (Kept server batch) l promised is = subst IsApart (sym (kept_is b server batch l)) is
apart_stays found b (Granted server rank call id) l promised is =
    apart_moved b id (Pinned server rank) l.2 l.6.0
    (λ p of. let was : is_placed_at p.server l.2.place ≡ false = is.each id l.2 p l.6.0 of in rw l.6.1 at was) is
apart_stays found b (Fetched server rank id) l promised is = apart_moved b id Spent l.2 l.6.0 (λ p of. refl) is
apart_stays found b (Left server to id) l promised is = apart_moved b id (Travelling to) l.0 l.2.0 (λ p of. refl) is
apart_stays found b (Arrived server id) l promised is =
    record { each = λ x v p at of. by_case x v p of (moved_is b id x (Free server) l.0 v l.1.0 at) }
  where
    by_case : (x : UnitId) (v : Placed) (p : Promise) → promise_of (unpromised id b) x ≡ Some p
        → ((x ≡ id) × (v ≡ record l.0 { place = Free server })) ⊎ ((same_unit id x ≡ false) × (unit_of b x ≡ Some v))
        → is_placed_at p.server v.place ≡ false
    by_case x v p of (inl c) =
        let own : promise_of (unpromised id b) id ≡ Some p = rw c.0 at of in
        let none : promise_of (unpromised id b) id ≡ None = find_filtered (λ (p : Promise). same_unit p.id id) b.promises in
        absurd (cc)
    by_case x v p of (inr c) = is.each x v p c.1 (unpromised_is b id x p of)
apart_stays found b (Promised server id n) l promised is =
    record {
      each = λ x v p at of. by_case x v p at
          (find_appended (λ p. same_unit p.id x) b.promises (record { server = server; id = id; length = n }) p of);
    }
  where
    by_case : (x : UnitId) (v : Placed) (p : Promise) → unit_of b x ≡ Some v
        → (promise_of b x ≡ Some p) ⊎ ((same_unit id x ≡ true) × (record { server = server; id = id; length = n } ≡ p))
        → is_placed_at p.server v.place ≡ false
    by_case x v p at (inl old) = is.each x v p at old
    by_case x v p at (inr new) =
        let found : unit_of b id ≡ Some v = rw (← same_unit_is id x new.0) at at in
        let one : l.0 ≡ v = some_is (sym l.1 ∙ found) in
        rw (← new.1, ← one) l.5
apart_stays found b (Withdrawn server id) l promised is = record { each = λ x v p at of. is.each x v p at (unpromised_is b id x p of) }
apart_stays found b _ l promised is = is
