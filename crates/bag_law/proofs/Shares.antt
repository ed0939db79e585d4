-- Each unit has the part that it shares.
use Rattle.std.proofs.Common.{◌≡◌, ◌⊎◌, inl, inr, ◌+◌, Bool, true, false, List, [], ◌∷◌, ◌++◌, length, Option, Some, None, refl, sym, ap}
use Rattle.std.proofs.Common.{◌∙◌, subst}
use Rattle.adlb_unit.specs.declared.names.Server.{Server}
use Rattle.adlb_unit.specs.declared.names.UnitId.{UnitId}
use Rattle.adlb_unit.specs.declared.names.BatchId.{BatchId}
use Rattle.adlb_unit.specs.declared.names.CommonRef.{CommonRef}
use Rattle.adlb_unit.specs.Ids.{same_batch, same_unit}
use Rattle.bag_ledger.specs.declared.entries.Entry.{Entry}
use Rattle.bag_ledger.specs.declared.entries.Entry.TheVariants.{Accepted, Kept, Closed, Freed, Granted, Fetched, CommonFetched, Left}
use Rattle.bag_ledger.specs.declared.entries.Entry.TheVariants.{Arrived}
use Rattle.bag_ledger.specs.declared.states.Placed.{Placed}
use Rattle.bag_ledger.specs.declared.states.Part.{Part}
use Rattle.bag_ledger.specs.declared.states.UnitPlace.{UnitPlace}
use Rattle.bag_ledger.specs.declared.states.UnitPlace.TheVariants.{Free, Travelling, Pinned, Spent}
use Rattle.bag_ledger.specs.Bag.{Bag, unit_of}
use Rattle.bag_ledger.specs.Steps.{LegalWhere, after, change_first, moved, new_part}
use Rattle.bag_ledger.proofs.Lookups.{find_appended, find_before}
use Rattle.bag_ledger.proofs.Moves.{moved_is}
use Rattle.bag_law.specs.Counts.{part_in}
use Rattle.bag_law.specs.Sound.{BatchesAreOpen, HasPart, UnitsHaveParts}
use Rattle.bag_law.proofs.Batches.{put_is_open}
use Rattle.bag_law.proofs.Turn.{part_is}
use Rattle.bag_law.proofs.Plain.{IsAccepted, accepted_is, kept_is, lodged, shared_parts}

-- a part changes, and stays its batch's, where it was and as long
record IsAlike (p q : Part) : Type 0 where
  batch : q.batch ≡ p.batch
  server : q.server ≡ p.server
  common : q.common ≡ p.common

part_changed : (g : Part → Part) → ((p : Part) → IsAlike p (g p)) → (batch : BatchId) (ps : List Part) (o : Option CommonRef) → HasPart ps o
    → HasPart (change_first g (λ q. same_batch q.batch batch) ps) o
part_changed g same batch ps None is = tt
part_changed g same batch ps (Some c) is = let q = part_is g (λ p. (same p).batch) batch c.batch ps is.0 is.1 in by_part q.0 q.1 q.2
  where
    by_part : (q : Part) → part_in (change_first g (λ q. same_batch q.batch batch) ps) c.batch ≡ Some q
        → (q ≡ is.0) ⊎ ((c.batch ≡ batch) × (q ≡ g is.0)) → HasPart (change_first g (λ q. same_batch q.batch batch) ps) (Some c)
    by_part q e (inl at) = (q, e, rw at is.2, rw at is.3)
    by_part q e (inr at) = let s = same is.0 in (q, e, rw at.1 (s.server ∙ is.2), rw at.1 (ap length s.common ∙ is.3))

shared_changed : (us : List Placed) (ps : List Part) (batch : BatchId) (g : Part → Part) → ((p : Part) → IsAlike p (g p))
    → UnitsHaveParts us ps → UnitsHaveParts us (change_first g (λ q. same_batch q.batch batch) ps)
shared_changed us ps batch g same is = record { each = λ id u e. part_changed g same batch ps u.unit.common (is.each id u e) }

shared_moved : (b : Bag) (id : UnitId) (place : UnitPlace) (u : Placed) → unit_of b id ≡ Some u → UnitsHaveParts b.units b.parts
    → UnitsHaveParts (moved id place b).units b.parts
shared_moved b id place u there is = record { each = λ x v e. by_case x v (moved_is b id x place u v there e) }
  where
    by_case : (x : UnitId) (v : Placed)
        → ((x ≡ id) × (v ≡ record u { place = place })) ⊎ ((same_unit id x ≡ false) × (unit_of b x ≡ Some v))
        → HasPart b.parts v.unit.common
    by_case x v (inl c) = rw c.1 (is.each id u there)
    by_case x v (inr c) = is.each x v c.1

part_more : (ps : List Part) (p : Part) (o : Option CommonRef) → HasPart ps o → HasPart (ps ++ p ∷ []) o
part_more ps p None is = tt
part_more ps p (Some c) is = (is.0, find_before (λ q. same_batch q.batch c.batch) ps (p ∷ []) is.0 is.1, is.2, is.3)

shared_accepted : (b n : Bag) (server : Server) (id : UnitId) → IsAccepted b n server id → BatchesAreOpen b.ranks b.parts
    → UnitsHaveParts b.units b.parts → UnitsHaveParts n.units n.parts
shared_accepted b n server id a parts is = rw (a.units, a.parts) (by_common a.u.common refl)
  where
    pushed : HasPart b.parts a.u.common → UnitsHaveParts (b.units ++ lodged server a.u ∷ []) b.parts
    pushed own = record { each = λ x v e. by_case x v (find_appended (λ u. same_unit u.unit.id x) b.units (lodged server a.u) v e) }
      where
        by_case : (x : UnitId) (v : Placed) → (unit_of b x ≡ Some v) ⊎ ((same_unit a.u.id x ≡ true) × (lodged server a.u ≡ v))
            → HasPart b.parts v.unit.common
        by_case x v (inl old) = is.each x v old
        by_case x v (inr new) = rw (← new.1) own

    by_common : (o : Option CommonRef) → a.u.common ≡ o → UnitsHaveParts (b.units ++ lodged server a.u ∷ []) (shared_parts o b.parts)
    by_common None e = pushed (rw e tt)
    by_common (Some c) e =
        let p = put_is_open b.ranks b.parts id.rank.0 a.r a.u c a.there a.puts e parts in
        let own : HasPart b.parts (Some c) = (p.0, p.1, p.3, p.4) in
        shared_changed _ b.parts c.batch (λ p. record p { accepted = p.accepted + 1 })
        (λ p. record { batch = refl; server = refl; common = refl }) (pushed (rw e own))

-- the units of a bag and their parts
abbrev pub HasShares : Bag → Type 0
HasShares b = UnitsHaveParts b.units b.parts

-- a legal entry keeps the part of each unit
pub shares_stay : (found : Bag → Bool) (b : Bag) (e : Entry) → LegalWhere found b e → BatchesAreOpen b.ranks b.parts → HasShares b
    → HasShares (after b e)
shares_stay found b (Accepted server id) l parts is = shared_accepted b _ server id (accepted_is b server id l) parts is
shares_stay found b (Kept server batch) l parts is =
    subst HasShares (sym (kept_is b server batch l))
    (record { each = λ id u e. part_more b.parts (new_part server batch l.1) u.unit.common (is.each id u e) })
shares_stay found b (Closed server batch) l parts is =
    shared_changed _ _ batch (λ p. record p { closed = true }) (λ p. record { batch = refl; server = refl; common = refl }) is
shares_stay found b (Freed server batch) l parts is =
    shared_changed _ _ batch (λ p. record p { freed = true }) (λ p. record { batch = refl; server = refl; common = refl }) is
shares_stay found b (Granted server rank call id) l parts is = shared_moved b id (Pinned server rank) l.2 l.6.0 is
shares_stay found b (Fetched server rank id) l parts is = shared_moved b id Spent l.2 l.6.0 is
shares_stay found b (CommonFetched server rank batch) l parts is =
    shared_changed _ _ batch (λ p. record p { fetched = p.fetched + 1 }) (λ p. record { batch = refl; server = refl; common = refl }) is
shares_stay found b (Left server to id) l parts is = shared_moved b id (Travelling to) l.0 l.2.0 is
shares_stay found b (Arrived server id) l parts is = shared_moved b id (Free server) l.0 l.1.0 is
shares_stay found b _ l parts is = is
