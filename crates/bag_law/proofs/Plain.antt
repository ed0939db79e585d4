-- The entries by which one rank has a turn and nothing else happens, and the others.
use Rattle.std.proofs.Common.{◌≡◌, ℕ, ◌+◌, ◌≤◌, ◌⊎◌, inl, inr, Bool, true, false, List, [], ◌∷◌, ◌++◌, Option, Some, None, refl, sym, ap}
use Rattle.std.proofs.Common.{subst, arith, slice_get}
use Rattle.std.specs.Prelude.{option_and_then}
use Rattle.adlb_unit.specs.declared.names.Server.{Server}
use Rattle.adlb_unit.specs.declared.names.UnitId.{UnitId}
use Rattle.adlb_unit.specs.declared.names.BatchId.{BatchId}
use Rattle.adlb_unit.specs.declared.names.CommonRef.{CommonRef}
use Rattle.adlb_unit.specs.declared.units.Unit.{Unit}
use Rattle.adlb_unit.specs.Ids.{same_batch}
use Rattle.bag_ledger.specs.declared.states.Placed.{Placed}
use Rattle.bag_ledger.specs.declared.states.Part.{Part}
use Rattle.bag_ledger.specs.declared.states.UnitPlace.TheVariants.{Free}
use Rattle.bag_ledger.proofs.Charge.{unit_put}
use Rattle.adlb_unit.specs.declared.notes.End.{End}
use Rattle.adlb_unit.specs.declared.notes.End.TheVariants as ends_by
use Rattle.adlb_unit.specs.declared.names.Rank.{Rank}
use Rattle.bag_ledger.proofs.Tests.{some_is}
use Rattle.adlb_unit.specs.declared.names.WorkType.{WorkType}
use Rattle.bag_ledger.specs.declared.entries.Entry.{Entry}
use Rattle.bag_ledger.specs.declared.entries.Entry.TheVariants.{Refused, Accepted, Rejected, Kept, Closing, Asked, Tried, Looked, NoCurrent}
use Rattle.bag_ledger.specs.declared.entries.Entry.TheVariants.{Counting, Counted, Done, Over, Finished}
use Rattle.bag_ledger.specs.declared.states.RankState.{RankState}
use Rattle.bag_ledger.specs.declared.states.Status.{Status}
use Rattle.bag_ledger.specs.declared.states.Status.TheVariants as does
use Rattle.bag_ledger.specs.Bag.{Bag, keeping, offer, open_call, putting, rank_at, wish}
use Rattle.bag_ledger.specs.Steps.{Legal, LegalWhere, after, begun, change_at, change_first, declined_by, ended, has_cause, kept, taken}
use Rattle.bag_ledger.specs.Steps.{with_rank}

-- a fetch; nothing that brings or fetches
abbrev pub is_fetch : Status → Bool
is_fetch (does.Fetching call id own) = true
is_fetch _ = false

-- neither a put, a batch beginning nor a fetch
abbrev pub is_bare : Status → Bool
is_bare (does.Putting u) = false
is_bare (does.Keeping call common) = false
is_bare (does.Fetching call id own) = false
is_bare _ = true

-- the status is the same, or no fetch was and nothing is brought or fetched now
abbrev pub IsCalm : Status → Status → Type 0
IsCalm s t = (t ≡ s) ⊎ ((is_fetch s ≡ false) × (is_bare t ≡ true))

-- one rank has its turn; units, parts, promises and its batch stay, and it brings and fetches nothing new
pub record IsPlain (b n : Bag) : Type 0 where
  pub place : ℕ
  pub f : RankState → RankState
  pub r : RankState
  pub there : slice_get b.ranks place ≡ Some r
  pub ranks : n.ranks ≡ change_at f place b.ranks
  pub units : n.units ≡ b.units
  pub parts : n.parts ≡ b.parts
  pub promises : n.promises ≡ b.promises
  pub rises : r.next ≤ (f r).next
  pub batch : (f r).batch ≡ r.batch
  pub calm : IsCalm r.status (f r).status
  pub tells : (end : End) → (f r).end ≡ Some end → (r.end ≡ Some end) ⊎ (has_cause b end ≡ true)
  pub causes : (end : End) → has_cause b end ≡ true → has_cause n end ≡ true

-- the entries of which this is not so
abbrev pub is_special : Entry → Bool
is_special (Refused server id used) = false
is_special (Rejected rank call) = false
is_special (Closing rank call) = false
is_special (Asked rank call types) = false
is_special (Tried rank call types) = false
is_special (Looked server rank call) = false
is_special (NoCurrent rank call) = false
is_special (Counting rank call kind) = false
is_special (Counted server rank call info) = false
is_special (Done rank call) = false
is_special (Over rank call end) = false
is_special (Finished rank call) = false
is_special _ = true

-- a rank that brings or wants something fetches nothing
pub offer_bare : (s : Status) (x : ℕ × ℕ) → offer s ≡ Some x → is_fetch s ≡ false
offer_bare (does.Fetching call id own) x e = absurd (cc)
offer_bare _ x e = refl

-- a call that is open to servers is no fetch
pub open_bare : (s : Status) (x : ℕ) → open_call s ≡ Some x → is_fetch s ≡ false
open_bare (does.Fetching call id own) x e = absurd (cc)
open_bare _ x e = refl

-- a rank that wants something fetches nothing
pub wish_bare : (s : Status) (x : ℕ × Option (List WorkType)) → wish s ≡ Some x → is_fetch s ≡ false
wish_bare (does.Fetching call id own) x e = absurd (cc)
wish_bare _ x e = refl

plain : (b n : Bag) (place : ℕ) (f : RankState → RankState) (r : RankState) → slice_get b.ranks place ≡ Some r
    → n.ranks ≡ change_at f place b.ranks → n.units ≡ b.units → n.parts ≡ b.parts → n.promises ≡ b.promises → r.next ≤ (f r).next
    → (f r).batch ≡ r.batch → IsCalm r.status (f r).status
    → ((end : End) → (f r).end ≡ Some end → (r.end ≡ Some end) ⊎ (has_cause b end ≡ true))
    → ((end : End) → has_cause b end ≡ true → has_cause n end ≡ true) → IsPlain b n
plain b n place f r there ranks units parts promises rises batch calm tells causes =
    record {
      place = place;
      f = f;
      r = r;
      there = there;
      ranks = ranks;
      units = units;
      parts = parts;
      promises = promises;
      rises = rises;
      batch = batch;
      calm = calm;
      tells = tells;
      causes = causes;
    }

begins : (b n : Bag) (place : ℕ) (s : Status) (r : RankState) → slice_get b.ranks place ≡ Some r → r.status ≡ does.Running
    → is_bare s ≡ true → n.ranks ≡ change_at (begun s) place b.ranks → n.units ≡ b.units → n.parts ≡ b.parts → n.promises ≡ b.promises
    → ((end : End) → has_cause b end ≡ true → has_cause n end ≡ true) → IsPlain b n
begins b n place s r there runs bare ranks units parts promises causes =
    plain b n place (begun s) r there ranks units parts promises (omega arith) refl (inr (rw runs refl, bare)) (λ end e. inl e) causes

done_causes : (b : Bag) (rank : Rank) (call : ℕ) (end : End) → has_cause b end ≡ true → has_cause (after b (Done rank call)) end ≡ true
done_causes b rank call ends_by.NoMoreWork e = refl
done_causes b rank call ends_by.Exhausted e = e

-- an entry is plain, or special
pub plain_or_special : (found : Bag → Bool) (b : Bag) (e : Entry) → LegalWhere found b e → IsPlain b (after b e) ⊎ (is_special e ≡ true)
plain_or_special found b (Refused server id used) l =
    inl (plain _ _ id.rank.0 (declined_by server) l.0 l.2 refl refl refl refl (omega arith) refl (inl refl) (λ end e. inl e) (λ end c. c))
plain_or_special found b (Rejected rank call) l =
    inl (plain _ _ rank.0 ended l.0 l.2 refl refl refl refl (omega arith) refl (inr (offer_bare l.0.status (call, l.1) l.3, refl))
    (λ end e. inl e) (λ end c. c))
plain_or_special found b (Closing rank call) l =
    inl (begins _ _ rank.0 (does.Closing call) l.0 l.2.0 l.2.1 refl refl refl refl refl (λ end c. c))
plain_or_special found b (Asked rank call types) l =
    inl (begins _ _ rank.0 (does.Asking call types) l.0 l.1.0 l.1.1 refl refl refl refl refl (λ end c. c))
plain_or_special found b (Tried rank call types) l =
    inl (begins _ _ rank.0 (does.Trying call types) l.0 l.1.0 l.1.1 refl refl refl refl refl (λ end c. c))
plain_or_special found b (Looked server rank call) l =
    inl (plain _ _ rank.0 (declined_by server) l.0 l.2 refl refl refl refl (omega arith) refl (inl refl) (λ end e. inl e) (λ end c. c))
plain_or_special found b (NoCurrent rank call) l =
    inl (plain _ _ rank.0 ended l.0 l.2 refl refl refl refl (omega arith) refl (inr (rw l.3 refl, refl)) (λ end e. inl e) (λ end c. c))
plain_or_special found b (Counting rank call kind) l =
    inl (begins _ _ rank.0 (does.Counting call kind) l.0 l.1.0 l.1.1 refl refl refl refl refl (λ end c. c))
plain_or_special found b (Counted server rank call info) l =
    inl (plain _ _ rank.0 ended l.0 l.2 refl refl refl refl (omega arith) refl (inr (rw l.3 refl, refl)) (λ end e. inl e) (λ end c. c))
plain_or_special found b (Done rank call) l =
    inl (begins _ _ rank.0 does.Running l.0 l.1.0 l.1.1 refl refl refl refl refl (done_causes b rank call))
plain_or_special found b (Over rank call end) l =
    inl (plain _ _ rank.0 (λ r. ended (record r { end = Some end })) l.0 l.1 refl refl refl refl (omega arith) refl
    (inr (open_bare l.0.status call l.2, refl)) (λ x e. let same : end ≡ x = some_is e in inr (rw (← same) l.3)) (λ end c. c))
plain_or_special found b (Finished rank call) l =
    inl (begins _ _ rank.0 does.Finished l.0 l.1.0 l.1.1 refl refl refl refl refl (λ end c. c))
plain_or_special found b _ l = inr refl

-- What an Accepted and a Kept do, component by component.

-- the parts where a unit with this common part is accepted
abbrev pub shared_parts : Option CommonRef → List Part → List Part
shared_parts None parts = parts
shared_parts (Some c) parts = change_first (λ p. record p { accepted = p.accepted + 1 }) (λ p. same_batch p.batch c.batch) parts

-- the unit where it is accepted
abbrev pub lodged : Server → Unit → Placed
lodged server u = record { unit = u; place = Free server }

-- what Accepted does, component by component
pub record IsAccepted (b n : Bag) (server : Server) (id : UnitId) : Type 0 where
  pub r : RankState
  pub u : Unit
  pub there : slice_get b.ranks id.rank.0 ≡ Some r
  pub puts : r.status ≡ does.Putting u
  pub named : u.id ≡ id
  pub ranks : n.ranks ≡ change_at ended id.rank.0 b.ranks
  pub units : n.units ≡ b.units ++ lodged server u ∷ []
  pub parts : n.parts ≡ shared_parts u.common b.parts
  pub promises : n.promises ≡ b.promises
  pub done : n.done ≡ b.done
  pub exhausted : n.exhausted ≡ b.exhausted

taken_is : (b : Bag) (server : Server) (id : UnitId) (r : RankState) (u : Unit) (common : Option CommonRef) → u.common ≡ common
    → slice_get b.ranks id.rank.0 ≡ Some r → r.status ≡ does.Putting u → u.id ≡ id
    → IsAccepted b (with_rank id.rank ended (taken server (Some u) b)) server id
taken_is b server id r u None is there puts named =
    record {
      r = r;
      u = u;
      there = there;
      puts = puts;
      named = named;
      ranks = rw is refl;
      units = rw is refl;
      parts = rw is refl;
      promises = rw is refl;
      done = rw is refl;
      exhausted = rw is refl;
    }
taken_is b server id r u (Some c) is there puts named =
    record {
      r = r;
      u = u;
      there = there;
      puts = puts;
      named = named;
      ranks = rw is refl;
      units = rw is refl;
      parts = rw is refl;
      promises = rw is refl;
      done = rw is refl;
      exhausted = rw is refl;
    }

-- Accepted does what `IsAccepted` says
pub accepted_is : (b : Bag) (server : Server) (id : UnitId) → Legal b (Accepted server id)
    → IsAccepted b (after b (Accepted server id)) server id
accepted_is b server id l =
    let put : option_and_then (λ r. putting r.status) (rank_at b id.rank) ≡ Some l.1 =
    unit_put (λ r. putting r.status) (rank_at b id.rank) l.0 l.1 l.2 (rw l.3 refl) in
    subst (λ o. IsAccepted b (with_rank id.rank ended (taken server o b)) server id) (sym put)
    (taken_is b server id l.0 l.1 l.1.common refl l.2 l.3 l.4)

-- what Kept does
pub kept_is : (b : Bag) (server : Server) (batch : BatchId) (l : Legal b (Kept server batch))
    → after b (Kept server batch) ≡ kept server batch (Some (batch.number, l.1)) b
kept_is b server batch l =
    ap (λ o. kept server batch o b) (unit_put (λ r. keeping r.status) (rank_at b batch.rank) l.0 (batch.number, l.1) l.2 (rw l.3 refl))
