-- Batches and their parts.
use Rattle.std.proofs.Common.{◌≡◌, ℕ, ◌+◌, ◌⊎◌, inl, inr, Bool, true, false, not, ◌&&◌, ◌==◌, List, [], ◌∷◌, ◌++◌, length, Option, Some}
use Rattle.std.proofs.Common.{None, refl, sym, ap, ◌∙◌, subst, slice_get}
use Rattle.std.proofs.lemmas.Bool.{and_parts, eqb-true}
use Rattle.adlb_unit.specs.declared.names.Server.{Server}
use Rattle.adlb_unit.specs.declared.names.UnitId.{UnitId}
use Rattle.adlb_unit.specs.declared.names.BatchId.{BatchId}
use Rattle.adlb_unit.specs.declared.names.CommonRef.{CommonRef}
use Rattle.adlb_unit.specs.Ids.{same_batch}
use Rattle.adlb_unit.proofs.Same.{same_batch_from, same_batch_is}
use Rattle.bag_ledger.specs.declared.entries.Entry.{Entry}
use Rattle.bag_ledger.specs.declared.entries.Entry.TheVariants.{Putting, Accepted, Keeping, Kept, Closed, Freed, Granted, Fetching, Fetched}
use Rattle.bag_ledger.specs.declared.entries.Entry.TheVariants.{CommonFetched, Promised, Left, Arrived, Withdrawn, Exhausted}
use Rattle.bag_ledger.specs.declared.states.RankState.{RankState}
use Rattle.bag_ledger.specs.declared.states.Part.{Part}
use Rattle.bag_ledger.specs.declared.states.Status.{Status}
use Rattle.bag_ledger.specs.declared.states.Status.TheVariants as does
use Rattle.bag_ledger.specs.Bag.{Bag, is_due}
use Rattle.bag_ledger.specs.Steps.{Legal, LegalWhere, after, ended, change_at, change_first, kept, new_part, own_fetched}
use Rattle.bag_ledger.proofs.Lookups.{find_appended, find_before}
use Rattle.bag_ledger.proofs.Tests.{some_is}
use Rattle.bag_law.specs.Counts.{part_in}
use Rattle.bag_law.specs.Sound.{BatchesAreOpen, HasOpenPart, IdsAreNew, IsBroughtBy, IsOpenBatch, IsRanksBatch}
use Rattle.bag_law.proofs.Ids.{begun_part_is_new}
use Rattle.bag_law.proofs.Turn.{PartWas, Turned, found_new, turned, part_is, part_was}
use Rattle.bag_law.proofs.Plain.{IsAccepted, IsCalm, IsPlain, accepted_is, is_bare, is_special, kept_is, shared_parts, plain_or_special}

-- A rank has its turn, and its batch stays.

parts_turn : (ranks : List RankState) (ps : List Part) (place : ℕ) (f : RankState → RankState) (r : RankState)
    → slice_get ranks place ≡ Some r → (f r).batch ≡ r.batch → (IsBroughtBy place r r.status → IsBroughtBy place (f r) (f r).status)
    → BatchesAreOpen ranks ps → BatchesAreOpen (change_at f place ranks) ps
parts_turn ranks ps place f r there same puts is = record {
  brought = λ n v e. named n v e (turned f place ranks r there n);
  batch = λ n v e. batch n v e (turned f place ranks r there n);
  open_is =
      λ x p found opened. let o = is.open_is x p found opened in open_is x o.0 o.1 o.2 o.3 o.4 (turned f place ranks r there x.rank.0);
  freed = is.freed;
}
  where
    named : (n : ℕ) (v : RankState) → slice_get (change_at f place ranks) n ≡ Some v → Turned f place ranks r n → IsBroughtBy n v v.status
    named n v e (inl c) =
        let now : f r ≡ v = some_is (sym c.1 ∙ e) in
        let own : IsBroughtBy place (f r) (f r).status = puts (is.brought place r there) in
        rw (← now, ← c.0) own
    named n v e (inr c) = is.brought n v (sym c.1 ∙ e)

    batch : (n : ℕ) (v : RankState) → slice_get (change_at f place ranks) n ≡ Some v → Turned f place ranks r n → IsOpenBatch ps n v.batch
    batch n v e (inl c) =
        let now : v.batch ≡ r.batch = ap (λ (x : RankState). x.batch) (some_is (sym e ∙ c.1)) ∙ same in
        rw now (is.batch n r c.2)
    batch n v e (inr c) = is.batch n v (sym c.1 ∙ e)

    open_is : (x : BatchId) (v : RankState) (c : CommonRef) → slice_get ranks x.rank.0 ≡ Some v → v.batch ≡ Some c → c.batch ≡ x
        → Turned f place ranks r x.rank.0
        → IsRanksBatch (change_at f place ranks) x
    open_is x v c e has names (inl t) =
        let was : r ≡ v = some_is (sym t.2 ∙ e) in
        (f r, c, t.1, same ∙ ap (λ (y : RankState). y.batch) was ∙ has, names)
    open_is x v c e has names (inr t) = (v, c, t.1 ∙ e, has, names)

puts_bare : (n : ℕ) (v : RankState) (s : Status) → is_bare s ≡ true → IsBroughtBy n v s
puts_bare n v (does.Putting u) e = absurd (cc)
puts_bare n v (does.Keeping call common) e = absurd (cc)
puts_bare n v _ e = tt

puts_as : (n : ℕ) (r v : RankState) (s : Status) → v.batch ≡ r.batch → IsBroughtBy n r s → IsBroughtBy n v s
puts_as n r v (does.Putting u) same is = (is.0, is.1 ∙ sym same)
puts_as n r v (does.Keeping call common) same is = same ∙ is
puts_as n r v _ same is = tt

puts_calm : (n : ℕ) (r v : RankState) → v.batch ≡ r.batch → IsCalm r.status v.status → IsBroughtBy n r r.status → IsBroughtBy n v v.status
puts_calm n r v same (inl status) is = rw status (puts_as n r v r.status same is)
puts_calm n r v same (inr bare) is = puts_bare n v v.status bare.1

-- A part changes, and stays its batch's, as open as it was, and where it was.

-- q is the part p, as open as it was
pub record IsSamePart (p q : Part) : Type 0 where
  pub batch : q.batch ≡ p.batch
  pub closed : q.closed ≡ p.closed
  pub server : q.server ≡ p.server
  pub common : q.common ≡ p.common

open_changed : (g : Part → Part) → ((p : Part) → IsSamePart p (g p)) → (batch : BatchId) (ps : List Part) (n : ℕ) (o : Option CommonRef)
    → IsOpenBatch ps n o → IsOpenBatch (change_first g (λ q. same_batch q.batch batch) ps) n o
open_changed g same batch ps n None is = tt
open_changed g same batch ps n (Some c) is =
    let q = part_is g (λ p. (same p).batch) batch c.batch ps is.1.0 is.1.1 in
    (is.0, by_part q.0 q.1 q.2)
  where
    by_part : (q : Part) → part_in (change_first g (λ q. same_batch q.batch batch) ps) c.batch ≡ Some q
        → (q ≡ is.1.0) ⊎ ((c.batch ≡ batch) × (q ≡ g is.1.0))
        → HasOpenPart (change_first g (λ q. same_batch q.batch batch) ps) c
    by_part q e (inl at) = (q, e, rw at is.1.2, rw at is.1.3, rw at is.1.4)
    by_part q e (inr at) =
        let s = same is.1.0 in
        (q, e, rw at.1 (s.closed ∙ is.1.2), rw at.1 (s.server ∙ is.1.3), rw at.1 (ap length s.common ∙ is.1.4))

parts_changed : (ranks : List RankState) (ps : List Part) (batch : BatchId) (g : Part → Part) → ((p : Part) → IsSamePart p (g p))
    → ((p : Part) → part_in ps batch ≡ Some p → (g p).freed ≡ true → ((g p).closed ≡ true) × ((g p).fetched ≡ (g p).accepted))
    → BatchesAreOpen ranks ps → BatchesAreOpen ranks (change_first g (λ q. same_batch q.batch batch) ps)
parts_changed ranks ps batch g same free is = record {
  brought = is.brought;
  batch = λ n r e. open_changed g same batch ps n r.batch (is.batch n r e);
  open_is = λ x p found opened. open_is x p opened (part_was g (λ p. (same p).batch) batch x ps p found);
  freed = λ x p found freed. freed_is x p freed (part_was g (λ p. (same p).batch) batch x ps p found);
}
  where
    open_is : (x : BatchId) (p : Part) → p.closed ≡ false
        → PartWas g batch x ps p
        → IsRanksBatch ranks x
    open_is x p opened (inl w) =
        let was : w.1.0.closed ≡ false = sym (same w.1.0).closed ∙ ap (λ (q : Part). q.closed) (sym w.1.2) ∙ opened in
        rw w.0 (is.open_is batch w.1.0 w.1.1 was)
    open_is x p opened (inr w) = is.open_is x p w.1 opened

    freed_is : (x : BatchId) (p : Part) → p.freed ≡ true
        → PartWas g batch x ps p
        → (p.closed ≡ true) × (p.fetched ≡ p.accepted)
    freed_is x p freed (inl w) = let was : (g w.1.0).freed ≡ true = rw w.1.2 at freed in rw w.1.2 (free w.1.0 w.1.1 was)
    freed_is x p freed (inr w) = is.freed x p w.1 freed

-- the part that a pending put shares is open
pub put_is_open : (ranks : List RankState) (ps : List Part) (n : ℕ) (r : RankState) (u : _) (c : CommonRef) → slice_get ranks n ≡ Some r
    → r.status ≡ does.Putting u → u.common ≡ Some c → BatchesAreOpen ranks ps
    → HasOpenPart ps c
put_is_open ranks ps n r u c there puts shares is =
    let named : IsBroughtBy n r (does.Putting u) = rw puts at (is.brought n r there) in
    let batch : IsOpenBatch ps n (Some c) = rw (sym named.1 ∙ shares) at (is.batch n r there) in
    batch.1

parts_accepted : (b n : Bag) (server : Server) (id : UnitId) → IsAccepted b n server id → BatchesAreOpen b.ranks b.parts
    → BatchesAreOpen n.ranks n.parts
parts_accepted b n server id a is =
    rw (a.ranks, a.parts)
    (parts_turn b.ranks (shared_parts a.u.common b.parts) id.rank.0 ended a.r a.there refl (λ p. tt) (by_common a.u.common refl))
  where
    by_common : (o : Option CommonRef) → a.u.common ≡ o → BatchesAreOpen b.ranks (shared_parts o b.parts)
    by_common None e = is
    by_common (Some c) e =
        let opened = put_is_open b.ranks b.parts id.rank.0 a.r a.u c a.there a.puts e is in
        parts_changed b.ranks b.parts c.batch (λ p. record p { accepted = p.accepted + 1 })
        (λ p. record { batch = refl; closed = refl; server = refl; common = refl })
        (λ p found freed. let one : p ≡ opened.0 = some_is (sym found ∙ opened.1) in let closed =
        (is.freed c.batch p found freed).0 in let not : p.closed ≡ false = rw one opened.2 in absurd (cc))
        is

-- A batch begins.

HasBatches : Bag → Type 0
HasBatches b = BatchesAreOpen b.ranks b.parts

parts_kept : (b : Bag) (server : Server) (batch : BatchId) (l : Legal b (Kept server batch))
    → part_in b.parts batch ≡ None → HasBatches b → HasBatches (kept server batch (Some (batch.number, l.1)) b)
unfolding HasBatches
parts_kept b server batch l new is =
    let f : RankState → RankState =
    λ r. ended (record r { batch = Some (record { batch = batch; server = server; length = length l.1 }) }) in
    record {
      brought = λ n v e. named n v e (turned f batch.rank.0 b.ranks l.0 l.2 n);
      batch = λ n v e. batch_is n v e (turned f batch.rank.0 b.ranks l.0 l.2 n);
      open_is = λ x p found opened. open_is x p opened (find_appended (λ q. same_batch q.batch x) b.parts p₀ p found);
      freed = λ x p found freed. freed_is x p freed (find_appended (λ q. same_batch q.batch x) b.parts p₀ p found);
    }
  where
    p₀ : Part
    p₀ = new_part server batch l.1

    f₀ : RankState → RankState
    f₀ r = ended (record r { batch = Some (record { batch = batch; server = server; length = length l.1 }) })

    named : (n : ℕ) (v : RankState) → slice_get (change_at f₀ batch.rank.0 b.ranks) n ≡ Some v → Turned f₀ batch.rank.0 b.ranks l.0 n
        → IsBroughtBy n v v.status
    named n v e (inl c) = let now : f₀ l.0 ≡ v = some_is (sym c.1 ∙ e) in rw (← now) tt
    named n v e (inr c) = is.brought n v (sym c.1 ∙ e)

    more : (n : ℕ) (o : Option CommonRef) → IsOpenBatch b.parts n o → IsOpenBatch (b.parts ++ p₀ ∷ []) n o
    more n None was = tt
    more n (Some c) was =
        (was.0, (was.1.0, find_before (λ q. same_batch q.batch c.batch) b.parts (p₀ ∷ []) was.1.0 was.1.1, was.1.2, was.1.3, was.1.4))

    batch_is : (n : ℕ) (v : RankState) → slice_get (change_at f₀ batch.rank.0 b.ranks) n ≡ Some v → Turned f₀ batch.rank.0 b.ranks l.0 n
        → IsOpenBatch (b.parts ++ p₀ ∷ []) n v.batch
    batch_is n v e (inl c) =
        let now : f₀ l.0 ≡ v = some_is (sym c.1 ∙ e) in
        let there : part_in (b.parts ++ p₀ ∷ []) batch ≡ Some p₀ =
        found_new (λ q. same_batch q.batch batch) b.parts p₀ new (same_batch_from batch batch refl) in
        rw (← now) (c.0, (p₀, there, refl, refl, refl))
    batch_is n v e (inr c) = more n v.batch (is.batch n v (sym c.1 ∙ e))

    open_is : (x : BatchId) (p : Part) → p.closed ≡ false
        → (part_in b.parts x ≡ Some p) ⊎ ((same_batch batch x ≡ true) × (p₀ ≡ p))
        → IsRanksBatch (change_at f₀ batch.rank.0 b.ranks) x
    open_is x p opened (inl found) =
        let o = is.open_is x p found opened in
        by_turn o.0 o.1 o.2 o.3 o.4 (turned f₀ batch.rank.0 b.ranks l.0 l.2 x.rank.0)
      where
        by_turn : (r : RankState) (c : CommonRef) → slice_get b.ranks x.rank.0 ≡ Some r → r.batch ≡ Some c → c.batch ≡ x
            → Turned f₀ batch.rank.0 b.ranks l.0 x.rank.0
            → IsRanksBatch (change_at f₀ batch.rank.0 b.ranks) x
        by_turn r c there has names (inl t) =
            let one : l.0 ≡ r = some_is (sym t.2 ∙ there) in
            let none : l.0.batch ≡ None = rw l.3 at (is.brought batch.rank.0 l.0 l.2) in
            absurd (cc)
        by_turn r c there has names (inr t) = (r, c, t.1 ∙ there, has, names)
    open_is x p opened (inr found) =
        let same : batch ≡ x = same_batch_is batch x found.0 in
        by_turn (turned f₀ batch.rank.0 b.ranks l.0 l.2 batch.rank.0)
      where
        by_turn : Turned f₀ batch.rank.0 b.ranks l.0 batch.rank.0
            → IsRanksBatch (change_at f₀ batch.rank.0 b.ranks) x
        by_turn (inl t) =
            let same : batch ≡ x = same_batch_is batch x found.0 in
            rw (← same) (f₀ l.0, record { batch = batch; server = server; length = length l.1 }, t.1, refl, refl)
        by_turn (inr t) = absurd (t.0 refl)

    freed_is : (x : BatchId) (p : Part) → p.freed ≡ true
        → (part_in b.parts x ≡ Some p) ⊎ ((same_batch batch x ≡ true) × (p₀ ≡ p))
        → (p.closed ≡ true) × (p.fetched ≡ p.accepted)
    freed_is x p freed (inl found) = is.freed x p found freed
    freed_is x p freed (inr found) = let not : p.freed ≡ false = ap (λ (q : Part). q.freed) (sym found.1) in absurd (cc)

-- A batch ends.
parts_closed : (ranks : List RankState) (ps : List Part) (batch : BatchId) (r : RankState) (common : CommonRef)
    → slice_get ranks batch.rank.0 ≡ Some r → r.batch ≡ Some common → common.batch ≡ batch → BatchesAreOpen ranks ps
    → BatchesAreOpen (change_at (λ r. ended (record r { batch = None })) batch.rank.0 ranks)
    (change_first (λ p. record p { closed = true }) (λ q. same_batch q.batch batch) ps)
parts_closed ranks ps batch r common there has names is = record {
  brought = λ n v e. named n v e (turned f₀ batch.rank.0 ranks r there n);
  batch = λ n v e. batch_is n v e (turned f₀ batch.rank.0 ranks r there n);
  open_is = λ x p found opened. open_is x p opened (part_was g₀ (λ p. refl) batch x ps p found);
  freed = λ x p found freed. freed_is x p freed (part_was g₀ (λ p. refl) batch x ps p found);
}
  where
    f₀ : RankState → RankState
    f₀ r = ended (record r { batch = None })

    g₀ : Part → Part
    g₀ p = record p { closed = true }

    named : (n : ℕ) (v : RankState) → slice_get (change_at f₀ batch.rank.0 ranks) n ≡ Some v → Turned f₀ batch.rank.0 ranks r n
        → IsBroughtBy n v v.status
    named n v e (inl c) = let now : f₀ r ≡ v = some_is (sym c.1 ∙ e) in rw (← now) tt
    named n v e (inr c) = is.brought n v (sym c.1 ∙ e)

    other : (n : ℕ) (o : Option CommonRef) → (batch.rank.0 ≡ n → ⊥) → IsOpenBatch ps n o
        → IsOpenBatch (change_first g₀ (λ q. same_batch q.batch batch) ps) n o
    other n None differs was = tt
    other n (Some c) differs was =
        let q = part_is g₀ (λ p. refl) batch c.batch ps was.1.0 was.1.1 in
        let facts = by_part q.0 q.2 in (was.0, (q.0, q.1, facts.0, facts.1, facts.2))
      where
        by_part : (q : Part) → (q ≡ was.1.0) ⊎ ((c.batch ≡ batch) × (q ≡ g₀ was.1.0))
            → (q.closed ≡ false) × (q.server ≡ c.server) × (length q.common ≡ c.length)
        by_part q (inl at) = rw at (was.1.2, was.1.3, was.1.4)
        by_part q (inr at) = absurd (differs (ap (λ (x : BatchId). x.rank.0) (sym at.0) ∙ was.0))

    batch_is : (n : ℕ) (v : RankState) → slice_get (change_at f₀ batch.rank.0 ranks) n ≡ Some v → Turned f₀ batch.rank.0 ranks r n
        → IsOpenBatch (change_first g₀ (λ q. same_batch q.batch batch) ps) n v.batch
    batch_is n v e (inl c) = let now : f₀ r ≡ v = some_is (sym c.1 ∙ e) in rw (← now) tt
    batch_is n v e (inr c) = other n v.batch c.0 (is.batch n v (sym c.1 ∙ e))

    open_is : (x : BatchId) (p : Part) → p.closed ≡ false
        → PartWas g₀ batch x ps p
        → (v : RankState) × (c : CommonRef) × (slice_get (change_at f₀ batch.rank.0 ranks) x.rank.0 ≡ Some v) × (v.batch ≡ Some c)
        × (c.batch ≡ x)
    open_is x p opened (inl w) = let not : p.closed ≡ true = ap (λ (q : Part). q.closed) w.1.2 in absurd (cc)
    open_is x p opened (inr w) =
        let o = is.open_is x p w.1 opened in by_turn o.0 o.1 o.2 o.3 o.4 (turned f₀ batch.rank.0 ranks r there x.rank.0)
      where
        by_turn : (v : RankState) (c : CommonRef) → slice_get ranks x.rank.0 ≡ Some v → v.batch ≡ Some c → c.batch ≡ x
            → Turned f₀ batch.rank.0 ranks r x.rank.0
            → (v : RankState) × (c : CommonRef) × (slice_get (change_at f₀ batch.rank.0 ranks) x.rank.0 ≡ Some v) × (v.batch ≡ Some c)
            × (c.batch ≡ x)
        by_turn v c e has_c is_x (inl t) =
            let one : r ≡ v = some_is (sym t.2 ∙ e) in
            let both : common ≡ c = some_is (sym has ∙ ap (λ (y : RankState). y.batch) one ∙ has_c) in
            absurd (w.0 (sym is_x ∙ ap (λ (y : CommonRef). y.batch) (sym both) ∙ names))
        by_turn v c e has_c is_x (inr t) = (v, c, t.1 ∙ e, has_c, is_x)

    freed_is : (x : BatchId) (p : Part) → p.freed ≡ true
        → PartWas g₀ batch x ps p
        → (p.closed ≡ true) × (p.fetched ≡ p.accepted)
    freed_is x p freed (inl w) =
        let was : w.1.0.freed ≡ true = ap (λ (q : Part). q.freed) (sym w.1.2) ∙ freed in
        rw w.1.2 (refl, (is.freed batch w.1.0 w.1.1 was).1)
    freed_is x p freed (inr w) = is.freed x p w.1 freed

parts_own : (ranks : List RankState) (ps : List Part) (place call : ℕ) (id : UnitId) (common : Option CommonRef) (r : RankState)
    → slice_get ranks place ≡ Some r → r.status ≡ does.Fetching call id false → BatchesAreOpen ranks ps
    → BatchesAreOpen (change_at (own_fetched common) place ranks) ps
parts_own ranks ps place call id None r there status is = parts_turn ranks ps place ended r there refl (λ p. tt) is
parts_own ranks ps place call id (Some c) r there status is =
    parts_turn ranks ps place (own_fetched (Some c)) r there refl (λ p. rw status tt) is

due_is : (p : Part) → is_due p ≡ true → (p.closed ≡ true) × (p.fetched ≡ p.accepted)
due_is p e =
    let s = and_parts (p.closed && not p.freed) (p.fetched == p.accepted) e in
    ((and_parts p.closed (not p.freed) s.0).0, eqb-true p.fetched p.accepted s.1)

parts_special : (found : Bag → Bool) (b : Bag) (e : Entry) → is_special e ≡ true → LegalWhere found b e → IdsAreNew b.ranks b.units b.parts
    → HasBatches b → HasBatches (after b e)
unfolding HasBatches
parts_special found b (Putting rank call kind prio target answer body) s l new is =
    parts_turn _ _ rank.0 _ l.0 l.1.0 refl (λ p. (refl, refl)) is
parts_special found b (Accepted server id) s l new is = parts_accepted b _ server id (accepted_is b server id l) is
parts_special found b (Keeping rank call common) s l new is = parts_turn _ _ rank.0 _ l.0 l.1.0 refl (λ p. l.2) is
parts_special found b (Kept server batch) s l new is =
    subst HasBatches (sym (kept_is b server batch l))
    (parts_kept b server batch l (begun_part_is_new b.ranks b.units b.parts batch l.0 l.1 l.2 l.3 new) is)
parts_special found b (Closed server batch) s l new is = parts_closed _ _ batch l.0 l.2 l.4 l.6 l.7 is
parts_special found b (Freed server batch) s l new is =
    parts_changed _ _ batch (λ p. record p { freed = true }) (λ p. record { batch = refl; closed = refl; server = refl; common = refl })
    (λ p found freed. let one : l.0 ≡ p = some_is (sym l.1.1 ∙ found) in rw (← one) (due_is l.0 l.2)) is
parts_special found b (Granted server rank call id) s l new is = parts_turn _ _ rank.0 ended l.0 l.3 refl (λ p. tt) is
parts_special found b (Fetching rank call id) s l new is = parts_turn _ _ rank.0 _ l.0 l.3.0 refl (λ p. tt) is
parts_special found b (Fetched server rank id) s l new is = parts_own _ _ rank.0 l.1 id _ l.0 l.3 l.4 is
parts_special found b (CommonFetched server rank batch) s l new is =
    parts_turn _ _ rank.0 ended l.0 l.6 refl (λ p. tt)
    (parts_changed _ _ batch (λ p. record p { fetched = p.fetched + 1 })
    (λ p. record { batch = refl; closed = refl; server = refl; common = refl })
    (λ p found freed. let one : l.5 ≡ p = some_is (sym l.11.1 ∙ found) in let not : p.freed ≡ false = rw one at l.11.3 in absurd (cc)) is)
parts_special found b (Promised server id n) s l new is = is
parts_special found b (Left server to id) s l new is = is
parts_special found b (Arrived server id) s l new is = is
parts_special found b (Withdrawn server id) s l new is = is
parts_special found b Exhausted s l new is = is
parts_special found b _ s l new is = absurd (cc)

-- a legal entry keeps batches and their parts together
pub batches_stay : (found : Bag → Bool) (b : Bag) (e : Entry) → LegalWhere found b e → IdsAreNew b.ranks b.units b.parts
    → BatchesAreOpen b.ranks b.parts → BatchesAreOpen (after b e).ranks (after b e).parts
unfolding HasBatches
batches_stay found b e l new is = by_case (plain_or_special found b e l)
  where
    by_case : IsPlain b (after b e) ⊎ (is_special e ≡ true) → BatchesAreOpen (after b e).ranks (after b e).parts
    by_case (inl p) =
        rw (p.ranks, p.parts)
        (parts_turn b.ranks b.parts p.place p.f p.r p.there p.batch (puts_calm p.place p.r (p.f p.r) p.batch p.calm) is)
    by_case (inr s) = parts_special found b e s l new is
