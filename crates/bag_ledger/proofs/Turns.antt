-- What a step leaves of the ranks.
use Rattle.std.proofs.Common.{◌≡◌, ℕ, zero, suc, ◌+◌, ◌≤◌, ◌==◌, ◌||◌, ◌⊎◌, inl, inr, Bool, true, false, List, [], ◌∷◌, length, Option}
use Rattle.std.proofs.Common.{Some, None, refl, sym, ap, ◌∙◌, arith, slice_get, replicate}
use Rattle.std.specs.Prelude.{option_and_then}
use Rattle.std.specs.List.{list_any}
use Rattle.std.proofs.lemmas.Bool.{or_cases}
use Rattle.std.proofs.lemmas.List.Folds.{list_any-append}
use Rattle.adlb_unit.specs.declared.names.Rank.{Rank}
use Rattle.adlb_unit.specs.declared.names.WorkType.{WorkType}
use Rattle.adlb_unit.specs.declared.names.Server.{Server}
use Rattle.adlb_unit.specs.declared.names.UnitId.{UnitId}
use Rattle.adlb_unit.specs.declared.names.CommonRef.{CommonRef}
use Rattle.adlb_unit.specs.declared.units.Unit.{Unit}
use Rattle.bag_ledger.specs.declared.entries.Entry.{Entry}
use Rattle.bag_ledger.specs.declared.entries.Entry.TheVariants.{Putting, Refused, Accepted, Rejected, Keeping, Kept, Closing, Closed, Asked}
use Rattle.bag_ledger.specs.declared.entries.Entry.TheVariants.{Tried, Granted, Looked, NoCurrent, Fetching, Fetched, CommonFetched}
use Rattle.bag_ledger.specs.declared.entries.Entry.TheVariants.{Counting, Counted, Done, Over, Finished}
use Rattle.bag_ledger.specs.declared.states.RankState.{RankState}
use Rattle.bag_ledger.specs.declared.states.Status.{Status}
use Rattle.bag_ledger.specs.declared.states.Status.TheVariants as does
use Rattle.bag_ledger.specs.Bag.{Bag, fresh, rank_at, unit_of, putting, keeping, offer, has_declined}
use Rattle.bag_ledger.specs.Steps.{LegalWhere, after, change_at, begun, ended, declined_by, own_fetched, shared, taken}
use Rattle.bag_ledger.specs.Words.{refuses, looks}
use Rattle.bag_ledger.proofs.Tests.{some_is, same_number}
use Rattle.bag_ledger.proofs.Charge.{unit_put}

-- A change at a place.

-- an element that is changed is found changed
pub changed_here : {X : Type 0} (f : X → X) (place : ℕ) (xs : List X) (x : X) → slice_get xs place ≡ Some x
    → slice_get (change_at f place xs) place ≡ Some (f x)
changed_here f place [] x e = absurd (cc)
changed_here f zero (y ∷ ys) x e = ap (λ z. Some (f z)) (some_is e)
changed_here f (suc place) (y ∷ ys) x e = changed_here f place ys x e

-- what is there after the change was changed, or was there before
pub changed_is : {X : Type 0} (f : X → X) (place other : ℕ) (xs : List X) (v : X) → slice_get (change_at f place xs) other ≡ Some v
    → ((place ≡ other) × ((x : X) × (slice_get xs place ≡ Some x) × (v ≡ f x))) ⊎ (slice_get xs other ≡ Some v)
changed_is f place other [] v e = absurd (cc)
changed_is f zero zero (y ∷ ys) v e = inl (refl, (y, refl, sym (some_is e)))
changed_is f zero (suc other) (y ∷ ys) v e = inr e
changed_is f (suc place) zero (y ∷ ys) v e = inr e
changed_is f (suc place) (suc other) (y ∷ ys) v e = further (changed_is f place other ys v e)
  where
    further : ((place ≡ other) × ((x : _) × (slice_get ys place ≡ Some x) × (v ≡ f x))) ⊎ (slice_get ys other ≡ Some v)
        → ((suc place ≡ suc other) × ((x : _) × (slice_get ys place ≡ Some x) × (v ≡ f x))) ⊎ (slice_get ys other ≡ Some v)
    further (inl c) = inl (ap suc c.0, c.1)
    further (inr c) = inr c

-- what was there is there, changed or not
pub changed_keeps : {X : Type 0} (f : X → X) (place other : ℕ) (xs : List X) (x : X) → slice_get xs other ≡ Some x
    → (v : X) × (slice_get (change_at f place xs) other ≡ Some v) × ((v ≡ x) ⊎ ((place ≡ other) × (v ≡ f x)))
changed_keeps f place other [] x e = absurd (cc)
changed_keeps f zero zero (y ∷ ys) x e = (f y, refl, inr (refl, ap f (some_is e)))
changed_keeps f zero (suc other) (y ∷ ys) x e = (x, e, inl refl)
changed_keeps f (suc place) zero (y ∷ ys) x e = (x, e, inl refl)
changed_keeps f (suc place) (suc other) (y ∷ ys) x e =
    let s = changed_keeps f place other ys x e in
    (s.0, s.1, further s.0 s.2)
  where
    further : (v : _) → ((v ≡ x) ⊎ ((place ≡ other) × (v ≡ f x))) → (v ≡ x) ⊎ ((suc place ≡ suc other) × (v ≡ f x))
    further v (inl c) = inl c
    further v (inr c) = inr (ap suc c.0, c.1)

-- by the entry the server declines what a rank of this number and status does
abbrev pub declines : Server → ℕ → Status → Entry → Bool
declines server n (does.Putting u) e = refuses server (record { 0 = n }) u.id.number e
declines server n (does.Keeping call common) e = refuses server (record { 0 = n }) call e
declines server n (does.Trying call types) e = looks server (record { 0 = n }) call e
declines server n _ e = false

-- the rank does nothing that a server declines
abbrev pub is_quiet : Status → Bool
is_quiet does.Running = true
is_quiet (does.Fetching call id own) = true
is_quiet _ = false

-- one rank changes: its next number does not fall. A put that is pending then was pending before, or has that next number. A
-- server that counts as having declined then did before, or declines by this entry
pub record IsTurn (before : List RankState) (e : Entry) (now : List RankState) : Type 0 where
  pub place : ℕ
  pub was : RankState
  pub is : RankState
  pub f : RankState → RankState
  pub there : slice_get before place ≡ Some was
  pub changed : now ≡ change_at f place before
  pub made : is ≡ f was
  pub rises : was.next ≤ is.next
  pub puts : (u : Unit) → is.status ≡ does.Putting u
      → (was.status ≡ does.Putting u) ⊎ ((u.id.rank.0 ≡ place) × (u.id.number ≡ was.next) × (is.next ≡ was.next + 1))
  pub heard : (s : Server) → has_declined is s ≡ true
      → ((has_declined was s ≡ true) × ((is.status ≡ was.status) ⊎ (is_quiet was.status ≡ true))) ⊎ (declines s place is.status e ≡ true)

-- a rank that puts nothing then
idle : (before : List RankState) (e : Entry) (now : List RankState) (place : ℕ) (f : RankState → RankState) (r : RankState)
    → slice_get before place ≡ Some r → now ≡ change_at f place before → r.next ≤ (f r).next
    → ((u : Unit) → (f r).status ≡ does.Putting u → ⊥)
    → ((s : Server) → has_declined (f r) s ≡ true → (has_declined r s ≡ true) × (is_quiet r.status ≡ true)) → IsTurn before e now
idle before e now place f r there changed rises never heard = record {
  place = place;
  was = r;
  is = f r;
  f = f;
  there = there;
  changed = changed;
  made = refl;
  rises = rises;
  puts = λ u is. absurd (never u is);
  heard = λ s is. let h = heard s is in inl (h.0, inr h.1);
}

-- a rank whose pending call was declined
waits : (before : List RankState) (e : Entry) (now : List RankState) (place : ℕ) (server : Server) (r : RankState)
    → slice_get before place ≡ Some r → now ≡ change_at (declined_by server) place before
    → ((s : Server) → (server.0 == s.0) ≡ true → declines s place r.status e ≡ true) → IsTurn before e now
waits before e now place server r there changed says = record {
  place = place;
  was = r;
  is = declined_by server r;
  f = declined_by server;
  there = there;
  changed = changed;
  made = refl;
  rises = omega arith;
  puts = λ u is. inl is;
  heard = λ s is.
      by_case s
      (or_cases (has_declined r s) (list_any (λ (x : Server). x.0 == s.0) (server ∷ []))
      (sym (list_any-append (λ (x : Server). x.0 == s.0) r.declined (server ∷ [])) ∙ is));
}
  where
    by_case : (s : Server) → (has_declined r s ≡ true) ⊎ (list_any (λ (x : Server). x.0 == s.0) (server ∷ []) ≡ true)
        → ((has_declined r s ≡ true) × ((r.status ≡ r.status) ⊎ (is_quiet r.status ≡ true))) ⊎ (declines s place r.status e ≡ true)
    by_case s (inl old) = inl (old, inl refl)
    by_case s (inr new) = inr (says s (only (server.0 == s.0) new))
      where
        only : (t : Bool) → (t || false) ≡ true → t ≡ true
        only true e = refl
        only false e = absurd (cc)

begins : (before : List RankState) (e : Entry) (now : List RankState) (place : ℕ) (status : Status) (r : RankState)
    → slice_get before place ≡ Some r → r.status ≡ does.Running → now ≡ change_at (begun status) place before
    → ((u : Unit) → status ≡ does.Putting u → ⊥) → IsTurn before e now
begins before e now place status r there runs changed never =
    idle before e now place (begun status) r there changed (omega arith) never (λ s is. (is, rw runs refl))

ends : (before : List RankState) (e : Entry) (now : List RankState) (place : ℕ) (r : RankState) → slice_get before place ≡ Some r
    → now ≡ change_at ended place before → IsTurn before e now
ends before e now place r there changed =
    idle before e now place ended r there changed (omega arith) (λ u is. absurd (cc)) (λ s is. absurd (cc))

refused_says : (s server : Server) (id : UnitId) (used n : ℕ) (status : Status) → offer status ≡ Some (id.number, n)
    → (server.0 == s.0) ≡ true → declines s id.rank.0 status (Refused server id used) ≡ true
refused_says s server id used n (does.Putting u) e here =
    let pair : (u.id.number, length u.body) ≡ (id.number, n) = some_is e in
    let number : u.id.number ≡ id.number = ap (λ p. p.0) pair in
    rw (here, number, same_number id.rank.0, same_number id.number) refl
refused_says s server id used n (does.Keeping call common) e here =
    let pair : (call, length common) ≡ (id.number, n) = some_is e in
    let number : call ≡ id.number = ap (λ p. p.0) pair in
    rw (here, number, same_number id.rank.0, same_number id.number) refl
refused_says s server id used n _ e here = absurd (cc)

looked_says : (s server : Server) (rank : Rank) (call : ℕ) (types : Option (List WorkType)) (status : Status)
    → status ≡ does.Trying call types → (server.0 == s.0) ≡ true → declines s rank.0 status (Looked server rank call) ≡ true
looked_says s server rank call types status e here = rw (e, here, same_number rank.0, same_number call) refl

shared_ranks : (common : Option CommonRef) (b : Bag) → (shared common b).ranks ≡ b.ranks
shared_ranks None b = refl
shared_ranks (Some common) b = refl

-- taking a unit off a server leaves the ranks
pub taken_ranks : (server : Server) (o : Option Unit) (b : Bag) → (taken server o b).ranks ≡ b.ranks
taken_ranks server None b = refl
taken_ranks server (Some u) b = shared_ranks u.common (record b { units = _ })

fetched_turn : (before : List RankState) (e : Entry) (now : List RankState) (place call : ℕ) (id : UnitId) (common : Option CommonRef)
    (r : RankState) → slice_get before place ≡ Some r → r.status ≡ does.Fetching call id false
    → now ≡ change_at (own_fetched common) place before → IsTurn before e now
fetched_turn before e now place call id None r there status changed =
    idle before e now place (own_fetched None) r there changed (omega arith) (λ u is. absurd (cc)) (λ s is. absurd (cc))
fetched_turn before e now place call id (Some common) r there status changed =
    idle before e now place (own_fetched (Some common)) r there changed (omega arith)
    (λ u is. let fetches : does.Fetching call id true ≡ does.Putting u = rw status at is in absurd (cc))
    (λ s is. (is, rw status refl))

-- a step leaves the ranks as they are, or one of them has its turn
pub turn : (found : Bag → Bool) (b : Bag) (e : Entry) → LegalWhere found b e
    → ((after b e).ranks ≡ b.ranks) ⊎ IsTurn b.ranks e (after b e).ranks
turn found b (Putting rank call kind prio target answer body) l =
    let started : call ≡ l.0.next = sym l.1.2 in
    inr (record {
      place = rank.0;
      was = l.0;
      is = _;
      f = λ r.
          begun (does.Putting (record {
            id = record { rank = rank; number = call };
            kind = kind;
            prio = prio;
            target = target;
            answer = answer;
            common = r.batch;
            body = body;
          })) r;
      there = l.1.0;
      changed = refl;
      made = refl;
      rises = omega arith;
      puts = λ u e. let same = some_is (ap putting e) in inr (ranks_of u same, number_of u same ∙ started, refl);
      heard = λ s e. inl (e, inr (rw l.1.1 refl));
    })
  where
    ranks_of : (u : Unit)
        → record {
          id = record { rank = rank; number = call };
          kind = kind;
          prio = prio;
          target = target;
          answer = answer;
          common = l.0.batch;
          body = body;
        } ≡ u → u.id.rank.0 ≡ rank.0
    ranks_of u e = sym (ap (λ (w : Unit). w.id.rank.0) e)

    number_of : (u : Unit)
        → record {
          id = record { rank = rank; number = call };
          kind = kind;
          prio = prio;
          target = target;
          answer = answer;
          common = l.0.batch;
          body = body;
        } ≡ u → u.id.number ≡ call
    number_of u e = sym (ap (λ (w : Unit). w.id.number) e)
turn found b (Refused server id used) l =
    inr (waits _ _ _ id.rank.0 server l.0 l.2 refl (λ s here. refused_says s server id used l.1 l.0.status l.3 here))
turn found b (Accepted server id) l =
    inr (ends _ _ _ id.rank.0 l.0 l.2
    (ap (change_at ended id.rank.0) (taken_ranks server (option_and_then (λ r. putting r.status) (rank_at b id.rank)) b)))
turn found b (Rejected rank call) l = inr (ends _ _ _ rank.0 l.0 l.2 refl)
turn found b (Keeping rank call common) l = inr (begins _ _ _ rank.0 (does.Keeping call common) l.0 l.1.0 l.1.1 refl (λ u e. absurd (cc)))
turn found b (Kept server batch) l =
    let kept = unit_put (λ r. keeping r.status) (rank_at b batch.rank) l.0 (batch.number, l.1) l.2 (rw l.3 refl) in
    inr (rw kept (idle _ _ _ batch.rank.0 (λ r. ended (record r { batch = Some (record { batch = batch; server = server; length = _ }) }))
    l.0 l.2 refl (omega arith) (λ u e. absurd (cc)) (λ s e. absurd (cc))))
turn found b (Closing rank call) l = inr (begins _ _ _ rank.0 (does.Closing call) l.0 l.2.0 l.2.1 refl (λ u e. absurd (cc)))
turn found b (Closed server batch) l =
    inr (idle _ _ _ batch.rank.0 (λ r. ended (record r { batch = None })) l.0 l.4 refl (omega arith) (λ u e. absurd (cc))
    (λ s e. absurd (cc)))
turn found b (Asked rank call types) l = inr (begins _ _ _ rank.0 (does.Asking call types) l.0 l.1.0 l.1.1 refl (λ u e. absurd (cc)))
turn found b (Tried rank call types) l = inr (begins _ _ _ rank.0 (does.Trying call types) l.0 l.1.0 l.1.1 refl (λ u e. absurd (cc)))
turn found b (Granted server rank call id) l = inr (ends _ _ _ rank.0 l.0 l.3 refl)
turn found b (Looked server rank call) l =
    inr (waits _ _ _ rank.0 server l.0 l.2 refl (λ s here. looked_says s server rank call l.1 l.0.status l.3 here))
turn found b (NoCurrent rank call) l = inr (ends _ _ _ rank.0 l.0 l.2 refl)
turn found b (Fetching rank call id) l = inr (begins _ _ _ rank.0 (does.Fetching call id false) l.0 l.3.0 l.3.1 refl (λ u e. absurd (cc)))
turn found b (Fetched server rank id) l =
    inr (fetched_turn _ _ _ rank.0 l.1 id (option_and_then (λ u. u.unit.common) (unit_of b id)) l.0 l.3 l.4 refl)
turn found b (CommonFetched server rank batch) l = inr (ends _ _ _ rank.0 l.0 l.6 refl)
turn found b (Counting rank call kind) l = inr (begins _ _ _ rank.0 (does.Counting call kind) l.0 l.1.0 l.1.1 refl (λ u e. absurd (cc)))
turn found b (Counted server rank call info) l = inr (ends _ _ _ rank.0 l.0 l.2 refl)
turn found b (Done rank call) l = inr (begins _ _ _ rank.0 does.Running l.0 l.1.0 l.1.1 refl (λ u e. absurd (cc)))
turn found b (Over rank call end) l =
    inr (idle _ _ _ rank.0 (λ r. ended (record r { end = Some end })) l.0 l.1 refl (omega arith) (λ u e. absurd (cc)) (λ s e. absurd (cc)))
turn found b (Finished rank call) l = inr (begins _ _ _ rank.0 does.Finished l.0 l.1.0 l.1.1 refl (λ u e. absurd (cc)))
turn found b _ l = inl refl

-- at the start each rank is as at its start
pub fresh_at : (n k : ℕ) (r : RankState) → slice_get (replicate n fresh) k ≡ Some r → r ≡ fresh
fresh_at zero k r e = absurd (cc)
fresh_at (suc n) zero r e = sym (some_is e)
fresh_at (suc n) (suc k) r e = fresh_at n k r e
