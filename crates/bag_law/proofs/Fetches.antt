-- What a rank fetches is pinned to it, and then spent.
use Rattle.std.proofs.Common.{◌≡◌, ℕ, ◌⊎◌, inl, inr, Bool, true, false, List, [], ◌∷◌, ◌++◌, Option, Some, None, refl, sym, ap, ◌∙◌, subst}
use Rattle.std.proofs.Common.{slice_get}
use Rattle.adlb_unit.specs.declared.names.Rank.{Rank}
use Rattle.adlb_unit.specs.declared.names.Server.{Server}
use Rattle.adlb_unit.specs.declared.names.UnitId.{UnitId}
use Rattle.adlb_unit.specs.declared.names.CommonRef.{CommonRef}
use Rattle.adlb_unit.specs.Ids.{same_unit}
use Rattle.adlb_unit.proofs.Same.{same_unit_is}
use Rattle.bag_ledger.specs.declared.entries.Entry.{Entry}
use Rattle.bag_ledger.specs.declared.entries.Entry.TheVariants.{Putting, Accepted, Keeping, Kept, Closed, Freed, Granted, Fetching, Fetched}
use Rattle.bag_ledger.specs.declared.entries.Entry.TheVariants.{CommonFetched, Promised, Left, Arrived, Withdrawn, Exhausted}
use Rattle.bag_ledger.specs.declared.states.RankState.{RankState}
use Rattle.bag_ledger.specs.declared.states.Placed.{Placed}
use Rattle.bag_ledger.specs.declared.states.UnitPlace.{UnitPlace}
use Rattle.bag_ledger.specs.declared.states.UnitPlace.TheVariants.{Free, Travelling, Pinned, Spent}
use Rattle.bag_ledger.specs.declared.states.Status.{Status}
use Rattle.bag_ledger.specs.declared.states.Status.TheVariants as does
use Rattle.bag_ledger.specs.Bag.{Bag, unit_of}
use Rattle.bag_ledger.specs.Steps.{LegalWhere, Stands, after, ended, change_at, moved, own_fetched}
use Rattle.bag_ledger.proofs.Lookups.{find_before}
use Rattle.bag_ledger.proofs.Moves.{moved_here, moved_other}
use Rattle.bag_ledger.proofs.Tests.{some_is}
use Rattle.bag_law.specs.Counts.{common_in}
use Rattle.bag_law.specs.Sound.{FetchesAreReady, IsFetchOf, IsReady}
use Rattle.bag_law.proofs.Turn.{Turned, turned}
use Rattle.bag_law.proofs.Plain.{IsCalm, IsPlain, accepted_is, is_bare, is_special, kept_is, lodged, plain_or_special}

fetch_map : (us vs : List Placed) (n : ℕ) → ((id : UnitId) (own : Bool) → IsReady us n id own → IsReady vs n id own) → (s : Status)
    → IsFetchOf us n s → IsFetchOf vs n s
fetch_map us vs n each (does.Fetching call id own) is = each id own is
fetch_map us vs n each _ is = tt

fetch_bare : (us : List Placed) (n : ℕ) (s : Status) → is_bare s ≡ true → IsFetchOf us n s
fetch_bare us n (does.Fetching call id own) e = absurd (cc)
fetch_bare us n _ e = tt

fetch_calm : (us : List Placed) (n : ℕ) (s t : Status) → IsCalm s t → IsFetchOf us n s → IsFetchOf us n t
fetch_calm us n s t (inl same) is = rw same is
fetch_calm us n s t (inr bare) is = fetch_bare us n t bare.1

-- a rank has its turn, as units change that other ranks do not fetch
fetches_step : (ranks : List RankState) (us vs : List Placed) (place : ℕ) (f : RankState → RankState) (r : RankState)
    → slice_get ranks place ≡ Some r
    → (IsFetchOf us place r.status → IsFetchOf vs place (f r).status)
    → ((n : ℕ) → (place ≡ n → ⊥) → (id : UnitId) (own : Bool) → IsReady us n id own → IsReady vs n id own)
    → FetchesAreReady ranks us → FetchesAreReady (change_at f place ranks) vs
fetches_step ranks us vs place f r there own others is = record { each = λ n v e. by_case n v e (turned f place ranks r there n) }
  where
    by_case : (n : ℕ) (v : RankState) → slice_get (change_at f place ranks) n ≡ Some v → Turned f place ranks r n → IsFetchOf vs n v.status
    by_case n v e (inl c) =
        let now : f r ≡ v = some_is (sym c.1 ∙ e) in
        let it : IsFetchOf vs place (f r).status = own (is.each place r there) in
        rw (← now, ← c.0) it
    by_case n v e (inr c) = fetch_map us vs n (others n c.0) v.status (is.each n v (sym c.1 ∙ e))

fetches_turn : (ranks : List RankState) (us : List Placed) (place : ℕ) (f : RankState → RankState) (r : RankState)
    → slice_get ranks place ≡ Some r → (IsFetchOf us place r.status → IsFetchOf us place (f r).status) → FetchesAreReady ranks us
    → FetchesAreReady (change_at f place ranks) us
fetches_turn ranks us place f r there own is = fetches_step ranks us us place f r there own (λ n differs id came ready. ready) is

fetches_units : (ranks : List RankState) (us vs : List Placed)
    → ((n : ℕ) (id : UnitId) (own : Bool) → IsReady us n id own → IsReady vs n id own) → FetchesAreReady ranks us → FetchesAreReady ranks vs
fetches_units ranks us vs each is = record { each = λ n r e. fetch_map us vs n (each n) r.status (is.each n r e) }

ready_more : (us : List Placed) (v : Placed) (n : ℕ) (id : UnitId) (own : Bool) → IsReady us n id own → IsReady (us ++ v ∷ []) n id own
ready_more us v n id false is = (is.0, is.1, is.2, find_before (λ v. same_unit v.unit.id id) us (v ∷ []) is.0 is.3, is.4, is.5)
ready_more us v n id true is = (is.0, is.1, find_before (λ v. same_unit v.unit.id id) us (v ∷ []) is.0 is.2, is.3, is.4)

ready_other : (b : Bag) (id : UnitId) (place : UnitPlace) (n : ℕ) (x : UnitId) (own : Bool) → same_unit id x ≡ false
    → IsReady b.units n x own → IsReady (moved id place b).units n x own
ready_other b id place n x false differs is = (is.0, is.1, is.2, moved_other b id x place differs ∙ is.3, is.4, is.5)
ready_other b id place n x true differs is = (is.0, is.1, moved_other b id x place differs ∙ is.2, is.3, is.4)

-- a unit that a rank fetches is at no other place
ready_at : (b : Bag) (id : UnitId) (u : Placed) (n : ℕ) (own : Bool) → unit_of b id ≡ Some u → IsReady b.units n id own
    → ((server : Server) (rank : Rank) → u.place ≡ Pinned server rank → rank.0 ≡ n → ⊥) → (u.place ≡ Spent → ⊥) → ⊥
ready_at b id u n false there is pinned spent =
    let one : u ≡ is.0 = some_is (sym there ∙ is.3) in pinned is.1 is.2 (ap (λ (v : Placed). v.place) one ∙ is.4) is.5
ready_at b id u n true there is pinned spent =
    let one : u ≡ is.0 = some_is (sym there ∙ is.2) in spent (ap (λ (v : Placed). v.place) one ∙ is.3)

ready_moved : (b : Bag) (id : UnitId) (place : UnitPlace) (u : Placed) (n : ℕ) (x : UnitId) (own : Bool) → unit_of b id ≡ Some u
    → ((server : Server) (rank : Rank) → u.place ≡ Pinned server rank → rank.0 ≡ n → ⊥) → (u.place ≡ Spent → ⊥) → IsReady b.units n x own
    → IsReady (moved id place b).units n x own
ready_moved b id place u n x own there pinned spent is = by_test (same_unit id x) refl
  where
    by_test : (t : Bool) → same_unit id x ≡ t → IsReady (moved id place b).units n x own
    by_test true e =
        let found : unit_of b x ≡ Some u = rw (same_unit_is id x e) at there in absurd (ready_at b x u n own found is pinned spent)
    by_test false e = ready_other b id place n x own e is

fetches_moved : (b : Bag) (id : UnitId) (place : UnitPlace) (u : Placed) → unit_of b id ≡ Some u
    → ((server : Server) (rank : Rank) → u.place ≡ Pinned server rank → ⊥) → (u.place ≡ Spent → ⊥) → FetchesAreReady b.ranks b.units
    → FetchesAreReady b.ranks (moved id place b).units
fetches_moved b id place u there pinned spent is =
    fetches_units b.ranks b.units (moved id place b).units
    (λ n x own ready. ready_moved b id place u n x own there (λ server rank e same. pinned server rank e) spent ready) is

-- the own bytes come
fetches_own : (b : Bag) (server : Server) (rank : Rank) (call : ℕ) (id : UnitId) (u : Placed) (r : RankState) (common : Option CommonRef)
    → slice_get b.ranks rank.0 ≡ Some r → r.status ≡ does.Fetching call id false → Stands b id u (Pinned server rank)
    → common_in b.units id ≡ common
    → FetchesAreReady b.ranks b.units → FetchesAreReady (change_at (own_fetched common) rank.0 b.ranks) (moved id Spent b).units
fetches_own b server rank call id u r common there status stands is_common is =
    fetches_step b.ranks b.units (moved id Spent b).units rank.0 (own_fetched common) r there (λ p. own common is_common)
    (λ n differs x own ready. ready_moved b id Spent u n x own stands.0
    (λ s to e same. let one : Pinned server rank ≡ Pinned s to = sym stands.1 ∙ e in let both : rank ≡ to = cc in differs
    (ap (λ (k : Rank). k.0) both ∙ same)) (λ e. let never : Pinned server rank ≡ Spent = sym stands.1 ∙ e in absurd (cc)) ready)
    is
  where
    own : (o : Option CommonRef) → common_in b.units id ≡ o → IsFetchOf (moved id Spent b).units rank.0 (own_fetched o r).status
    own None e = tt
    own (Some c) e =
        let common : u.unit.common ≡ Some c = rw stands.0 at e in
        let here = moved_here b id Spent u stands.0 in
        rw status (record u { place = Spent }, c, here, refl, common)

-- the fetches of a bag
abbrev pub HasFetches : Bag → Type 0
HasFetches b = FetchesAreReady b.ranks b.units

fetches_special : (found : Bag → Bool) (b : Bag) (e : Entry) → is_special e ≡ true → LegalWhere found b e → HasFetches b
    → HasFetches (after b e)
fetches_special found b (Putting rank call kind prio target answer body) s l is = fetches_turn _ _ rank.0 _ l.0 l.1.0 (λ p. tt) is
fetches_special found b (Accepted server id) s l is =
    let a = accepted_is b server id l in
    rw (a.ranks, a.units)
    (fetches_step b.ranks b.units (b.units ++ lodged server a.u ∷ []) id.rank.0 ended a.r a.there (λ p. tt)
    (λ n differs x own ready. ready_more b.units (lodged server a.u) n x own ready) is)
fetches_special found b (Keeping rank call common) s l is = fetches_turn _ _ rank.0 _ l.0 l.1.0 (λ p. tt) is
fetches_special found b (Kept server batch) s l is =
    subst HasFetches (sym (kept_is b server batch l)) (fetches_turn _ _ batch.rank.0 _ l.0 l.2 (λ p. tt) is)
fetches_special found b (Closed server batch) s l is = fetches_turn _ _ batch.rank.0 _ l.0 l.4 (λ p. tt) is
fetches_special found b (Freed server batch) s l is = is
fetches_special found b (Granted server rank call id) s l is =
    fetches_turn _ _ rank.0 ended l.0 l.3 (λ p. tt)
    (fetches_moved b id (Pinned server rank) l.2 l.6.0 (λ s to e. let never : Free server ≡ Pinned s to = sym l.6.1 ∙ e in absurd (cc))
    (λ e. let never : Free server ≡ Spent = sym l.6.1 ∙ e in absurd (cc)) is)
fetches_special found b (Fetching rank call id) s l is = fetches_turn _ _ rank.0 _ l.0 l.3.0 (λ p. (l.1, l.2, rank, l.4.0, l.4.1, refl)) is
fetches_special found b (Fetched server rank id) s l is =
    fetches_own b server rank l.1 id l.2 l.0 (common_in b.units id) l.3 l.4 l.6 refl is
fetches_special found b (CommonFetched server rank batch) s l is = fetches_turn _ _ rank.0 ended l.0 l.6 (λ p. tt) is
fetches_special found b (Promised server id n) s l is = is
fetches_special found b (Left server to id) s l is =
    fetches_moved b id (Travelling to) l.0 l.2.0 (λ s to e. let never : Free server ≡ Pinned s to = sym l.2.1 ∙ e in absurd (cc))
    (λ e. let never : Free server ≡ Spent = sym l.2.1 ∙ e in absurd (cc)) is
fetches_special found b (Arrived server id) s l is =
    fetches_moved b id (Free server) l.0 l.1.0 (λ s to e. let never : Travelling server ≡ Pinned s to = sym l.1.1 ∙ e in absurd (cc))
    (λ e. let never : Travelling server ≡ Spent = sym l.1.1 ∙ e in absurd (cc)) is
fetches_special found b (Withdrawn server id) s l is = is
fetches_special found b Exhausted s l is = is
fetches_special found b _ s l is = absurd (cc)

-- a legal entry keeps what is fetched where it was, until its bytes come
pub fetches_stay : (found : Bag → Bool) (b : Bag) (e : Entry) → LegalWhere found b e → HasFetches b → HasFetches (after b e)
fetches_stay found b e l is = by_case (plain_or_special found b e l)
  where
    by_case : IsPlain b (after b e) ⊎ (is_special e ≡ true) → HasFetches (after b e)
    by_case (inl p) =
        rw (p.ranks, p.units)
        (fetches_turn b.ranks b.units p.place p.f p.r p.there (fetch_calm b.units p.place p.r.status (p.f p.r).status p.calm) is)
    by_case (inr s) = fetches_special found b e s l is
