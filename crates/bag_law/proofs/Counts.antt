-- Parts count: what was accepted was fetched, is not yet spent, or is owed to a rank.
use Rattle.std.proofs.Common.{◌≡◌, ℕ, ◌+◌, ◌⊎◌, inl, inr, Bool, true, false, List, [], ◌∷◌, ◌++◌, find, Option, Some, None, refl, sym, ap}
use Rattle.std.proofs.Common.{◌∙◌, subst, arith, slice_get}
use Rattle.std.specs.Prelude.{option_and_then}
use Rattle.std.proofs.lemmas.List.Sums.{sum_by_push}
use Rattle.adlb_unit.specs.declared.names.Rank.{Rank}
use Rattle.adlb_unit.specs.declared.names.Server.{Server}
use Rattle.adlb_unit.specs.declared.names.UnitId.{UnitId}
use Rattle.adlb_unit.specs.declared.names.BatchId.{BatchId}
use Rattle.adlb_unit.specs.declared.names.CommonRef.{CommonRef}
use Rattle.adlb_unit.specs.Ids.{same_batch, same_unit}
use Rattle.adlb_unit.proofs.Same.{same_batch_is}
use Rattle.bag_ledger.specs.declared.entries.Entry.{Entry}
use Rattle.bag_ledger.specs.declared.entries.Entry.TheVariants.{Putting, Accepted, Keeping, Kept, Closed, Freed, Granted, Fetching, Fetched}
use Rattle.bag_ledger.specs.declared.entries.Entry.TheVariants.{CommonFetched, Promised, Left, Arrived, Withdrawn, Exhausted}
use Rattle.bag_ledger.specs.declared.states.RankState.{RankState}
use Rattle.bag_ledger.specs.declared.states.Placed.{Placed}
use Rattle.bag_ledger.specs.declared.states.Part.{Part}
use Rattle.bag_ledger.specs.declared.states.UnitPlace.{UnitPlace}
use Rattle.bag_ledger.specs.declared.states.UnitPlace.TheVariants.{Free, Travelling, Pinned, Spent}
use Rattle.bag_ledger.specs.declared.states.Status.{Status}
use Rattle.bag_ledger.specs.declared.states.Status.TheVariants as does
use Rattle.bag_ledger.specs.Bag.{Bag, unit_of}
use Rattle.bag_ledger.specs.Steps.{Legal, LegalWhere, Stands, after, ended, change_at, change_first, kept, moved, new_part, own_fetched}
use Rattle.bag_ledger.specs.Step.{is_of}
use Rattle.bag_ledger.proofs.Lookups.{find_before, sum_changed}
use Rattle.bag_law.specs.Counts.{accepted_of, common_in, fetched_of, if_so, is_spent, one, owes, owing, part_in, unspent}
use Rattle.bag_law.specs.Sound.{BatchesAreOpen, FetchesAreReady, IsFetchOf, PartsCount}
use Rattle.bag_law.proofs.Batches.{put_is_open}
use Rattle.bag_law.proofs.Turn.{found_passes, sum_kept, sum_same, sum_turned}
use Rattle.bag_law.proofs.Plain.{IsAccepted, IsCalm, IsPlain, accepted_is, is_bare, is_fetch, is_special, kept_is, lodged, shared_parts}
use Rattle.bag_law.proofs.Plain.{plain_or_special, wish_bare}

-- Ranks.

owing_bare : (batch : BatchId) (us : List Placed) (s : Status) → is_fetch s ≡ false → owing batch us s ≡ 0
owing_bare batch us (does.Fetching call id own) e = absurd (cc)
owing_bare batch us _ e = refl

bare_fetch : (s : Status) → is_bare s ≡ true → is_fetch s ≡ false
bare_fetch (does.Fetching call id own) e = absurd (cc)
bare_fetch _ e = refl

owing_calm : (batch : BatchId) (us : List Placed) (s t : Status) → IsCalm s t → owing batch us t ≡ owing batch us s
owing_calm batch us s t (inl same) = ap (owing batch us) same
owing_calm batch us s t (inr bare) = owing_bare batch us t (bare_fetch t bare.1) ∙ sym (owing_bare batch us s bare.0)

counted_turn : (ranks : List RankState) (us : List Placed) (ps : List Part) (place : ℕ) (f : RankState → RankState) (r : RankState)
    → slice_get ranks place ≡ Some r → ((batch : BatchId) → owing batch us (f r).status ≡ owing batch us r.status) → PartsCount ranks us ps
    → PartsCount (change_at f place ranks) us ps
counted_turn ranks us ps place f r there same is = record {
  each = λ batch.
      let s = sum_turned (λ (r : RankState). owing batch us r.status) f place ranks r there in
      let o = same batch in
      let c = is.each batch in
      omega arith;
}

-- nothing is owed by a rank that fetches nothing
quiet : (us : List Placed) (s : Status) → is_fetch s ≡ false → (batch : BatchId) → 0 ≡ owing batch us s
quiet us s was batch = sym (owing_bare batch us s was)

-- Units.

find_view : {X Y : Type 0} (h : X → Option Y) (g : X → X) (test other : X → Bool) → ((x : X) → h (g x) ≡ h x)
    → ((x : X) → other (g x) ≡ other x) → (xs : List X)
    → option_and_then h (find other (change_first g test xs)) ≡ option_and_then h (find other xs)
find_view h g test other same keeps [] = refl
find_view h g test other same keeps (y ∷ ys) = by_test (find_view h g test other same keeps ys) (test y) refl
  where
    by_test : option_and_then h (find other (change_first g test ys)) ≡ option_and_then h (find other ys) → (t : Bool) → test y ≡ t
        → option_and_then h (find other (change_first g test (y ∷ ys))) ≡ option_and_then h (find other (y ∷ ys))
    by_test rest true is = rw is (by_other (other y) refl)
      where
        by_other : (t : Bool) → other y ≡ t → option_and_then h (find other (g y ∷ ys)) ≡ option_and_then h (find other (y ∷ ys))
        by_other true at = rw (keeps y, at) (same y)
        by_other false at = rw (keeps y, at) refl
    by_test rest false is = rw is (by_other (other y) refl)
      where
        by_other : (t : Bool) → other y ≡ t
            → option_and_then h (find other (y ∷ change_first g test ys)) ≡ option_and_then h (find other (y ∷ ys))
        by_other true at = rw at refl
        by_other false at = rw at rest

common_moved : (us : List Placed) (id x : UnitId) (place : UnitPlace)
    → common_in (change_first (λ u. record u { place = place }) (λ u. same_unit u.unit.id id) us) x ≡ common_in us x
common_moved us id x place =
    find_view (λ u. u.unit.common) (λ u. record u { place = place }) (λ u. same_unit u.unit.id id) (λ u. same_unit u.unit.id x) (λ u. refl)
    (λ u. refl) us

owing_moved : (batch : BatchId) (us : List Placed) (id : UnitId) (place : UnitPlace) (s : Status)
    → owing batch (change_first (λ u. record u { place = place }) (λ u. same_unit u.unit.id id) us) s ≡ owing batch us s
owing_moved batch us id place (does.Fetching call x true) = ap (λ o. one (is_of batch o)) (common_moved us id x place)
owing_moved batch us id place (does.Fetching call x false) = refl
owing_moved batch us id place _ = refl

owes_moved : (batch : BatchId) (us : List Placed) (id : UnitId) (place : UnitPlace) (ranks : List RankState)
    → owes batch (change_first (λ u. record u { place = place }) (λ u. same_unit u.unit.id id) us) ranks ≡ owes batch us ranks
owes_moved batch us id place ranks = sum_same _ _ ranks (λ k r e. owing_moved batch us id place r.status)

counted_moved : (b : Bag) (id : UnitId) (place : UnitPlace) (u : Placed) → unit_of b id ≡ Some u → is_spent u.place ≡ false
    → is_spent place ≡ false → PartsCount b.ranks b.units b.parts → PartsCount b.ranks (moved id place b).units b.parts
counted_moved b id place u there was now is = record {
  each = λ batch.
      let s = sum_changed (unspent batch) (λ u. record u { place = place }) (λ u. same_unit u.unit.id id) b.units u there in
      let before : unspent batch u ≡ one (is_of batch u.unit.common) = rw was refl in
      let after : unspent batch (record u { place = place }) ≡ one (is_of batch u.unit.common) = rw now refl in
      let o = owes_moved batch b.units id place b.ranks in
      let c = is.each batch in
      omega arith;
}

-- Parts.

counted_part : (ranks : List RankState) (us : List Placed) (ps : List Part) (batch : BatchId) (g : Part → Part)
    → ((p : Part) → (g p).batch ≡ p.batch) → ((p : Part) → (g p).accepted ≡ p.accepted) → ((p : Part) → (g p).fetched ≡ p.fetched)
    → PartsCount ranks us ps → PartsCount ranks us (change_first g (λ p. same_batch p.batch batch) ps)
counted_part ranks us ps batch g same accepted fetched is = record {
  each = λ x.
      let a =
      sum_kept (λ p. if_so (same_batch p.batch x) p.accepted) g (λ p. same_batch p.batch batch)
      (λ p. rw (same p, accepted p) refl) ps in
      let f =
      sum_kept (λ p. if_so (same_batch p.batch x) p.fetched) g (λ p. same_batch p.batch batch) (λ p. rw (same p, fetched p) refl) ps in
      let c = is.each x in
      omega arith;
}

-- one more where the test is passed
if_more : (t : Bool) (n : ℕ) → if_so t (n + 1) ≡ if_so t n + one t
if_more true n = refl
if_more false n = refl

if_none : (t : Bool) → if_so t 0 ≡ 0
if_none true = refl
if_none false = refl

more_accepted : (x : BatchId) (ps : List Part) (batch : BatchId) (p : Part) → part_in ps batch ≡ Some p
    → (accepted_of x (change_first (λ p. record p { accepted = p.accepted + 1 }) (λ q. same_batch q.batch batch) ps)
    ≡ accepted_of x ps + one (same_batch batch x))
    × (fetched_of x (change_first (λ p. record p { accepted = p.accepted + 1 }) (λ q. same_batch q.batch batch) ps) ≡ fetched_of x ps)
more_accepted x ps batch p found =
    let s = sum_changed (λ p. if_so (same_batch p.batch x) p.accepted) (λ p. record p { accepted = p.accepted + 1 })
    (λ q. same_batch q.batch batch) ps p found in
    let m = if_more (same_batch p.batch x) p.accepted in
    let same : one (same_batch p.batch x) ≡ one (same_batch batch x) =
    ap (λ y. one (same_batch y x)) (same_batch_is p.batch batch (found_passes (λ q. same_batch q.batch batch) ps p found)) in (
      omega arith,
      sum_kept (λ p. if_so (same_batch p.batch x) p.fetched) (λ p. record p { accepted = p.accepted + 1 })
          (λ q. same_batch q.batch batch) (λ p. refl) ps,
    )

more_fetched : (x : BatchId) (ps : List Part) (batch : BatchId) (p : Part) → part_in ps batch ≡ Some p
    → (fetched_of x (change_first (λ p. record p { fetched = p.fetched + 1 }) (λ q. same_batch q.batch batch) ps)
    ≡ fetched_of x ps + one (same_batch batch x))
    × (accepted_of x (change_first (λ p. record p { fetched = p.fetched + 1 }) (λ q. same_batch q.batch batch) ps) ≡ accepted_of x ps)
more_fetched x ps batch p found =
    let s = sum_changed (λ p. if_so (same_batch p.batch x) p.fetched) (λ p. record p { fetched = p.fetched + 1 })
    (λ q. same_batch q.batch batch) ps p found in
    let m = if_more (same_batch p.batch x) p.fetched in
    let same : one (same_batch p.batch x) ≡ one (same_batch batch x) =
    ap (λ y. one (same_batch y x)) (same_batch_is p.batch batch (found_passes (λ q. same_batch q.batch batch) ps p found)) in (
      omega arith,
      sum_kept (λ p. if_so (same_batch p.batch x) p.accepted) (λ p. record p { fetched = p.fetched + 1 })
          (λ q. same_batch q.batch batch) (λ p. refl) ps,
    )

-- A unit is accepted.

owing_pushed : (batch : BatchId) (us : List Placed) (v : Placed) (n : ℕ) (s : Status) → IsFetchOf us n s
    → owing batch (us ++ v ∷ []) s ≡ owing batch us s
owing_pushed batch us v n (does.Fetching call id true) is = rw (find_before (λ v. same_unit v.unit.id id) us (v ∷ []) is.0 is.2, is.2) refl
owing_pushed batch us v n (does.Fetching call id false) is = refl
owing_pushed batch us v n _ is = refl

counted_accepted : (b n : Bag) (server : Server) (id : UnitId) → IsAccepted b n server id → FetchesAreReady b.ranks b.units
    → BatchesAreOpen b.ranks b.parts → PartsCount b.ranks b.units b.parts → PartsCount n.ranks n.units n.parts
counted_accepted b n server id a fetches parts is =
    rw (a.ranks, a.units, a.parts)
    (counted_turn b.ranks (b.units ++ lodged server a.u ∷ []) (shared_parts a.u.common b.parts) id.rank.0 ended a.r a.there
    (quiet (b.units ++ lodged server a.u ∷ []) a.r.status (rw a.puts refl))
    (record {
      each = λ batch.
          let push = sum_by_push (unspent batch) b.units (lodged server a.u) in
          let owed : owes batch (b.units ++ lodged server a.u ∷ []) b.ranks ≡ owes batch b.units b.ranks =
          sum_same _ _ b.ranks (λ k r e. owing_pushed batch b.units (lodged server a.u) k r.status (fetches.each k r e)) in
          let more = shares batch a.u.common refl in
          let c = is.each batch in
          omega arith;
    }))
  where
    shares : (batch : BatchId) (o : Option CommonRef) → a.u.common ≡ o
        → (accepted_of batch (shared_parts o b.parts) ≡ accepted_of batch b.parts + one (is_of batch o))
        × (fetched_of batch (shared_parts o b.parts) ≡ fetched_of batch b.parts)
    shares batch None e = (omega arith, refl)
    shares batch (Some c) e =
        let p = put_is_open b.ranks b.parts id.rank.0 a.r a.u c a.there a.puts e parts in
        more_accepted batch b.parts c.batch p.0 p.1

HasCounts : Bag → Type 0
HasCounts b = PartsCount b.ranks b.units b.parts

counted_kept : (b : Bag) (server : Server) (batch : BatchId) (l : Legal b (Kept server batch)) → HasCounts b
    → HasCounts (kept server batch (Some (batch.number, l.1)) b)
unfolding HasCounts
counted_kept b server batch l is =
    counted_turn b.ranks b.units (b.parts ++ new_part server batch l.1 ∷ []) batch.rank.0 _ l.0 l.2 (quiet b.units l.0.status (rw l.3 refl))
    (record {
      each = λ x.
          let a = sum_by_push (λ p. if_so (same_batch p.batch x) p.accepted) b.parts (new_part server batch l.1) in
          let f = sum_by_push (λ p. if_so (same_batch p.batch x) p.fetched) b.parts (new_part server batch l.1) in
          let none = if_none (same_batch batch x) in
          let c = is.each x in
          omega arith;
    })

-- Own bytes come: the unit is spent, and the rank is owed the common bytes.

counted_own : (b : Bag) (server : Server) (rank : Rank) (call : ℕ) (id : UnitId) (u : Placed) (r : RankState) (common : Option CommonRef)
    → slice_get b.ranks rank.0 ≡ Some r → r.status ≡ does.Fetching call id false → Stands b id u (Pinned server rank)
    → common_in b.units id ≡ common
    → HasCounts b → PartsCount (change_at (own_fetched common) rank.0 b.ranks) (moved id Spent b).units b.parts
unfolding HasCounts
counted_own b server rank call id u r common there status stands is_common is = record {
  each = λ batch.
      let s = sum_changed (unspent batch) (λ u. record u { place = Spent }) (λ u. same_unit u.unit.id id) b.units u stands.0 in
      let of_unit : u.unit.common ≡ common = rw stands.0 at is_common in
      let before : unspent batch u ≡ one (is_of batch common) = rw (stands.1, of_unit) refl in
      let o = owes_moved batch b.units id Spent b.ranks in
      let t = sum_turned (λ (r : RankState). owing batch (moved id Spent b).units r.status) (own_fetched common) rank.0 b.ranks r there in
      let none : owing batch (moved id Spent b).units r.status ≡ 0 = rw status refl in
      let now = own batch common is_common in
      let c = is.each batch in
      omega arith;
}
  where
    own : (batch : BatchId) (o : Option CommonRef) → common_in b.units id ≡ o
        → owing batch (moved id Spent b).units (own_fetched o r).status ≡ one (is_of batch o)
    own batch None e = refl
    own batch (Some c) e = rw status (ap (λ o. one (is_of batch o)) (common_moved b.units id id Spent ∙ e))

-- The common bytes come.

counted_common : (b : Bag) (rank : Rank) (call : ℕ) (id : UnitId) (u : Placed) (common : CommonRef) (p : Part) (r : RankState)
    → slice_get b.ranks rank.0 ≡ Some r → r.status ≡ does.Fetching call id true → unit_of b id ≡ Some u → u.unit.common ≡ Some common
    → part_in b.parts common.batch ≡ Some p
    → HasCounts b
    → PartsCount (change_at ended rank.0 b.ranks) b.units
    (change_first (λ p. record p { fetched = p.fetched + 1 }) (λ q. same_batch q.batch common.batch) b.parts)
unfolding HasCounts
counted_common b rank call id u common p r there status stands shares found is = record {
  each = λ batch.
      let t = sum_turned (λ (r : RankState). owing batch b.units r.status) ended rank.0 b.ranks r there in
      let of_unit : common_in b.units id ≡ Some common = rw stands shares in
      let was : owing batch b.units r.status ≡ one (same_batch common.batch batch) = rw (status, of_unit) refl in
      let m = more_fetched batch b.parts common.batch p found in
      let c = is.each batch in
      omega arith;
}

counted_special : (found : Bag → Bool) (b : Bag) (e : Entry) → is_special e ≡ true → LegalWhere found b e → FetchesAreReady b.ranks b.units
    → BatchesAreOpen b.ranks b.parts → HasCounts b → HasCounts (after b e)
unfolding HasCounts
counted_special found b (Putting rank call kind prio target answer body) s l fetches parts is =
    counted_turn _ _ _ rank.0 _ l.0 l.1.0 (quiet _ l.0.status (rw l.1.1 refl)) is
counted_special found b (Accepted server id) s l fetches parts is =
    counted_accepted b _ server id (accepted_is b server id l) fetches parts is
counted_special found b (Keeping rank call common) s l fetches parts is =
    counted_turn _ _ _ rank.0 _ l.0 l.1.0 (quiet _ l.0.status (rw l.1.1 refl)) is
counted_special found b (Kept server batch) s l fetches parts is =
    subst HasCounts (sym (kept_is b server batch l)) (counted_kept b server batch l is)
counted_special found b (Closed server batch) s l fetches parts is =
    counted_turn _ _ _ batch.rank.0 _ l.0 l.4 (quiet _ l.0.status (rw l.5 refl))
    (counted_part _ _ _ batch (λ p. record p { closed = true }) (λ p. refl) (λ p. refl) (λ p. refl) is)
counted_special found b (Freed server batch) s l fetches parts is =
    counted_part _ _ _ batch (λ p. record p { freed = true }) (λ p. refl) (λ p. refl) (λ p. refl) is
counted_special found b (Granted server rank call id) s l fetches parts is =
    counted_turn _ _ _ rank.0 ended l.0 l.3 (quiet _ l.0.status (wish_bare l.0.status (call, l.1) l.4))
    (counted_moved b id (Pinned server rank) l.2 l.6.0 (rw l.6.1 refl) refl is)
counted_special found b (Fetching rank call id) s l fetches parts is = counted_turn _ _ _ rank.0 _ l.0 l.3.0 (λ batch. rw l.3.1 refl) is
counted_special found b (Fetched server rank id) s l fetches parts is =
    counted_own b server rank l.1 id l.2 l.0 (common_in b.units id) l.3 l.4 l.6 refl is
counted_special found b (CommonFetched server rank batch) s l fetches parts is =
    let IsIn : BatchId → Type 0 = λ x. PartsCount (change_at ended rank.0 b.ranks) b.units
    (change_first (λ p. record p { fetched = p.fetched + 1 }) (λ q. same_batch q.batch x) b.parts) in
    subst IsIn l.10 (counted_common b rank l.1 l.2 l.3 l.4 l.5 l.0 l.6 l.7 l.8 l.9 (rw l.10 l.11.1) is)
counted_special found b (Promised server id n) s l fetches parts is = is
counted_special found b (Left server to id) s l fetches parts is = counted_moved b id (Travelling to) l.0 l.2.0 (rw l.2.1 refl) refl is
counted_special found b (Arrived server id) s l fetches parts is = counted_moved b id (Free server) l.0 l.1.0 (rw l.1.1 refl) refl is
counted_special found b (Withdrawn server id) s l fetches parts is = is
counted_special found b Exhausted s l fetches parts is = is
counted_special found b _ s l fetches parts is = absurd (cc)

-- a legal entry keeps the counts of parts
pub counts_stay : (found : Bag → Bool) (b : Bag) (e : Entry) → LegalWhere found b e → FetchesAreReady b.ranks b.units
    → BatchesAreOpen b.ranks b.parts → PartsCount b.ranks b.units b.parts → PartsCount (after b e).ranks (after b e).units (after b e).parts
unfolding HasCounts
counts_stay found b e l fetches parts is = by_case (plain_or_special found b e l)
  where
    by_case : IsPlain b (after b e) ⊎ (is_special e ≡ true) → PartsCount (after b e).ranks (after b e).units (after b e).parts
    by_case (inl p) =
        rw (p.ranks, p.units, p.parts)
        (counted_turn b.ranks b.units b.parts p.place p.f p.r p.there
        (λ batch. owing_calm batch b.units p.r.status (p.f p.r).status p.calm) is)
    by_case (inr s) = counted_special found b e s l fetches parts is
