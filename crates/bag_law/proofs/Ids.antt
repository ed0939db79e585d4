-- Ids of units and parts, and what a rank is about to bring.
use Rattle.std.proofs.Common.{◌≡◌, ℕ, ◌+◌, ◌≤◌, ◌==◌, ◌&&◌, ◌⊎◌, inl, inr, Bool, true, false, List, [], ◌∷◌, ◌++◌, Option, Some, None, refl}
use Rattle.std.proofs.Common.{sym, ap, ◌∙◌, subst, arith, slice_get}
use Rattle.std.specs.Prelude.{nat_lt}
use Rattle.std.proofs.lemmas.Bool.{ltb-true, lt-ltb, le-ltb, eqb-true, false_from_ne_true}
use Rattle.std.proofs.lemmas.List.Sums.{sum_by_push}
use Rattle.adlb_unit.specs.declared.names.Server.{Server}
use Rattle.adlb_unit.specs.declared.names.UnitId.{UnitId}
use Rattle.adlb_unit.specs.declared.names.BatchId.{BatchId}
use Rattle.adlb_unit.specs.declared.names.CommonRef.{CommonRef}
use Rattle.adlb_unit.specs.Ids.{same_batch, same_unit}
use Rattle.bag_ledger.specs.declared.entries.Entry.{Entry}
use Rattle.bag_ledger.specs.declared.entries.Entry.TheVariants.{Putting, Accepted, Keeping, Kept, Closed, Freed, Granted, Fetching, Fetched}
use Rattle.bag_ledger.specs.declared.entries.Entry.TheVariants.{CommonFetched, Promised, Left, Arrived, Withdrawn, Exhausted}
use Rattle.bag_ledger.specs.declared.states.RankState.{RankState}
use Rattle.bag_ledger.specs.declared.states.Placed.{Placed}
use Rattle.bag_ledger.specs.declared.states.Part.{Part}
use Rattle.bag_ledger.specs.declared.states.UnitPlace.{UnitPlace}
use Rattle.bag_ledger.specs.declared.states.Status.{Status}
use Rattle.bag_ledger.specs.declared.states.Status.TheVariants as does
use Rattle.bag_ledger.specs.Bag.{Bag}
use Rattle.bag_ledger.specs.Steps.{Legal, LegalWhere, after, ended, change_at, change_first, kept, new_part, own_fetched}
use Rattle.bag_ledger.proofs.Tests.{same_number}
use Rattle.bag_law.specs.Counts.{batch_id, brings, brought, if_there, one, part_in, parts_named, unit_in, units_named, used}
use Rattle.bag_law.specs.Sound.{IdsAreNew}
use Rattle.adlb_unit.specs.declared.units.Unit.{Unit}
use Rattle.bag_law.proofs.Turn.{one_le, Turned, none_found, turned, sum_kept}
use Rattle.bag_law.proofs.Plain.{IsAccepted, IsCalm, IsPlain, accepted_is, is_bare, is_special, kept_is, lodged, shared_parts}
use Rattle.bag_law.proofs.Plain.{plain_or_special}

-- a number stays used
pub used_rises : (n a c : ℕ) → a ≤ c → one (nat_lt n a) ≤ one (nat_lt n c)
used_rises n a c up = by_test (nat_lt n a) refl
  where
    by_test : (t : Bool) → nat_lt n a ≡ t → one t ≤ one (nat_lt n c)
    by_test true is = let low = ltb-true n a is in rw (lt-ltb n c (omega arith)) (omega arith)
    by_test false is = omega arith

-- a call uses its number
pub used_begins : (n call : ℕ) → one (call == n) + one (nat_lt n call) ≤ one (nat_lt n (call + 1))
used_begins n call = by_test (call == n) refl
  where
    by_test : (t : Bool) → (call == n) ≡ t → one t + one (nat_lt n call) ≤ one (nat_lt n (call + 1))
    by_test true is =
        let same = eqb-true call n is in
        rw (le-ltb n call (omega arith), lt-ltb n (call + 1) (omega arith)) (omega arith)
    by_test false is = omega (arith, used_rises n call (call + 1) (omega arith))

-- a rank has its turn, and units and parts may come
new_step : (ranks : List RankState) (us vs : List Placed) (ps qs : List Part) (place : ℕ) (f : RankState → RankState) (r : RankState)
    → slice_get ranks place ≡ Some r
    → ((id : UnitId) → place ≡ id.rank.0 → units_named id vs + parts_named id qs + brought id.number (f r) + used id.number r
    ≤ units_named id us + parts_named id ps + brought id.number r + used id.number (f r))
    → ((id : UnitId) → (place ≡ id.rank.0 → ⊥) → units_named id vs + parts_named id qs ≤ units_named id us + parts_named id ps)
    → IdsAreNew ranks us ps → IdsAreNew (change_at f place ranks) vs qs
new_step ranks us vs ps qs place f r there here else_where is = record { each = λ id. by_case id (turned f place ranks r there id.rank.0) }
  where
    by_case : (id : UnitId) → Turned f place ranks r id.rank.0
        → units_named id vs + parts_named id qs + if_there (brought id.number) (slice_get (change_at f place ranks) id.rank.0)
        ≤ if_there (used id.number) (slice_get (change_at f place ranks) id.rank.0)
    by_case id (inl c) =
        let was : units_named id us + parts_named id ps + brought id.number r ≤ used id.number r = rw c.2 at (is.each id) in
        let more = here id c.0 in
        rw c.1 (omega arith)
    by_case id (inr c) = let was = is.each id in let more = else_where id c.0 in rw c.1 (omega arith)

-- only a rank has its turn, and brings no more than before
new_turn : (ranks : List RankState) (us : List Placed) (ps : List Part) (place : ℕ) (f : RankState → RankState) (r : RankState)
    → slice_get ranks place ≡ Some r
    → ((n : ℕ) → brought n (f r) + used n r ≤ brought n r + used n (f r)) → IdsAreNew ranks us ps
    → IdsAreNew (change_at f place ranks) us ps
new_turn ranks us ps place f r there gains is =
    new_step ranks us us ps ps place f r there (λ id same. let g = gains id.number in omega arith) (λ id differs. omega arith) is

brings_bare : (n : ℕ) (s : Status) → is_bare s ≡ true → brings n s ≡ 0
brings_bare n (does.Putting u) e = absurd (cc)
brings_bare n (does.Keeping call common) e = absurd (cc)
brings_bare n _ e = refl

calm_gains : (r v : RankState) → r.next ≤ v.next → IsCalm r.status v.status → (n : ℕ) → brought n v + used n r ≤ brought n r + used n v
calm_gains r v rises (inl same) n = let u = used_rises n r.next v.next rises in rw same (omega arith)
calm_gains r v rises (inr bare) n = let u = used_rises n r.next v.next rises in rw (brings_bare n v.status bare.1) (omega arith)

-- a rank whose call ends, and a call begins
new_ended : (ranks : List RankState) (us : List Placed) (ps : List Part) (place : ℕ) (f : RankState → RankState) (r : RankState)
    → slice_get ranks place ≡ Some r → (f r).next ≡ r.next → is_bare (f r).status ≡ true → IdsAreNew ranks us ps
    → IdsAreNew (change_at f place ranks) us ps
new_ended ranks us ps place f r there same bare is =
    new_turn ranks us ps place f r there (λ n. rw (brings_bare n (f r).status bare, same) (omega arith)) is

new_begun : (ranks : List RankState) (us : List Placed) (ps : List Part) (place call : ℕ) (f : RankState → RankState) (r : RankState)
    → slice_get ranks place ≡ Some r → r.next ≡ call → (f r).next ≡ r.next + 1 → ((n : ℕ) → brought n (f r) ≤ one (call == n))
    → IdsAreNew ranks us ps → IdsAreNew (change_at f place ranks) us ps
new_begun ranks us ps place call f r there number next hand is =
    new_turn ranks us ps place f r there (λ n.
    let u = used_begins n call in
    let h = hand n in
    let before : used n r ≡ one (nat_lt n call) = ap (λ m. one (nat_lt n m)) number in
    let now : used n (f r) ≡ one (nat_lt n (call + 1)) = ap (λ m. one (nat_lt n m)) (next ∙ ap (λ m. m + 1) number) in
    omega arith) is

-- a move keeps the ids of units
pub same_units : (id : UnitId) (x : UnitId) (place : UnitPlace) (us : List Placed)
    → units_named x (change_first (λ u. record u { place = place }) (λ u. same_unit u.unit.id id) us) ≡ units_named x us
same_units id x place us =
    sum_kept (λ u. one (same_unit u.unit.id x)) (λ u. record u { place = place }) (λ u. same_unit u.unit.id id) (λ u. refl) us

new_moved : (ranks : List RankState) (us : List Placed) (ps : List Part) (id : UnitId) (place : UnitPlace) → IdsAreNew ranks us ps
    → IdsAreNew ranks (change_first (λ u. record u { place = place }) (λ u. same_unit u.unit.id id) us) ps
new_moved ranks us ps id place is = record { each = λ x. rw (same_units id x place us) (is.each x) }

new_changed : (ranks : List RankState) (us : List Placed) (ps : List Part) (batch : BatchId) (g : Part → Part)
    → ((p : Part) → (g p).batch ≡ p.batch) → IdsAreNew ranks us ps → IdsAreNew ranks us (change_first g (λ p. same_batch p.batch batch) ps)
new_changed ranks us ps batch g same is =
    record {
      each = λ x. rw (sum_kept (λ p. one (same_batch p.batch (batch_id x))) g (λ p. same_batch p.batch batch)
          (λ p. rw (same p) refl) ps) (is.each x);
    }

new_shared : (ranks : List RankState) (us : List Placed) (ps : List Part) (common : Option CommonRef) → IdsAreNew ranks us ps
    → IdsAreNew ranks us (shared_parts common ps)
new_shared ranks us ps None is = is
new_shared ranks us ps (Some c) is = new_changed ranks us ps c.batch (λ p. record p { accepted = p.accepted + 1 }) (λ p. refl) is

-- one id counts where rank and number are the same
pub pair_same : (a x n m : ℕ) → a ≡ x → one ((a == x) && (n == m)) ≡ one (n == m)
pair_same a x n m same = rw (same, same_number x) refl

-- two numbers that differ in the first do not count as equal
pub pair_differs : (a x n m : ℕ) → (a ≡ x → ⊥) → one ((a == x) && (n == m)) ≡ 0
pair_differs a x n m differs = rw (false_from_ne_true (a == x) (λ e. differs (eqb-true a x e))) refl

new_accepted : (b n : Bag) (server : Server) (id : UnitId) → IsAccepted b n server id → IdsAreNew b.ranks b.units b.parts
    → IdsAreNew n.ranks n.units n.parts
new_accepted b n server id a is =
    rw (a.ranks, a.units, a.parts) (new_shared (change_at ended id.rank.0 b.ranks) (b.units ++ lodged server a.u ∷ []) b.parts a.u.common
    (new_step b.ranks b.units (b.units ++ lodged server a.u ∷ []) b.parts b.parts id.rank.0 ended a.r a.there
    (λ x same. let push = sum_by_push (λ u. one (same_unit u.unit.id x)) b.units (lodged server a.u) in
    let hand : brought x.number a.r ≡ one (id.number == x.number) = rw (a.puts, a.named) refl in
    let new : one (same_unit a.u.id x) ≡ one (id.number == x.number) = rw a.named (pair_same id.rank.0 x.rank.0 id.number x.number same) in
    omega arith)
    (λ x differs. let push = sum_by_push (λ u. one (same_unit u.unit.id x)) b.units (lodged server a.u) in
    let none : one (same_unit a.u.id x) ≡ 0 = rw a.named (pair_differs id.rank.0 x.rank.0 id.number x.number differs) in
    omega arith)
    is))

-- the ids of a bag
abbrev pub HasIds : Bag → Type 0
HasIds b = IdsAreNew b.ranks b.units b.parts

new_kept : (b : Bag) (server : Server) (batch : BatchId) (l : Legal b (Kept server batch)) → HasIds b
    → HasIds (kept server batch (Some (batch.number, l.1)) b)
new_kept b server batch l is =
    let p = new_part server batch l.1 in
    new_step b.ranks b.units b.units b.parts (b.parts ++ p ∷ []) batch.rank.0
    (λ r. ended (record r { batch = Some (record { batch = batch; server = server; length = _ }) })) l.0 l.2
    (λ x same. let push = sum_by_push (λ p. one (same_batch p.batch (batch_id x))) b.parts p in
    let hand : brought x.number l.0 ≡ one (batch.number == x.number) = rw l.3 refl in
    let new : one (same_batch batch (batch_id x)) ≡ one (batch.number == x.number) =
    pair_same batch.rank.0 x.rank.0 batch.number x.number same in
    omega arith)
    (λ x differs. let push = sum_by_push (λ p. one (same_batch p.batch (batch_id x))) b.parts p in
    let none : one (same_batch batch (batch_id x)) ≡ 0 = pair_differs batch.rank.0 x.rank.0 batch.number x.number differs in
    omega arith)
    is

new_own : (ranks : List RankState) (us : List Placed) (ps : List Part) (place call : ℕ) (id : UnitId) (common : Option CommonRef)
    (r : RankState)
    → slice_get ranks place ≡ Some r → r.status ≡ does.Fetching call id false → IdsAreNew ranks us ps
    → IdsAreNew (change_at (own_fetched common) place ranks) us ps
new_own ranks us ps place call id None r there status is = new_ended ranks us ps place ended r there refl refl is
new_own ranks us ps place call id (Some c) r there status is =
    new_turn ranks us ps place (own_fetched (Some c)) r there (λ n. rw status (omega arith)) is

new_special : (found : Bag → Bool) (b : Bag) (e : Entry) → is_special e ≡ true → LegalWhere found b e → HasIds b → HasIds (after b e)
new_special found b (Putting rank call kind prio target answer body) s l is =
    new_begun _ _ _ rank.0 call _ l.0 l.1.0 l.1.2 refl (λ n. omega arith) is
new_special found b (Accepted server id) s l is = new_accepted b (after b (Accepted server id)) server id (accepted_is b server id l) is
new_special found b (Keeping rank call common) s l is = new_begun _ _ _ rank.0 call _ l.0 l.1.0 l.1.2 refl (λ n. omega arith) is
new_special found b (Kept server batch) s l is = subst HasIds (sym (kept_is b server batch l)) (new_kept b server batch l is)
new_special found b (Closed server batch) s l is =
    new_ended _ _ _ batch.rank.0 _ l.0 l.4 refl refl (new_changed _ _ _ batch (λ p. record p { closed = true }) (λ p. refl) is)
new_special found b (Freed server batch) s l is = new_changed _ _ _ batch (λ p. record p { freed = true }) (λ p. refl) is
new_special found b (Granted server rank call id) s l is = new_ended _ _ _ rank.0 ended l.0 l.3 refl refl (new_moved _ _ _ id _ is)
new_special found b (Fetching rank call id) s l is = new_begun _ _ _ rank.0 call _ l.0 l.3.0 l.3.2 refl (λ n. omega arith) is
new_special found b (Fetched server rank id) s l is = new_own _ _ _ rank.0 l.1 id _ l.0 l.3 l.4 (new_moved _ _ _ id _ is)
new_special found b (CommonFetched server rank batch) s l is =
    new_ended _ _ _ rank.0 ended l.0 l.6 refl refl (new_changed _ _ _ batch (λ p. record p { fetched = p.fetched + 1 }) (λ p. refl) is)
new_special found b (Left server to id) s l is = new_moved _ _ _ id _ is
new_special found b (Arrived server id) s l is = new_moved _ _ _ id _ is
new_special found b (Promised server id n) s l is = is
new_special found b (Withdrawn server id) s l is = is
new_special found b Exhausted s l is = is
new_special found b _ s l is = absurd (cc)

new_plain : (b n : Bag) → IsPlain b n → HasIds b → HasIds n
new_plain b n p is =
    rw (p.ranks, p.units, p.parts) (new_turn b.ranks b.units b.parts p.place p.f p.r p.there (calm_gains p.r (p.f p.r) p.rises p.calm) is)

-- a legal entry makes no id stand twice
pub ids_stay : (found : Bag → Bool) (b : Bag) (e : Entry) → LegalWhere found b e → HasIds b → HasIds (after b e)
ids_stay found b e l is = by_case (plain_or_special found b e l)
  where
    by_case : IsPlain b (after b e) ⊎ (is_special e ≡ true) → HasIds (after b e)
    by_case (inl p) = new_plain b (after b e) p is
    by_case (inr s) = new_special found b e s l is

-- What it gives: what a rank is about to bring is not there yet, and what is there has a used number.

none_yet : (ranks : List RankState) (us : List Placed) (ps : List Part) (id : UnitId) (r : RankState) → slice_get ranks id.rank.0 ≡ Some r
    → brought id.number r ≡ 1 → IdsAreNew ranks us ps → (units_named id us ≡ 0) × (parts_named id ps ≡ 0)
none_yet ranks us ps id r there hand is =
    let all : units_named id us + parts_named id ps + brought id.number r ≤ used id.number r = rw there at (is.each id) in
    let most : used id.number r ≤ 1 = one_le (nat_lt id.number r.next) in
    (omega arith, omega arith)

-- the part of a batch that a rank begins is not there yet
pub begun_part_is_new : (ranks : List RankState) (us : List Placed) (ps : List Part) (batch : BatchId) (r : RankState) (common : List ℕ)
    → slice_get ranks batch.rank.0 ≡ Some r → r.status ≡ does.Keeping batch.number common → IdsAreNew ranks us ps
    → part_in ps batch ≡ None
begun_part_is_new ranks us ps batch r common there status is =
    let id : UnitId = record { rank = batch.rank; number = batch.number } in
    let hand : brought batch.number r ≡ 1 = rw (status, same_number batch.number) refl in
    none_found (λ p. same_batch p.batch batch) ps (none_yet ranks us ps id r there hand is).1

-- the unit that a rank puts is not there yet
pub put_unit_is_new : (ranks : List RankState) (us : List Placed) (ps : List Part) (id : UnitId) (r : RankState) (u : Unit)
    → slice_get ranks id.rank.0 ≡ Some r → r.status ≡ does.Putting u → u.id ≡ id → IdsAreNew ranks us ps
    → unit_in us id ≡ None
put_unit_is_new ranks us ps id r u there status named is =
    let hand : brought id.number r ≡ 1 = rw (status, named, same_number id.number) refl in
    none_found (λ v. same_unit v.unit.id id) us (none_yet ranks us ps id r there hand is).0
