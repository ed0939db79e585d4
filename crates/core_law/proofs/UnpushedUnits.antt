-- What a step of the bag leaves of a unit that it does not push, and of what is known of its push letters.
use Rattle.std.specs.Option.{option_or}
use Rattle.std.specs.Prelude.{option_and_then}
use Rattle.std.proofs.Common.{Bool, List, None, Option, Some, [], ap, arith, cond, false, find, inl, inr, length, refl, subst, sym, true, ℕ}
use Rattle.std.proofs.Common.{◌++◌, ◌∙◌, ◌∷◌, ◌≡◌, ◌⊎◌}
use Rattle.std.proofs.lemmas.Bool.{false_from_ne_true}
use Rattle.std.proofs.lemmas.List.Folds.{find-append}
use Rattle.adlb_unit.specs.Ids.{same_unit}
use Rattle.adlb_unit.specs.declared.actors.Actor.TheVariants as by
use Rattle.adlb_unit.specs.declared.actors.Actor.{Actor}
use Rattle.adlb_unit.specs.declared.messages.Message.TheVariants as tells
use Rattle.adlb_unit.specs.declared.messages.Message.{Message}
use Rattle.adlb_unit.specs.declared.names.BatchId.{BatchId}
use Rattle.adlb_unit.specs.declared.names.CommonRef.{CommonRef}
use Rattle.adlb_unit.specs.declared.names.Rank.{Rank}
use Rattle.adlb_unit.specs.declared.names.Server.{Server}
use Rattle.adlb_unit.specs.declared.names.UnitId.{UnitId}
use Rattle.adlb_unit.specs.declared.units.Unit.{Unit as Work}
use Rattle.adlb_unit.proofs.Same.{same_unit_from, same_unit_is}
use Rattle.bag_ledger.specs.Bag.{Bag, keeping, promise_of, putting, rank_at, unit_of}
use Rattle.bag_ledger.specs.Runs.{IsRunWhere}
use Rattle.bag_ledger.specs.Steps.{LegalWhere, after, kept, moved, shared, taken}
use Rattle.bag_ledger.specs.declared.entries.Entry.TheVariants as enters
use Rattle.bag_ledger.specs.declared.entries.Entry.{Entry}
use Rattle.bag_ledger.specs.declared.states.Placed.{Placed}
use Rattle.bag_ledger.specs.declared.states.Promise.{Promise}
use Rattle.bag_ledger.specs.declared.states.RankState.{RankState}
use Rattle.bag_ledger.specs.declared.states.UnitPlace.TheVariants.{Free, Pinned, Spent, Travelling}
use Rattle.bag_ledger.specs.declared.states.UnitPlace.{UnitPlace}
use Rattle.bag_ledger.proofs.Lookups.{find_before}
use Rattle.bag_ledger.proofs.Moves.{moved_here, moved_other, unpromised_other}
use Rattle.bag_ledger.proofs.Tests.{some_is}
use Rattle.server_law.specs.Moving.{IsHeldAt, IsMeasured, IsPromisedAt, is_held_at}
use Rattle.core_law.specs.Letters.{one}
use Rattle.core_law.specs.OnLinks.{Each}
use Rattle.core_law.specs.Pushed.{IsOfPush, OfPush, pushes}
use Rattle.core_law.specs.Pushes.{open_letter}

-- a unit stays where it is; or it is pinned where it was free, or spent where it was pinned
abbrev pub IsOnward : UnitPlace → UnitPlace → Type 0
IsOnward p q =
    (q ≡ p)
    ⊎ ((at : Server) × (rank : Rank) × (((p ≡ Free at) × (q ≡ Pinned at rank)) ⊎ ((p ≡ Pinned at rank) × (q ≡ Spent))))

-- the unit is where it was, or further on: pinned where it was free, or spent where it was pinned
pub record IsLater (n : Bag) (id : UnitId) (u : Placed) : Type 0 where
  pub unit : Placed
  pub found : unit_of n id ≡ Some unit
  pub same : unit.unit ≡ u.unit
  pub onward : IsOnward u.place unit.place

as_it_was : (n : Bag) (id : UnitId) (u : Placed) → unit_of n id ≡ Some u → IsLater n id u
as_it_was n id u found = record { unit = u; found = found; same = refl; onward = inl refl }

shared_units : (b : Bag) (common : Option CommonRef) (id : UnitId) → unit_of (shared common b) id ≡ unit_of b id
shared_units b None id = refl
shared_units b (Some c) id = refl

taken_units : (b : Bag) (server : Server) (o : Option Work) (id : UnitId) (u : Placed) → unit_of b id ≡ Some u
    → unit_of (taken server o b) id ≡ Some u
taken_units b server None id u found = found
taken_units b server (Some unit) id u found =
    let more : Placed = record { unit = unit; place = Free server } in
    shared_units (record b { units = b.units ++ more ∷ [] }) unit.common id
    ∙ find_before (λ (v : Placed). same_unit v.unit.id id) b.units (more ∷ []) u found

kept_units : (b : Bag) (server : Server) (batch : BatchId) (o : Option (ℕ × List ℕ)) (id : UnitId)
    → unit_of (kept server batch o b) id ≡ unit_of b id
kept_units b server batch None id = refl
kept_units b server batch (Some x) id = refl

-- another unit is moved, or this one onward
moved_later : (b : Bag) (x id : UnitId) (place : UnitPlace) (v u : Placed) → unit_of b x ≡ Some v → IsOnward v.place place
    → unit_of b id ≡ Some u → IsLater (moved x place b) id u
moved_later b x id place v u there onward found = by_test (same_unit x id) refl
  where
    by_test : (t : Bool) → same_unit x id ≡ t → IsLater (moved x place b) id u
    by_test true is =
        let same : x ≡ id = same_unit_is x id is in
        let it : v ≡ u = some_is (sym there ∙ ap (λ i. unit_of b i) same ∙ found) in
        record {
          unit = record u { place = place };
          found = ap (λ i. unit_of (moved x place b) i) (sym same) ∙ moved_here b x place v there
              ∙ ap (λ (w : Placed). Some (record w { place = place })) it;
          same = refl;
          onward = subst (λ (w : Placed). IsOnward w.place place) it onward;
        }
    by_test false differs = as_it_was (moved x place b) id u (moved_other b x id place differs ∙ found)

-- the entry pushes another unit, or none
abbrev pub IsNotOf : Option UnitId → UnitId → Type 0
IsNotOf None id = Unit {0}
IsNotOf (Some x) id = same_unit x id ≡ false

unit_later : (rule : Bag → Bool) (b : Bag) (e : Entry) (id : UnitId) (u : Placed) → LegalWhere rule b e → IsNotOf (pushes e) id
    → unit_of b id ≡ Some u → IsLater (after b e) id u
unit_later rule b (enters.Accepted server x) id u l apart found =
    let brought = option_and_then (λ (r : RankState). putting r.status) (rank_at b x.rank) in
    as_it_was (after b (enters.Accepted server x)) id u (taken_units b server brought id u found)
unit_later rule b (enters.Kept server batch) id u l apart found =
    let begins = option_and_then (λ (r : RankState). keeping r.status) (rank_at b batch.rank) in
    as_it_was (after b (enters.Kept server batch)) id u (kept_units b server batch begins id ∙ found)
unit_later rule b (enters.Granted server rank call x) id u l apart found =
    let is = moved_later b x id (Pinned server rank) l.2 u l.6.0 (inr (server, rank, inl (l.6.1, refl))) found in
    record { unit = is.unit; found = is.found; same = is.same; onward = is.onward }
unit_later rule b (enters.Fetched server rank x) id u l apart found =
    let is = moved_later b x id Spent l.2 u l.6.0 (inr (server, rank, inr (l.6.1, refl))) found in
    record { unit = is.unit; found = is.found; same = is.same; onward = is.onward }
unit_later rule b (enters.Left server to x) id u l apart found =
    as_it_was (after b (enters.Left server to x)) id u (moved_other b x id (Travelling to) apart ∙ found)
unit_later rule b (enters.Arrived server x) id u l apart found =
    as_it_was (after b (enters.Arrived server x)) id u (moved_other b x id (Free server) apart ∙ found)
unit_later rule b e id u l apart found = as_it_was (after b e) id u found

-- The promises.

taken_promises : (b : Bag) (server : Server) (o : Option Work) → (taken server o b).promises ≡ b.promises
taken_promises b server None = refl
taken_promises b server (Some unit) = by_common unit.common
  where
    by_common : (c : Option CommonRef)
        → (shared c (record b { units = b.units ++ record { unit = unit; place = Free server } ∷ [] })).promises ≡ b.promises
    by_common None = refl
    by_common (Some c) = refl

kept_promises : (b : Bag) (server : Server) (batch : BatchId) (o : Option (ℕ × List ℕ)) → (kept server batch o b).promises ≡ b.promises
kept_promises b server batch None = refl
kept_promises b server batch (Some x) = refl

-- an entry that pushes nothing leaves the promises
same_promises : (b : Bag) (e : Entry) → pushes e ≡ None → (after b e).promises ≡ b.promises
same_promises b (enters.Accepted server x) none =
    taken_promises b server (option_and_then (λ (r : RankState). putting r.status) (rank_at b x.rank))
same_promises b (enters.Kept server batch) none =
    kept_promises b server batch (option_and_then (λ (r : RankState). keeping r.status) (rank_at b batch.rank))
same_promises b (enters.Promised server x n) none = absurd (cc)
same_promises b (enters.Left server to x) none = absurd (cc)
same_promises b (enters.Arrived server x) none = absurd (cc)
same_promises b (enters.Withdrawn server x) none = absurd (cc)
same_promises b e none = refl

-- entries that push nothing leave the promises
pub run_promises : (rule : Bag → Bool) (es : List Entry) (b n : Bag) → IsRunWhere rule b es n → Each (λ e. pushes e ≡ None) es
    → n.promises ≡ b.promises
run_promises rule [] b n run none = ap (λ (x : Bag). x.promises) (sym run)
run_promises rule (e ∷ es) b n run none =
    run_promises rule es run.0 n run.2 none.1 ∙ ap (λ (x : Bag). x.promises) (run.1).2 ∙ same_promises b e none.0

promised_other : (b : Bag) (p : Promise) (id : UnitId) → same_unit p.id id ≡ false
    → promise_of (record b { promises = b.promises ++ p ∷ [] }) id ≡ promise_of b id
promised_other b p id differs = find-append (λ (q : Promise). same_unit q.id id) b.promises (p ∷ []) ∙ by_found (promise_of b id)
  where
    by_found : (o : Option Promise) → option_or o (cond (same_unit p.id id) (Some p) None) ≡ o
    by_found (Some q) = refl
    by_found None = rw differs refl

-- an entry that pushes another unit leaves the promise of this one
promise_later : (b : Bag) (e : Entry) (id : UnitId) → IsNotOf (pushes e) id → promise_of (after b e) id ≡ promise_of b id
promise_later b (enters.Promised server x n) id apart = promised_other b (record { server = server; id = x; length = n }) id apart
promise_later b (enters.Left server to x) id apart = refl
promise_later b (enters.Arrived server x) id apart = unpromised_other (moved x (Free server) b) x id apart
promise_later b (enters.Withdrawn server x) id apart = unpromised_other b x id apart
promise_later b e id apart = ap (find (λ (p : Promise). same_unit p.id id)) (same_promises b e refl)

-- A push letter of another unit, or a step that pushes none.

held_onward : (a : Server) (p q : UnitPlace) → IsOnward p q → is_held_at a p ≡ true → is_held_at a q ≡ true
held_onward a p q (inl same) held = ap (is_held_at a) same ∙ held
held_onward a p q (inr (at, rank, inl both)) held = ap (is_held_at a) both.1 ∙ (ap (is_held_at a) (sym both.0) ∙ held)
held_onward a p q (inr (at, rank, inr both)) held = ap (is_held_at a) both.1

travels_on : (to : Server) (p q : UnitPlace) → IsOnward p q → p ≡ Travelling to → q ≡ Travelling to
travels_on to p q (inl same) is = same ∙ is
travels_on to p q (inr (at, rank, inl both)) is = let no_one : Free at ≡ Travelling to = sym both.0 ∙ is in absurd (cc)
travels_on to p q (inr (at, rank, inr both)) is = let no_one : Pinned at rank ≡ Travelling to = sym both.0 ∙ is in absurd (cc)

held_later : (rule : Bag → Bool) (b : Bag) (e : Entry) (a : Server) (id : UnitId) → LegalWhere rule b e → IsNotOf (pushes e) id
    → IsHeldAt b a id → IsHeldAt (after b e) a id
held_later rule b e a id l apart is =
    let later = unit_later rule b e id is.unit l apart is.found in
    record { unit = later.unit; found = later.found; held = held_onward a is.unit.place later.unit.place later.onward is.held }

measured_later : (rule : Bag → Bool) (b : Bag) (e : Entry) (id : UnitId) (n : ℕ) → LegalWhere rule b e → IsNotOf (pushes e) id
    → IsMeasured b id n → IsMeasured (after b e) id n
measured_later rule b e id n l apart is =
    let later = unit_later rule b e id is.unit l apart is.found in
    record { unit = later.unit; found = later.found; long = ap (λ (u : Work). length u.body) later.same ∙ is.long }

promised_later : (b : Bag) (e : Entry) (t : Server) (id : UnitId) → IsNotOf (pushes e) id → IsPromisedAt b t id
    → IsPromisedAt (after b e) t id
promised_later b e t id apart p = record { room = p.room; found = promise_later b e id apart ∙ p.found; here = p.here }

travel_later : (rule : Bag → Bool) (b : Bag) (e : Entry) (to : Server) (unit : Work) → LegalWhere rule b e → IsNotOf (pushes e) unit.id
    → unit_of b unit.id ≡ Some (record { unit = unit; place = Travelling to })
    → unit_of (after b e) unit.id ≡ Some (record { unit = unit; place = Travelling to })
travel_later rule b e to unit l apart there =
    let is = unit_later rule b e unit.id (record { unit = unit; place = Travelling to }) l apart there in
    let place = travels_on to (Travelling to) is.unit.place is.onward refl in
    is.found ∙ ap (λ (w : Work). Some (record { unit = w; place = is.unit.place })) is.same
    ∙ ap (λ (p : UnitPlace). Some (record { unit = unit; place = p })) place

-- a test that counts 0 does not pass
pub one_not : (t : Bool) → one t ≡ 0 → t ≡ false
one_not true e = absurd (omega arith)
one_not false e = refl

-- the entry pushes a unit of which the letter is not an open one
abbrev pub IsApart : Entry → Actor → Actor → Message → Type 0
IsApart e from to m = (id : UnitId) → pushes e ≡ Some id → open_letter id from to m ≡ 0

not_of : (o : Option UnitId) (x : UnitId) → ((id : UnitId) → o ≡ Some id → one (same_unit x id) ≡ 0) → IsNotOf o x
not_of None x none = tt
not_of (Some y) x none =
    false_from_ne_true (same_unit y x) (λ same.
    let again = same_unit_from x y (sym (same_unit_is y x same)) in
    let no_one = one_not (same_unit x y) (none y refl) in
    absurd (cc))

-- exhaustion that was found stays found
pub still_exhausted : (b : Bag) (e : Entry) → b.exhausted ≡ true → (after b e).exhausted ≡ true
still_exhausted b (enters.Accepted server x) is =
    taken_exhausted server (option_and_then (λ (r : RankState). putting r.status) (rank_at b x.rank)) ∙ is
  where
    taken_exhausted : (server : Server) (o : Option Work) → (taken server o b).exhausted ≡ b.exhausted
    taken_exhausted server None = refl
    taken_exhausted server (Some unit) = by_common unit.common
      where
        by_common : (c : Option CommonRef)
            → (shared c (record b { units = b.units ++ record { unit = unit; place = Free server } ∷ [] })).exhausted ≡ b.exhausted
        by_common None = refl
        by_common (Some c) = refl
still_exhausted b (enters.Kept server batch) is =
    kept_exhausted (option_and_then (λ (r : RankState). keeping r.status) (rank_at b batch.rank)) ∙ is
  where
    kept_exhausted : (o : Option (ℕ × List ℕ)) → (kept server batch o b).exhausted ≡ b.exhausted
    kept_exhausted None = refl
    kept_exhausted (Some x) = refl
still_exhausted b enters.Exhausted is = refl
still_exhausted b e is = is

of_push_later : (rule : Bag → Bool) (b : Bag) (e : Entry) (from to : Server) (m : Message) → LegalWhere rule b e
    → IsApart e (by.Server from) (by.Server to) m → OfPush b from to m → OfPush (after b e) from to m
of_push_later rule b e from to (tells.PushQuery id n) l apart of =
    let other = not_of (pushes e) id apart in
    (held_later rule b e from id l other of.0, measured_later rule b e id n l other of.1, promise_later b e id other ∙ of.2)
of_push_later rule b e from to (tells.PushYes id) l apart of =
    let other = not_of (pushes e) id apart in (held_later rule b e to id l other of.0, promised_later b e from id other of.1)
of_push_later rule b e from to (tells.PushNo id) l apart of = held_later rule b e to id l (not_of (pushes e) id apart) of
of_push_later rule b e from to (tells.PushUnit unit) l apart of = travel_later rule b e to unit l (not_of (pushes e) unit.id apart) of
of_push_later rule b e from to (tells.PushCancel id) l apart of =
    let other = not_of (pushes e) id apart in (held_later rule b e from id l other of.0, promised_later b e to id other of.1)
of_push_later rule b e from to tells.Exhaust l apart of = still_exhausted b e of
of_push_later rule b e from to _ l apart of = tt

is_of_push_later : (rule : Bag → Bool) (b : Bag) (e : Entry) (from to : Actor) (m : Message) → LegalWhere rule b e → IsApart e from to m
    → IsOfPush b from to m → IsOfPush (after b e) from to m
is_of_push_later rule b e (by.Server from) (by.Server to) m l apart of = of_push_later rule b e from to m l apart of
is_of_push_later rule b e (by.Server from) (by.Rank to) m l apart of = tt
is_of_push_later rule b e (by.Rank from) to m l apart of = tt

-- All entries.

-- the entries push no unit of which this is an open letter
abbrev pub AreApart : List Entry → Actor → Actor → Message → Type 0
AreApart es from to m = Each (λ e. IsApart e from to m) es

-- entries that are apart from a letter of a push leave what it says
pub run_later : (rule : Bag → Bool) (es : List Entry) (b n : Bag) (from to : Actor) (m : Message) → IsRunWhere rule b es n
    → AreApart es from to m → IsOfPush b from to m → IsOfPush n from to m
run_later rule [] b n from to m run apart of = subst (λ (x : Bag). IsOfPush x from to m) run of
run_later rule (e ∷ es) b n from to m run apart of =
    let step = run.1 in
    let next = is_of_push_later rule b e from to m step.1 apart.0 of in
    run_later rule es run.0 n from to m run.2 apart.1 (subst (λ (x : Bag). IsOfPush x from to m) (sym step.2) next)

-- entries that push nothing are apart from every letter, and those of one unit from each letter that is not an open one of it
pub none_pushed : (es : List Entry) (from to : Actor) (m : Message) → Each (λ e. pushes e ≡ None) es → AreApart es from to m
none_pushed [] from to m none = tt
none_pushed (e ∷ es) from to m none =
    ((λ id is. let no_one : None ≡ Some id = sym none.0 ∙ is in absurd (cc)), none_pushed es from to m none.1)

-- entries that push one unit are apart from letters that are not open ones of it
pub of_one : (es : List Entry) (id : UnitId) (from to : Actor) (m : Message) → Each (λ e. pushes e ≡ Some id) es
    → open_letter id from to m ≡ 0 → AreApart es from to m
of_one [] id from to m all none = tt
of_one (e ∷ es) id from to m all none = (
  (λ x is. subst (λ (y : UnitId). open_letter y from to m ≡ 0) (some_is (sym all.0 ∙ is)) none),
  of_one es id from to m all.1 none,
)
