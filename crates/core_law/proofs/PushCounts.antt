-- How many promises of a unit a step of the bag leaves, and how many units between servers.
use Rattle.std.specs.Prelude.{option_and_then}
use Rattle.std.proofs.Common.{Bool, List, None, Option, Some, [], ap, arith, false, filter, find, not, refl, sym, true, ℕ, ◌&&◌, ◌++◌, ◌+◌}
use Rattle.std.proofs.Common.{◌∙◌, ◌∷◌, ◌≡◌, ◌≤◌}
use Rattle.std.proofs.lemmas.List.Sums.{sum_by-cons, sum_by_push}
use Rattle.adlb_unit.specs.Ids.{same_unit}
use Rattle.adlb_unit.specs.declared.names.BatchId.{BatchId}
use Rattle.adlb_unit.specs.declared.names.CommonRef.{CommonRef}
use Rattle.adlb_unit.specs.declared.names.Server.{Server}
use Rattle.adlb_unit.specs.declared.names.UnitId.{UnitId}
use Rattle.adlb_unit.specs.declared.units.Unit.{Unit}
use Rattle.adlb_unit.proofs.Same.{same_unit_is}
use Rattle.bag_ledger.specs.Bag.{Bag, is_travelling, keeping, promise_of, putting, rank_at}
use Rattle.bag_ledger.specs.Runs.{IsRunWhere}
use Rattle.bag_ledger.specs.Steps.{LegalWhere, after, change_first, kept, shared, taken}
use Rattle.bag_ledger.specs.declared.entries.Entry.TheVariants as enters
use Rattle.bag_ledger.specs.declared.entries.Entry.{Entry}
use Rattle.bag_ledger.specs.declared.states.Placed.{Placed}
use Rattle.bag_ledger.specs.declared.states.Promise.{Promise}
use Rattle.bag_ledger.specs.declared.states.RankState.{RankState}
use Rattle.bag_ledger.specs.declared.states.UnitPlace.TheVariants.{Free, Pinned, Spent}
use Rattle.bag_ledger.specs.declared.states.UnitPlace.{UnitPlace}
use Rattle.bag_ledger.proofs.Lookups.{sum_changed}
use Rattle.bag_law.specs.Counts.{one as counts_one, promises_named}
use Rattle.bag_law.specs.Sound.{PromisesAreSingle}
use Rattle.bag_law.proofs.Turn.{found_passes}
use Rattle.core_law.specs.Letters.{one}
use Rattle.core_law.specs.OnLinks.{Each}
use Rattle.core_law.specs.Pushed.{on_way, pushes}
use Rattle.core_law.proofs.Coming.{single}
use Rattle.core_law.proofs.Once.{gone_sum, picked, picked_none}

-- Promises.

-- a test counts the same in both places
one_is_one : (t : Bool) → counts_one t ≡ one t
one_is_one true = refl
one_is_one false = refl

named_cons : (x : UnitId) (p : Promise) (rooms : List Promise)
    → promises_named x (p ∷ rooms) ≡ one (same_unit p.id x) + promises_named x rooms
named_cons x p rooms =
    sum_by-cons (λ (q : Promise). counts_one (same_unit q.id x)) p rooms
    ∙ ap (λ n. n + promises_named x rooms) (one_is_one (same_unit p.id x))

-- one more
pub named_more : (x : UnitId) (p : Promise) (rooms : List Promise)
    → promises_named x (rooms ++ p ∷ []) ≡ one (same_unit p.id x) + promises_named x rooms
named_more x p rooms =
    let sum = sum_by_push (λ (q : Promise). counts_one (same_unit q.id x)) rooms p in
    let same = one_is_one (same_unit p.id x) in
    omega arith

-- they are the ones that a test picks
named_are : (x : UnitId) (rooms : List Promise) → promises_named x rooms ≡ picked (λ (p : Promise). same_unit p.id x) rooms
named_are x [] = refl
named_are x (p ∷ rooms) =
    let sum = sum_by-cons (λ (q : Promise). one (same_unit q.id x)) p rooms in
    named_cons x p rooms ∙ ap (λ n. one (same_unit p.id x) + n) (named_are x rooms) ∙ sym sum

-- the promise that is no longer there was the only one of its unit
pub promise_gone : (id x : UnitId) (rooms : List Promise) (p : Promise) → PromisesAreSingle rooms
    → find (λ (q : Promise). same_unit q.id id) rooms ≡ Some p
    → one (same_unit id x) + promises_named x (filter (λ (q : Promise). not (same_unit q.id id)) rooms) ≡ promises_named x rooms
promise_gone id x rooms p single found =
    let few : picked (λ (q : Promise). same_unit q.id id) rooms ≤ 1 =
    let most = single.each id in let same = named_are id rooms in omega arith in
    let sum = gone_sum (λ (q : Promise). same_unit q.id id) (λ (q : Promise). counts_one (same_unit q.id x)) rooms p few found in
    let its : same_unit p.id id ≡ true = (found_passes (λ (q : Promise). same_unit q.id id) rooms p found) in
    let weight : counts_one (same_unit p.id x) ≡ one (same_unit id x) =
    one_is_one (same_unit p.id x) ∙ ap (λ (i : UnitId). one (same_unit i x)) (same_unit_is p.id id its) in
    omega arith

-- a unit of which no promise is counted has none
pub not_promised : (b : Bag) (id : UnitId) → promises_named id b.promises ≡ 0 → promise_of b id ≡ None
not_promised b id none = picked_none (λ (p : Promise). same_unit p.id id) b.promises (sym (named_are id b.promises) ∙ none)

-- Units between servers.

abbrev is_on_way : UnitId → Placed → ℕ
is_on_way id u = one (is_travelling u.place && same_unit u.unit.id id)

rests : (id : UnitId) (u : Placed) → is_travelling u.place ≡ false → is_on_way id u ≡ 0
rests id u is = rw is refl

-- one is moved
pub moved_way : (id x : UnitId) (place : UnitPlace) (units : List Placed) (u : Placed)
    → find (λ (v : Placed). same_unit v.unit.id x) units ≡ Some u
    → on_way id (change_first (λ (v : Placed). record v { place = place }) (λ (v : Placed). same_unit v.unit.id x) units)
    + one (is_travelling u.place && same_unit u.unit.id id)
    ≡ on_way id units + one (is_travelling place && same_unit u.unit.id id)
moved_way id x place units u found =
    sum_changed (is_on_way id) (λ (v : Placed). record v { place = place }) (λ (v : Placed). same_unit v.unit.id x) units u found

taken_way : (id : UnitId) (b : Bag) (server : Server) (o : Option Unit) → on_way id (taken server o b).units ≡ on_way id b.units
taken_way id b server None = refl
taken_way id b server (Some unit) = by_common unit.common
  where
    more : on_way id (b.units ++ record { unit = unit; place = Free server } ∷ []) ≡ on_way id b.units
    more = let sum = sum_by_push (is_on_way id) b.units (record { unit = unit; place = Free server }) in omega arith

    by_common : (c : Option CommonRef)
        → on_way id (shared c (record b { units = b.units ++ record { unit = unit; place = Free server } ∷ [] })).units ≡ on_way id b.units
    by_common None = more
    by_common (Some c) = more

kept_way : (id : UnitId) (b : Bag) (server : Server) (batch : BatchId) (o : Option (ℕ × List ℕ))
    → on_way id (kept server batch o b).units ≡ on_way id b.units
kept_way id b server batch None = refl
kept_way id b server batch (Some x) = refl

no_way : (rule : Bag → Bool) (id : UnitId) (b : Bag) (e : Entry) → LegalWhere rule b e → pushes e ≡ None
    → on_way id (after b e).units ≡ on_way id b.units
no_way rule id b (enters.Accepted server x) l none =
    taken_way id b server (option_and_then (λ (r : RankState). putting r.status) (rank_at b x.rank))
no_way rule id b (enters.Kept server batch) l none =
    kept_way id b server batch (option_and_then (λ (r : RankState). keeping r.status) (rank_at b batch.rank))
no_way rule id b (enters.Granted server rank call x) l none =
    let sum = moved_way id x (Pinned server rank) b.units l.2 l.6.0 in let was = rests id l.2 (rw l.6.1 refl) in omega arith
no_way rule id b (enters.Fetched server rank x) l none =
    let sum = moved_way id x Spent b.units l.2 l.6.0 in let was = rests id l.2 (rw l.6.1 refl) in omega arith
no_way rule id b (enters.Promised server x n) l none = absurd (cc)
no_way rule id b (enters.Left server to x) l none = absurd (cc)
no_way rule id b (enters.Arrived server x) l none = absurd (cc)
no_way rule id b (enters.Withdrawn server x) l none = absurd (cc)
no_way rule id b e l none = refl

-- entries that push nothing leave what is between servers
pub run_way : (rule : Bag → Bool) (id : UnitId) (es : List Entry) (b n : Bag) → IsRunWhere rule b es n → Each (λ e. pushes e ≡ None) es
    → on_way id n.units ≡ on_way id b.units
run_way rule id [] b n run none = ap (λ (x : Bag). on_way id x.units) (sym run)
run_way rule id (e ∷ es) b n run none =
    run_way rule id es run.0 n run.2 none.1 ∙ ap (λ (x : Bag). on_way id x.units) (run.1).2 ∙ no_way rule id b e (run.1).1 none.0
