-- What a sound bag gives.
use Rattle.std.proofs.Common.{◌≡◌, ℕ, zero, suc, ◌+◌, ◌≤◌, ◌<◌, ◌==◌, ◌⊎◌, inl, inr, Bool, true, false, List, [], ◌∷◌, find, length, sum_by}
use Rattle.std.proofs.Common.{Option, Some, None, refl, sym, ap, ◌∙◌, arith, slice_get}
use Rattle.std.specs.Prelude.{Contains, nat_lt}
use Rattle.std.proofs.lemmas.Bool.{ltb-true}
use Rattle.std.proofs.lemmas.List.Sums.{sum_by-cons}
use Rattle.adlb_unit.specs.declared.names.Rank.{Rank}
use Rattle.adlb_unit.specs.declared.names.Server.{Server}
use Rattle.adlb_unit.specs.declared.names.UnitId.{UnitId}
use Rattle.adlb_unit.specs.declared.names.BatchId.{BatchId}
use Rattle.adlb_unit.specs.declared.names.CommonRef.{CommonRef}
use Rattle.adlb_unit.specs.declared.units.Unit.{Unit}
use Rattle.adlb_unit.specs.Ids.{same_batch, same_unit}
use Rattle.adlb_unit.proofs.Same.{same_batch_from, same_unit_from}
use Rattle.bag_ledger.specs.declared.states.RankState.{RankState}
use Rattle.bag_ledger.specs.declared.states.Placed.{Placed}
use Rattle.bag_ledger.specs.declared.states.Part.{Part}
use Rattle.bag_ledger.specs.declared.states.UnitPlace.TheVariants.{Pinned, Spent}
use Rattle.bag_ledger.specs.declared.states.Status.TheVariants as does
use Rattle.bag_ledger.specs.Bag.{Bag, part_of, unit_of}
use Rattle.bag_ledger.specs.Steps.{Is}
use Rattle.bag_ledger.proofs.Tests.{same_rank_is, same_number, some_is}
use Rattle.bag_law.specs.Counts.{accepted_of, common_in, fetched_of, if_so, if_there, is_spent, one, owes, owing, units_named, unspent}
use Rattle.bag_law.specs.Counts.{used}
use Rattle.bag_law.specs.Sound.{AreFound, AreUsed, HasPart, IsBroughtBy, IsFetchOf, IsKept, IsOpenBatch, IsSoundBag}
use Rattle.bag_law.proofs.Ids.{put_unit_is_new}
use Rattle.bag_law.proofs.Turn.{found_passes, none_found, one_le, sum_at, sum_found}

-- Puts.

-- a unit that a rank puts is the rank's, is not there yet, and shares the rank's batch
pub put_is_new : (b : Bag) → IsSoundBag b → (rank : Rank) (r : RankState) (u : Unit) → Is b rank r → r.status ≡ does.Putting u
    → (u.id.rank.0 ≡ rank.0) × (unit_of b u.id ≡ None) × (u.common ≡ r.batch)
put_is_new b is rank r u there puts =
    let named : IsBroughtBy rank.0 r (does.Putting u) = rw puts at (is.batches.brought rank.0 r there) in
    let here : slice_get b.ranks u.id.rank.0 ≡ Some r = rw named.0 there in
    (named.0, put_unit_is_new b.ranks b.units b.parts u.id r u here puts refl is.ids, named.1)

-- Each is found by its id.

contains_cases : {X : Type 0} (y : X) (ys : List X) (x : X) → Contains (y ∷ ys) x → (y ≡ x) ⊎ Contains ys x
contains_cases y ys x (zero, low, e) = inl e
contains_cases y ys x (suc k, low, e) = inr (k, omega arith, e)

counts_one : {X : Type 0} (test : X → Bool) (xs : List X) (x : X) → Contains xs x → test x ≡ true → 1 ≤ sum_by (λ x. one (test x)) xs
counts_one test [] x at passes = let low = at.1 in absurd (omega arith)
counts_one test (y ∷ ys) x at passes = by_case (counts_one test ys x) (contains_cases y ys x at)
  where
    by_case : (Contains ys x → test x ≡ true → 1 ≤ sum_by (λ x. one (test x)) ys) → (y ≡ x) ⊎ Contains ys x
        → 1 ≤ sum_by (λ x. one (test x)) (y ∷ ys)
    by_case rest (inl here) = rw (sum_by-cons (λ x. one (test x)) y ys, here, passes) (omega arith)
    by_case rest (inr later) = let more = rest later passes in rw (sum_by-cons (λ x. one (test x)) y ys) (omega arith)

-- where a test counts one at most, what passes it is what it finds
pub single_found : {X : Type 0} (test : X → Bool) (xs : List X) (x : X) → Contains xs x → test x ≡ true → sum_by (λ x. one (test x)) xs ≤ 1
    → find test xs ≡ Some x
single_found test [] x at passes single = let low = at.1 in absurd (omega arith)
single_found test (y ∷ ys) x at passes single = by_test (single_found test ys x) (contains_cases y ys x at) (test y) refl
  where
    all : one (test y) + sum_by (λ x. one (test x)) ys ≤ 1
    all = rw (sum_by-cons (λ x. one (test x)) y ys) at single

    by_test : (Contains ys x → test x ≡ true → sum_by (λ x. one (test x)) ys ≤ 1 → find test ys ≡ Some x) → (y ≡ x) ⊎ Contains ys x
        → (t : Bool) → test y ≡ t → find test (y ∷ ys) ≡ Some x
    by_test rest (inl here) t is = rw (here, passes) refl
    by_test rest (inr later) true is =
        let more : 1 + sum_by (λ x. one (test x)) ys ≤ 1 = rw is at all in
        let other = counts_one test ys x later passes in
        absurd (omega arith)
    by_test rest (inr later) false is =
        let less : 0 + sum_by (λ x. one (test x)) ys ≤ 1 = rw is at all in rw is (rest later passes (omega arith))

-- an id is used once at most
pub used_most : (id : UnitId) (o : Option RankState) → if_there (used id.number) o ≤ 1
used_most id None = omega arith
used_most id (Some r) = one_le (nat_lt id.number r.next)

-- each unit, part and promise is the one that its id finds
pub are_found : (b : Bag) → IsSoundBag b → AreFound b
are_found b is = record {
  unit = λ u at. let n = is.ids.each u.unit.id in
      let m = used_most u.unit.id (slice_get b.ranks u.unit.id.rank.0) in
      single_found (λ v. same_unit v.unit.id u.unit.id) b.units u at (same_unit_from u.unit.id u.unit.id refl) (omega arith);
  part = λ p at. single_found (λ q. same_batch q.batch p.batch) b.parts p at (same_batch_from p.batch p.batch refl) (parts_single p.batch);
  promise = λ p at. single_found (λ q. same_unit q.id p.id) b.promises p at (same_unit_from p.id p.id refl) (is.single.each p.id);
}
  where
    parts_single : (batch : BatchId) → sum_by (λ q. one (same_batch q.batch batch)) b.parts ≤ 1
    parts_single batch =
        let id : UnitId = record { rank = batch.rank; number = batch.number } in
        let n = is.ids.each id in
        let m = used_most id (slice_get b.ranks id.rank.0) in
        omega arith

number_used : (b : Bag) (id : UnitId) (o : Option RankState) → slice_get b.ranks id.rank.0 ≡ o → 1 ≤ if_there (used id.number) o
    → (r : RankState) × Is b id.rank r × (id.number < r.next)
number_used b id None e one_there = absurd (omega arith)
number_used b id (Some r) e one_there = by_test (nat_lt id.number r.next) refl
  where
    by_test : (t : Bool) → nat_lt id.number r.next ≡ t → (r : RankState) × Is b id.rank r × (id.number < r.next)
    by_test true at = (r, e, ltb-true id.number r.next at)
    by_test false at = let none : 1 ≤ one false = rw at at one_there in absurd (omega arith)

-- the number of each unit and part was used by its rank
pub are_used : (b : Bag) → IsSoundBag b → AreUsed b
are_used b is = record {
  unit = λ id u there.
      let n = is.ids.each id in
      let own : one (same_unit u.unit.id id) ≡ 1 = ap one (found_passes (λ v. same_unit v.unit.id id) b.units u there) in
      let s = sum_found (λ v. one (same_unit v.unit.id id)) (λ v. same_unit v.unit.id id) b.units u there in
      number_used b id (slice_get b.ranks id.rank.0) refl (omega arith);
  part = λ batch p there.
      let id : UnitId = record { rank = batch.rank; number = batch.number } in
      let n = is.ids.each id in
      let own : one (same_batch p.batch batch) ≡ 1 = ap one (found_passes (λ q. same_batch q.batch batch) b.parts p there) in
      let s = sum_found (λ q. one (same_batch q.batch batch)) (λ q. same_batch q.batch batch) b.parts p there in
      number_used b id (slice_get b.ranks id.rank.0) refl (omega arith);
}

-- Parts.

sum_none : {X : Type 0} (w : X → ℕ) (test : X → Bool) (xs : List X) → sum_by (λ x. one (test x)) xs ≡ 0
    → sum_by (λ x. if_so (test x) (w x)) xs ≡ 0
sum_none w test [] none = refl
sum_none w test (y ∷ ys) none = by_test (sum_none w test ys) (test y) refl
  where
    all : one (test y) + sum_by (λ x. one (test x)) ys ≡ 0
    all = sym (sum_by-cons (λ x. one (test x)) y ys) ∙ none

    by_test : (sum_by (λ x. one (test x)) ys ≡ 0 → sum_by (λ x. if_so (test x) (w x)) ys ≡ 0) → (t : Bool) → test y ≡ t
        → sum_by (λ x. if_so (test x) (w x)) (y ∷ ys) ≡ 0
    by_test rest true is = let more : 1 + sum_by (λ x. one (test x)) ys ≡ 0 = rw is at all in absurd (omega arith)
    by_test rest false is =
        let less : 0 + sum_by (λ x. one (test x)) ys ≡ 0 = rw is at all in
        let later = rest (omega arith) in
        rw (sum_by-cons (λ x. if_so (test x) (w x)) y ys, is) (omega arith)

-- a sum over what passes is that of the one that does
pub sum_single : {X : Type 0} (w : X → ℕ) (test : X → Bool) (xs : List X) (x : X) → find test xs ≡ Some x
    → sum_by (λ x. one (test x)) xs ≤ 1 → sum_by (λ x. if_so (test x) (w x)) xs ≡ w x
sum_single w test [] x found single = absurd (cc)
sum_single w test (y ∷ ys) x found single = by_test (sum_single w test ys x) (test y) refl found
  where
    all : one (test y) + sum_by (λ x. one (test x)) ys ≤ 1
    all = rw (sum_by-cons (λ x. one (test x)) y ys) at single

    by_test : (find test ys ≡ Some x → sum_by (λ x. one (test x)) ys ≤ 1 → sum_by (λ x. if_so (test x) (w x)) ys ≡ w x) → (t : Bool)
        → test y ≡ t → find test (y ∷ ys) ≡ Some x → sum_by (λ x. if_so (test x) (w x)) (y ∷ ys) ≡ w x
    by_test rest true is at =
        let more : 1 + sum_by (λ x. one (test x)) ys ≤ 1 = rw is at all in
        let none = sum_none w test ys (omega arith) in
        let here : y ≡ x = some_is (rw is at at) in
        let own : w y ≡ w x = ap w here in
        rw (sum_by-cons (λ x. if_so (test x) (w x)) y ys, is) (omega arith)
    by_test rest false is at =
        let less : 0 + sum_by (λ x. one (test x)) ys ≤ 1 = rw is at all in
        let later : find test ys ≡ Some x = rw is at at in
        let r = rest later (omega arith) in
        rw (sum_by-cons (λ x. if_so (test x) (w x)) y ys, is) (omega arith)

-- as many units were accepted as common bytes were fetched, units are not spent, and ranks are owed them
pub part_counts : (b : Bag) → IsSoundBag b → (batch : BatchId) (p : Part) → part_of b batch ≡ Some p
    → p.accepted ≡ p.fetched + sum_by (unspent batch) b.units + owes batch b.units b.ranks
part_counts b is batch p there =
    let id : UnitId = record { rank = batch.rank; number = batch.number } in
    let n = is.ids.each id in
    let m = used_most id (slice_get b.ranks id.rank.0) in
    let single : sum_by (λ q. one (same_batch q.batch batch)) b.parts ≤ 1 = omega arith in
    let a : accepted_of batch b.parts ≡ p.accepted =
    sum_single (λ (q : Part). q.accepted) (λ q. same_batch q.batch batch) b.parts p there single in
    let f : fetched_of batch b.parts ≡ p.fetched =
    sum_single (λ (q : Part). q.fetched) (λ q. same_batch q.batch batch) b.parts p there single in
    let c = is.counts.each batch in
    omega arith

-- a part of which something is open is not freed
kept_from : (b : Bag) → IsSoundBag b → (c : CommonRef) → HasPart b.parts (Some c)
    → 1 ≤ sum_by (unspent c.batch) b.units + owes c.batch b.units b.ranks → IsKept b c
kept_from b is c has open_one =
    let count = part_counts b is c.batch has.0 has.1 in
    (has.0, has.1, has.2, has.3, by_test has.0.freed refl, omega arith)
  where
    by_test : (t : Bool) → has.0.freed ≡ t → t ≡ false
    by_test false e = refl
    by_test true e =
        let count = part_counts b is c.batch has.0 has.1 in
        let f = (is.batches.freed c.batch has.0 has.1 e).1 in
        absurd (omega arith)

-- the part of a unit that is not spent is kept
pub unspent_is_kept : (b : Bag) → IsSoundBag b → (id : UnitId) (u : Placed) (c : CommonRef) → unit_of b id ≡ Some u
    → is_spent u.place ≡ false → u.unit.common ≡ Some c → IsKept b c
unspent_is_kept b is id u c there at shares =
    let has : HasPart b.parts (Some c) = rw shares at (is.shares.each id u there) in
    let own : unspent c.batch u ≡ 1 = rw (at, shares, same_batch_from c.batch c.batch refl) refl in
    let s = sum_found (unspent c.batch) (λ v. same_unit v.unit.id id) b.units u there in
    kept_from b is c has (omega arith)

-- a unit whose own bytes are fetched is pinned to the rank
pub fetch_is_pinned : (b : Bag) → IsSoundBag b → (rank : Rank) (r : RankState) (call : ℕ) (id : UnitId) → Is b rank r
    → r.status ≡ does.Fetching call id false → (u : Placed) × (server : Server) × (unit_of b id ≡ Some u) × (u.place ≡ Pinned server rank)
fetch_is_pinned b is rank r call id there status =
    let f : IsFetchOf b.units rank.0 (does.Fetching call id false) = rw status at (is.fetches.each rank.0 r there) in
    (f.0, f.1, f.3, f.4 ∙ ap (Pinned f.1) (same_rank f.2 f.5))
  where
    same_rank : (a : Rank) → a.0 ≡ rank.0 → a ≡ rank
    same_rank a e = same_rank_is a rank (ap (λ n. n == rank.0) e ∙ same_rank_self)
      where
        same_rank_self : (rank.0 == rank.0) ≡ true
        same_rank_self = same_number rank.0

-- the part of a unit whose common bytes a rank is owed is kept
pub owed_is_kept : (b : Bag) → IsSoundBag b → (rank : Rank) (r : RankState) (call : ℕ) (id : UnitId) → Is b rank r
    → r.status ≡ does.Fetching call id true
    → (u : Placed) × (c : CommonRef) × (unit_of b id ≡ Some u) × (u.place ≡ Spent) × (u.unit.common ≡ Some c) × IsKept b c
owed_is_kept b is rank r call id there status =
    let f : IsFetchOf b.units rank.0 (does.Fetching call id true) = rw status at (is.fetches.each rank.0 r there) in
    by_ready f.0 f.1 f.2 f.3 f.4
  where
    by_ready : (u : Placed) (c : CommonRef) → unit_of b id ≡ Some u → u.place ≡ Spent → u.unit.common ≡ Some c
        → (u : Placed) × (c : CommonRef) × (unit_of b id ≡ Some u) × (u.place ≡ Spent) × (u.unit.common ≡ Some c) × IsKept b c
    by_ready u c at spent shares =
        let has : HasPart b.parts (Some c) = rw shares at (is.shares.each id u at) in
        let common : common_in b.units id ≡ Some c = rw at shares in
        let own : owing c.batch b.units r.status ≡ 1 =
        ap (owing c.batch b.units) status ∙ rw (common, same_batch_from c.batch c.batch refl) refl in
        let s = sum_at (λ (r : RankState). owing c.batch b.units r.status) b.ranks rank.0 r there in
        (u, c, at, spent, shares, kept_from b is c has (omega arith))

-- a rank's batch is an open part
pub batch_is_open : (b : Bag) → IsSoundBag b → (rank : Rank) (r : RankState) (c : CommonRef) → Is b rank r → r.batch ≡ Some c
    → (c.batch.rank.0 ≡ rank.0)
    × ((p : Part) × (part_of b c.batch ≡ Some p) × (p.closed ≡ false) × (p.freed ≡ false) × (p.server ≡ c.server)
    × (length p.common ≡ c.length))
batch_is_open b is rank r c there has =
    let o : IsOpenBatch b.parts rank.0 (Some c) = rw has at (is.batches.batch rank.0 r there) in
    (o.0, (o.1.0, o.1.1, o.1.2, by_test o.1.0 o.1.1 o.1.2 o.1.0.freed refl, o.1.3, o.1.4))
  where
    by_test : (p : Part) → part_of b c.batch ≡ Some p → p.closed ≡ false → (t : Bool) → p.freed ≡ t → t ≡ false
    by_test p at opened false e = refl
    by_test p at opened true e = let closed = (is.batches.freed c.batch p at e).0 in absurd (cc)

-- Where a test counts one at most and the first passes it, no other does.
pub rest_has_none : {X K : Type 0} (test : K → X → Bool) (k : K) (x : X) (xs : List X) → test k x ≡ true
    → sum_by (λ y. one (test k y)) (x ∷ xs) ≤ 1 → find (test k) xs ≡ None
rest_has_none test k x xs passes single =
    let c = sum_by-cons (λ y. one (test k y)) x xs in
    let own : one (test k x) ≡ 1 = ap one passes in
    none_found (test k) xs (omega arith)

-- of each id there is one unit at most
pub units_single : (b : Bag) → IsSoundBag b → (id : UnitId) → units_named id b.units ≤ 1
units_single b is id = let n = is.ids.each id in let m = used_most id (slice_get b.ranks id.rank.0) in omega arith
