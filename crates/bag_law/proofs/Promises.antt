-- Of each unit there is one promise at most.
use Rattle.std.proofs.Common.{◌≡◌, ℕ, ◌≤◌, Bool, true, false, List, [], ◌∷◌, ◌++◌, find, filter, sum_by, Some, None, refl, ap, arith}
use Rattle.std.proofs.lemmas.List.Sums.{sum_by-cons, sum_by_push}
use Rattle.adlb_unit.specs.declared.names.UnitId.{UnitId}
use Rattle.adlb_unit.specs.Ids.{same_unit}
use Rattle.adlb_unit.proofs.Same.{same_unit_is}
use Rattle.bag_ledger.specs.declared.entries.Entry.{Entry}
use Rattle.bag_ledger.specs.declared.entries.Entry.TheVariants.{Accepted, Kept, Promised, Arrived, Withdrawn}
use Rattle.bag_ledger.specs.declared.states.Promise.{Promise}
use Rattle.bag_ledger.specs.Bag.{Bag}
use Rattle.bag_ledger.specs.Steps.{LegalWhere, after}
use Rattle.bag_law.specs.Counts.{one, promises_named}
use Rattle.bag_law.specs.Sound.{PromisesAreSingle}
use Rattle.bag_law.proofs.Turn.{one_le}
use Rattle.bag_law.proofs.Plain.{accepted_is, kept_is}

none_counts : {X : Type 0} (test : X → Bool) (xs : List X) → find test xs ≡ None → sum_by (λ x. one (test x)) xs ≡ 0
none_counts test [] e = refl
none_counts test (y ∷ ys) e = by_test (none_counts test ys) (test y) refl e
  where
    by_test : (find test ys ≡ None → sum_by (λ x. one (test x)) ys ≡ 0) → (t : Bool) → test y ≡ t → find test (y ∷ ys) ≡ None
        → sum_by (λ x. one (test x)) (y ∷ ys) ≡ 0
    by_test rest true is found = let some : Some y ≡ None = rw is at found in absurd (cc)
    by_test rest false is found =
        let later : find test ys ≡ None = rw is at found in rw (sum_by-cons (λ x. one (test x)) y ys, is) (omega (arith, rest later))

filter_less : {X : Type 0} (w : X → ℕ) (p : X → Bool) (xs : List X) → sum_by w (filter p xs) ≤ sum_by w xs
filter_less w p [] = omega arith
filter_less w p (y ∷ ys) = by_test (filter_less w p ys) (p y) refl
  where
    by_test : sum_by w (filter p ys) ≤ sum_by w ys → (t : Bool) → p y ≡ t → sum_by w (filter p (y ∷ ys)) ≤ sum_by w (y ∷ ys)
    by_test rest true is = rw (is, sum_by-cons w y (filter p ys), sum_by-cons w y ys) (omega (arith, rest))
    by_test rest false is = rw (is, sum_by-cons w y ys) (omega (arith, rest))

single_less : (ps : List Promise) (p : Promise → Bool) → PromisesAreSingle ps → PromisesAreSingle (filter p ps)
single_less ps p is = record { each = λ id. let f = filter_less (λ q. one (same_unit q.id id)) p ps in let s = is.each id in omega arith }

single_more : (ps : List Promise) (p : Promise) → find (λ q. same_unit q.id p.id) ps ≡ None → PromisesAreSingle ps
    → PromisesAreSingle (ps ++ p ∷ [])
single_more ps p none is = record { each = λ id. by_test id (same_unit p.id id) refl }
  where
    by_test : (id : UnitId) (t : Bool) → same_unit p.id id ≡ t → promises_named id (ps ++ p ∷ []) ≤ 1
    by_test id true e =
        let push = sum_by_push (λ q. one (same_unit q.id id)) ps p in
        let zero : promises_named id ps ≡ 0 = none_counts (λ q. same_unit q.id id) ps (rw (same_unit_is p.id id e) at none) in
        let most = one_le (same_unit p.id id) in
        omega arith
    by_test id false e =
        let push = sum_by_push (λ q. one (same_unit q.id id)) ps p in
        let none : one (same_unit p.id id) ≡ 0 = ap one e in
        let s = is.each id in
        omega arith

-- a legal entry makes no second promise of a unit
pub single_stays : (found : Bag → Bool) (b : Bag) (e : Entry) → LegalWhere found b e → PromisesAreSingle b.promises
    → PromisesAreSingle (after b e).promises
single_stays found b (Accepted server id) l is = rw (accepted_is b server id l).promises is
single_stays found b (Kept server batch) l is = rw (kept_is b server batch l) is
single_stays found b (Promised server id n) l is = single_more b.promises (record { server = server; id = id; length = n }) l.6 is
single_stays found b (Arrived server id) l is = single_less b.promises _ is
single_stays found b (Withdrawn server id) l is = single_less b.promises _ is
single_stays found b _ l is = is
