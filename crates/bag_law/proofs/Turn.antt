-- One rank has its turn: what is looked up and what is summed.
use Rattle.std.proofs.Common.{◌≡◌, ℕ, zero, suc, ◌+◌, ◌≤◌, ◌⊎◌, inl, inr, Bool, true, false, List, [], ◌∷◌, ◌++◌, Some, None, refl, sym, ap}
use Rattle.std.proofs.Common.{◌∙◌, arith, slice_get, sum_by, find}
use Rattle.std.proofs.lemmas.List.Sums.{sum_by-cons}
use Rattle.adlb_unit.specs.Ids.{same_batch}
use Rattle.adlb_unit.proofs.Same.{same_batch_from, same_batch_is}
use Rattle.bag_ledger.specs.Steps.{change_at, change_first}
use Rattle.std.proofs.lemmas.List.Folds.{find-append}
use Rattle.bag_law.specs.Counts.{one, part_in}
use Rattle.std.specs.Option.{option_map}
use Rattle.std.specs.Prelude.{Option}
use Rattle.adlb_unit.specs.declared.names.BatchId.{BatchId}
use Rattle.bag_ledger.specs.declared.states.Part.{Part}
use Rattle.bag_ledger.proofs.Lookups.{find_changed, find_other}
use Rattle.bag_ledger.proofs.Tests.{some_is}

-- at place k after the change: changed, or as it was
abbrev pub Turned : {X : Type 0} → (X → X) → ℕ → List X → X → ℕ → Type 0
Turned f place xs x k =
    ((place ≡ k) × (slice_get (change_at f place xs) k ≡ Some (f x)) × (slice_get xs k ≡ Some x))
    ⊎ ((place ≡ k → ⊥) × (slice_get (change_at f place xs) k ≡ slice_get xs k))

-- each place is the changed one or another
pub turned : {X : Type 0} (f : X → X) (place : ℕ) (xs : List X) (x : X) → slice_get xs place ≡ Some x → (k : ℕ) → Turned f place xs x k
turned f place [] x e k = absurd (cc)
turned f zero (y ∷ ys) x e zero = inl (refl, ap (λ z. Some (f z)) (some_is e), e)
turned f zero (y ∷ ys) x e (suc k) = inr (λ same. absurd (cc), refl)
turned f (suc place) (y ∷ ys) x e zero = inr (λ same. absurd (cc), refl)
turned f (suc place) (y ∷ ys) x e (suc k) = further (turned f place ys x e k)
  where
    further : Turned f place ys x k → Turned f (suc place) (y ∷ ys) x (suc k)
    further (inl c) = inl (ap suc c.0, c.1, c.2)
    further (inr c) = inr (λ same. c.0 (omega arith), c.1)

-- a sum after one change
pub sum_turned : {X : Type 0} (g : X → ℕ) (f : X → X) (place : ℕ) (xs : List X) (x : X) → slice_get xs place ≡ Some x
    → sum_by g (change_at f place xs) + g x ≡ sum_by g xs + g (f x)
sum_turned g f place [] x e = absurd (cc)
sum_turned g f zero (y ∷ ys) x e =
    let here : y ≡ x = some_is e in
    rw (sum_by-cons g (f y) ys, sum_by-cons g y ys, here) (omega arith)
sum_turned g f (suc place) (y ∷ ys) x e =
    rw (sum_by-cons g y (change_at f place ys), sum_by-cons g y ys) (omega (arith, sum_turned g f place ys x e))

-- sums of weights that agree on each
pub sum_same : {X : Type 0} (g h : X → ℕ) (xs : List X) → ((k : ℕ) (x : X) → slice_get xs k ≡ Some x → g x ≡ h x)
    → sum_by g xs ≡ sum_by h xs
sum_same g h [] each = refl
sum_same g h (x ∷ xs) each =
    rw (sum_by-cons g x xs, sum_by-cons h x xs) (omega (arith, each zero x refl, sum_same g h xs (λ k y e. each (suc k) y e)))

-- what is there is part of a sum
pub sum_at : {X : Type 0} (g : X → ℕ) (xs : List X) (k : ℕ) (x : X) → slice_get xs k ≡ Some x → g x ≤ sum_by g xs
sum_at g [] k x e = absurd (cc)
sum_at g (y ∷ ys) zero x e = rw (sum_by-cons g y ys, some_is e) (omega arith)
sum_at g (y ∷ ys) (suc k) x e = rw (sum_by-cons g y ys) (omega (arith, sum_at g ys k x e))

-- a weight that the change keeps
pub sum_kept : {X : Type 0} (w : X → ℕ) (g : X → X) (test : X → Bool) → ((x : X) → w (g x) ≡ w x) → (xs : List X)
    → sum_by w (change_first g test xs) ≡ sum_by w xs
sum_kept w g test same [] = refl
sum_kept w g test same (y ∷ ys) = by_test (sum_kept w g test same ys) (test y) refl
  where
    by_test : sum_by w (change_first g test ys) ≡ sum_by w ys → (t : Bool) → test y ≡ t
        → sum_by w (change_first g test (y ∷ ys)) ≡ sum_by w (y ∷ ys)
    by_test rest true is = rw (is, sum_by-cons w (g y) ys, sum_by-cons w y ys, same y) refl
    by_test rest false is = rw (is, sum_by-cons w y (change_first g test ys), sum_by-cons w y ys, rest) refl

-- what is found weighs in a sum
pub sum_found : {X : Type 0} (w : X → ℕ) (test : X → Bool) (xs : List X) (x : X) → find test xs ≡ Some x → w x ≤ sum_by w xs
sum_found w test [] x e = absurd (cc)
sum_found w test (y ∷ ys) x e = by_test (sum_found w test ys x) (test y) refl e
  where
    by_test : (find test ys ≡ Some x → w x ≤ sum_by w ys) → (t : Bool) → test y ≡ t → find test (y ∷ ys) ≡ Some x → w x ≤ sum_by w (y ∷ ys)
    by_test rest true is found = let here : y ≡ x = some_is (rw is at found) in rw (sum_by-cons w y ys, here) (omega arith)
    by_test rest false is found = rw (sum_by-cons w y ys) (omega (arith, rest (rw is at found)))

-- a test is passed by what is found, and by nothing where nothing is
pub found_passes : {X : Type 0} (test : X → Bool) (xs : List X) (x : X) → find test xs ≡ Some x → test x ≡ true
found_passes test [] x e = absurd (cc)
found_passes test (y ∷ ys) x e = by_test (found_passes test ys x) (test y) refl e
  where
    by_test : (find test ys ≡ Some x → test x ≡ true) → (t : Bool) → test y ≡ t → find test (y ∷ ys) ≡ Some x → test x ≡ true
    by_test rest true is found = let here : y ≡ x = some_is (rw is at found) in rw (← here) is
    by_test rest false is found = rest (rw is at found)

-- where a test counts none, none is found
pub none_found : {X : Type 0} (test : X → Bool) (xs : List X) → sum_by (λ x. one (test x)) xs ≡ 0 → find test xs ≡ None
none_found test [] e = refl
none_found test (y ∷ ys) e = by_test (none_found test ys) (test y) refl
  where
    all : one (test y) + sum_by (λ x. one (test x)) ys ≡ 0
    all = sym (sum_by-cons (λ x. one (test x)) y ys) ∙ e

    by_test : (sum_by (λ x. one (test x)) ys ≡ 0 → find test ys ≡ None) → (t : Bool) → test y ≡ t → find test (y ∷ ys) ≡ None
    by_test rest true is = let more : 1 + sum_by (λ x. one (test x)) ys ≡ 0 = rw is at all in absurd (omega arith)
    by_test rest false is = let less : 0 + sum_by (λ x. one (test x)) ys ≡ 0 = rw is at all in rw is (rest (omega arith))

-- what the same test finds after a change
pub find_same : {X : Type 0} (g : X → X) (test : X → Bool) → ((x : X) → test (g x) ≡ test x) → (xs : List X)
    → find test (change_first g test xs) ≡ option_map g (find test xs)
find_same g test keeps [] = refl
find_same g test keeps (y ∷ ys) = by_test (find_same g test keeps ys) (test y) refl
  where
    by_test : find test (change_first g test ys) ≡ option_map g (find test ys) → (t : Bool) → test y ≡ t
        → find test (change_first g test (y ∷ ys)) ≡ option_map g (find test (y ∷ ys))
    by_test rest true is = rw (is, keeps y, is) refl
    by_test rest false is = rw (is, is) rest

-- what a part that is found after a change was: changed, or another's
abbrev pub PartWas : (Part → Part) → BatchId → BatchId → List Part → Part → Type 0
PartWas g batch x ps p =
    ((x ≡ batch) × ((q : Part) × (part_in ps batch ≡ Some q) × (p ≡ g q))) ⊎ ((x ≡ batch → ⊥) × (part_in ps x ≡ Some p))

-- what a part is after a change: as it was, or changed
abbrev pub PartIs : (Part → Part) → BatchId → BatchId → List Part → Part → Type 0
PartIs g batch x ps p =
    (q : Part) × (part_in (change_first g (λ q. same_batch q.batch batch) ps) x ≡ Some q) × ((q ≡ p) ⊎ ((x ≡ batch) × (q ≡ g p)))

-- a part that is found after a change was found before it, as it was or not yet changed; and one that was found is found
pub part_was : (g : Part → Part) → ((p : Part) → (g p).batch ≡ p.batch) → (batch x : BatchId) (ps : List Part) (p : Part)
    → part_in (change_first g (λ q. same_batch q.batch batch) ps) x ≡ Some p
    → PartWas g batch x ps p
part_was g keeps batch x ps p now = by_test (same_batch batch x) refl
  where
    by_test : (t : Bool) → same_batch batch x ≡ t
        → PartWas g batch x ps p
    by_test true is =
        let same : x ≡ batch = sym (same_batch_is batch x is) in
        let here : part_in (change_first g (λ q. same_batch q.batch batch) ps) batch ≡ Some p = rw same at now in
        inl (same, by_found (part_in ps batch) refl (sym (find_same g (λ q. same_batch q.batch batch) (λ q. rw (keeps q) refl) ps) ∙ here))
      where
        by_found : (o : Option Part) → part_in ps batch ≡ o → option_map g o ≡ Some p
            → (q : Part) × (part_in ps batch ≡ Some q) × (p ≡ g q)
        by_found None e made = absurd (cc)
        by_found (Some q) e made = (q, e, sym (some_is made))
    by_test false is =
        inr (
          λ same. differs same,
          sym (find_other g (λ q. same_batch q.batch batch) (λ q. same_batch q.batch x) (λ q. rw (keeps q) refl)
              (λ q e. rw (same_batch_is q.batch batch e) is) ps) ∙ now,
        )
      where
        differs : x ≡ batch → ⊥
        differs same = let both : same_batch batch x ≡ true = same_batch_from batch x (sym same) in absurd (cc)

-- the part of an id after a change of one part's fields
pub part_is : (g : Part → Part) → ((p : Part) → (g p).batch ≡ p.batch) → (batch x : BatchId) (ps : List Part) (p : Part)
    → part_in ps x ≡ Some p
    → PartIs g batch x ps p
part_is g keeps batch x ps p was = by_test (same_batch batch x) refl
  where
    by_test : (t : Bool) → same_batch batch x ≡ t
        → PartIs g batch x ps p
    by_test true is =
        let same : batch ≡ x = same_batch_is batch x is in
        (g p, rw same (find_changed g (λ q. same_batch q.batch x) (λ q. rw (keeps q) refl) ps p was), inr (sym same, refl))
    by_test false is = (
      p,
      find_other g (λ q. same_batch q.batch batch) (λ q. same_batch q.batch x) (λ q. rw (keeps q) refl)
          (λ q e. rw (same_batch_is q.batch batch e) is) ps ∙ was,
      inl refl,
    )

-- what is appended is found, where nothing was
pub found_new : {X : Type 0} (test : X → Bool) (xs : List X) (x : X) → find test xs ≡ None → test x ≡ true
    → find test (xs ++ x ∷ []) ≡ Some x
found_new test xs x none passes = rw (find-append test xs (x ∷ []), none, passes) refl

-- a test counts one at most
pub one_le : (t : Bool) → one t ≤ 1
one_le true = omega arith
one_le false = omega arith
