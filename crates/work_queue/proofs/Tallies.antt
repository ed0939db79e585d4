-- What is counted of the index, one run after another.
use Rattle.std.proofs.Common.{◌≡◌, ◌≢◌, ◌<◌, ◌≤◌, ◌+◌, ◌-◌, ◌⊎◌, ◌≤ℤ◌, ◌==◌, ◌&&◌, ◌||◌, nat_lt, ℕ, ℤ, zero, suc, Bool, true, false, cond}
use Rattle.std.proofs.Common.{not, int_lt, int_le, is_none, List, [], ◌∷◌, ◌++◌, take, get_or, length, map, fold, count_by, Option, Some}
use Rattle.std.proofs.Common.{None, All, Contains, refl, sym, ap, ◌∙◌, arith, inl, inr, append-nil}
use Rattle.std.specs.Int.{int_max}
use Rattle.std.specs.List.{AllPairs, filter}
use Rattle.std.specs.List.Sorted.{IsPartitionPoint, IsPartitionedBy, IsPermutation}
use Rattle.std.proofs.lemmas.Bool.{both_ways, cases_eq, cases_lt, not-false}
use Rattle.std.proofs.lemmas.Int.{fold-int_max_bounds, fold-int_max_reached, ints}
use Rattle.std.proofs.lemmas.Bool.Decides.{nat_tests}
use Rattle.std.proofs.lemmas.List.{map-append, take_more}
use Rattle.std.proofs.lemmas.List.Elements.{All-cons, All-contains, filter-append}
use Rattle.std.proofs.lemmas.List.Kept.{AllPairs-filter}
use Rattle.std.proofs.lemmas.List.Sorted.{All-permutation, Contains-permutation, IsPermutation-map, IsPermutation-sym, length_permutation}
use Rattle.std.proofs.lemmas.List.Sorted.{sum_by-IsPermutation}
use Rattle.std.proofs.lemmas.List.Sums.{length-filter}
use Rattle.slab.proofs.SlabLemmas.{Contains-cons, Contains-cons_cases}
use Rattle.adlb_unit.specs.Infos.{info_of_prios}
use Rattle.adlb_unit.specs.declared.names.WorkType.{WorkType}
use Rattle.adlb_unit.specs.declared.notes.Info.{Info}
use Rattle.work_queue.proofs.Counted.{info_push, same_told, told}
use Rattle.work_queue.proofs.Members.{same_members}
use Rattle.work_queue.proofs.Orders.{before_self, run_trans}
use Rattle.work_queue.specs.Counts.{counts_of, prios_of}
use Rattle.work_queue.specs.inside.Counting.{info_above, info_with, run_above, run_with}
use Rattle.work_queue.specs.inside.Index.{IsInOrder, IsIndexed, IsRun, as_high, by_turn, entries_of, entry_of, goes_before, lower_first}
use Rattle.work_queue.specs.inside.Index.{named_by, prios_in, sort_of}
use Rattle.work_queue.specs.declared.entries.Entry.{Entry}
use Rattle.work_queue.specs.declared.indexing.Index.{Index}
use Rattle.work_queue.specs.declared.indexing.Run.{Run}
use Rattle.work_queue.specs.declared.placing.Placed.{Placed}

-- one more of the highest priority of a run, and one of a lower priority
lt_self : (t : ℤ) → int_lt t t ≡ false
lt_self t = grind (arith, ints)

lt_back : (x t : ℤ) → int_lt x t ≡ true → int_lt t x ≡ false
lt_back x t low = grind (arith, ints)

lt_through : (x t u : ℤ) → int_lt x t ≡ true → int_lt u t ≡ false → int_lt x u ≡ true
lt_through x t u low above = grind (arith, ints)

first_of_run : (i : Info) (t : ℤ) → info_with i t ≡ run_with i 1 t 1
first_of_run i t = elim i.top as (λ o. (info_above i t o ≡ run_above i 1 t 1 o)) [ None ↦ refl | Some u ↦ refl ]

more_at_top : (i : Info) (t : ℤ) (n : ℕ) → info_with (run_with i n t n) t ≡ run_with i (n + 1) t (n + 1)
more_at_top i t n = by_top i.top
  where
    by_test : (u : ℤ) (b c : Bool) → int_lt u t ≡ b → int_lt t u ≡ c
        → info_with (cond b (told (i.free + n) t n) (told (i.free + n) u (cond c i.at_top (i.at_top + n)))) t
        ≡ cond b (told (i.free + (n + 1)) t (n + 1)) (told (i.free + (n + 1)) u (cond c i.at_top (i.at_top + (n + 1))))
    by_test u true c lower higher = rw lt_self (same_told _ _ t t _ _ (omega arith) refl refl)
    by_test u false true lower higher = rw (lower, higher) (same_told _ _ u u _ _ (omega arith) refl refl)
    by_test u false false lower higher = rw (lower, higher) (same_told _ _ u u _ _ (omega arith) refl (omega arith))

    by_top : (o : Option ℤ) → info_with (run_above i n t n o) t ≡ run_above i (n + 1) t (n + 1) o
    by_top None = rw lt_self (same_told _ _ t t _ _ (omega arith) refl refl)
    by_top (Some u) = by_test u (int_lt u t) (int_lt t u) refl refl

more_below : (i : Info) (t x : ℤ) (n a : ℕ) → int_lt x t ≡ true → info_with (run_with i n t a) x ≡ run_with i (n + 1) t a
more_below i t x n a low = by_top i.top
  where
    by_test : (u : ℤ) (b : Bool) → int_lt u t ≡ b
        → info_with (cond b (told (i.free + n) t a) (told (i.free + n) u (cond (int_lt t u) i.at_top (i.at_top + a)))) x
        ≡ cond b (told (i.free + (n + 1)) t a) (told (i.free + (n + 1)) u (cond (int_lt t u) i.at_top (i.at_top + a)))
    by_test u true lower = rw (lt_back x t low, low) (same_told _ _ t t _ _ (omega arith) refl refl)
    by_test u false lower =
        rw (lt_back x u (lt_through x t u low lower), lt_through x t u low lower) (same_told _ _ u u _ _ (omega arith) refl refl)

    by_top : (o : Option ℤ) → info_with (run_above i n t a o) x ≡ run_above i (n + 1) t a o
    by_top None = rw (lt_back x t low, low) (same_told _ _ t t _ _ (omega arith) refl refl)
    by_top (Some u) = by_test u (int_lt u t) refl

-- what is counted of the entries below a place
module _ (kind : WorkType) (entries : List Entry) where
  abbrev is_kind : Entry → Bool
  is_kind e = e.kind.0 == kind.0

  -- what is counted of the first `k` entries
  abbrev pub upto : ℕ → Info
  upto k = info_of_prios (prios_in kind (take k entries))

  one_more : (k : ℕ) (d : Entry) → k < length entries
      → prios_in kind (take (k + 1) entries) ≡ prios_in kind (take k entries) ++ prios_in kind (get_or entries k d ∷ [])
  one_more k d within =
      ap (λ l. prios_in kind l) (take_more entries k d within)
      ∙ ap (λ l. map (λ (e : Entry). e.prio) l) (filter-append is_kind (take k entries) (get_or entries k d ∷ []))
      ∙ map-append (λ (e : Entry). e.prio) (filter is_kind (take k entries)) (filter is_kind (get_or entries k d ∷ []))

  counted_one : (k : ℕ) (d : Entry) → k < length entries → is_kind (get_or entries k d) ≡ true
      → upto (k + 1) ≡ info_with (upto k) (get_or entries k d).prio
  counted_one k d within is = ap info_of_prios (one_more k d within)
      ∙ rw is (info_push (prios_in kind (take k entries)) (get_or entries k d).prio)

  other_one : (k : ℕ) (d : Entry) → k < length entries → is_kind (get_or entries k d) ≡ false → upto (k + 1) ≡ upto k
  other_one k d within is = ap info_of_prios (one_more k d within) ∙ rw is (ap info_of_prios (append-nil (prios_in kind (take k entries))))

  -- a run of another type
  others_run : (place n : ℕ) (d : Entry) → place + n ≤ length entries
      → ((k : ℕ) → place ≤ k → k < place + n → is_kind (get_or entries k d) ≡ false) → upto (place + n) ≡ upto place
  others_run place zero d within others = let same : place + 0 ≡ place = omega arith in ap (λ k. upto k) same
  others_run place (suc n) d within others =
      let next : place + suc n ≡ place + n + 1 = omega arith in
      rw next (other_one (place + n) d (omega arith) (others (place + n) (omega arith) (omega arith))
      ∙ others_run place n d (omega arith) (λ k from below. others k from (omega arith)))

  -- a run of the type: those of the highest priority, then those below
  top_run : (place n : ℕ) (d : Entry) (t : ℤ) → place + suc n ≤ length entries
      → ((k : ℕ) → place ≤ k → k < place + suc n → (is_kind (get_or entries k d) ≡ true) × ((get_or entries k d).prio ≡ t))
      → upto (place + suc n) ≡ run_with (upto place) (suc n) t (suc n)
  top_run place zero d t within run =
      let here = run place (omega arith) (omega arith) in
      counted_one place d (omega arith) here.0 ∙ ap (λ p. info_with (upto place) p) here.1 ∙ first_of_run (upto place) t
  top_run place (suc n) d t within run =
      let next : place + suc (suc n) ≡ place + suc n + 1 = omega arith in
      let here = run (place + suc n) (omega arith) (omega arith) in
      let long : suc n + 1 ≡ suc (suc n) = omega arith in
      rw next
      (counted_one (place + suc n) d (omega arith) here.0
      ∙ ap (λ p. info_with (upto (place + suc n)) p) here.1
      ∙ ap (λ i. info_with i t) (top_run place n d t (omega arith) (λ k from below. run k from (omega arith)))
      ∙ more_at_top (upto place) t (suc n)
      ∙ ap (λ m. run_with (upto place) m t m) long)

  rest_run : (place a n : ℕ) (d : Entry) (t : ℤ) → place + a + n ≤ length entries → upto (place + a) ≡ run_with (upto place) a t a
      → ((k : ℕ) → place + a ≤ k → k < place + a + n → (is_kind (get_or entries k d) ≡ true) × (int_lt (get_or entries k d).prio t ≡ true))
      → upto (place + a + n) ≡ run_with (upto place) (a + n) t a
  rest_run place a zero d t within top run =
      let same : place + a + 0 ≡ place + a = omega arith in
      let long : a + 0 ≡ a = omega arith in
      rw (same, long) top
  rest_run place a (suc n) d t within top run =
      let next : place + a + suc n ≡ place + a + n + 1 = omega arith in
      let here = run (place + a + n) (omega arith) (omega arith) in
      let long : a + n + 1 ≡ a + suc n = omega arith in
      rw next
      (counted_one (place + a + n) d (omega arith) here.0
      ∙ ap (λ i. info_with i (get_or entries (place + a + n) d).prio)
      (rest_run place a n d t (omega arith) top (λ k from below. run k from (omega arith)))
      ∙ more_below (upto place) t (get_or entries (place + a + n) d).prio (a + n) a here.1
      ∙ ap (λ m. run_with (upto place) m t a) long)

high_stays : (x y t : ℤ) (k l : ℕ) → (int_lt y x || (not (int_lt x y) && nat_lt k l)) ≡ true → not (int_lt y t) ≡ true
    → not (int_lt x t) ≡ true
high_stays x y t k l first high = grind (arith, ints, nat_tests)

-- what comes before an entry that is as high is as high
pub parted_high : (entries : List Entry) (first : Entry) → IsInOrder entries → IsPartitionedBy (λ x. as_high first x) entries
parted_high entries first order i j d le within is = elim (cases_eq i j) [
  | inl same ↦ rw same is
  | inr differs ↦
      let a = get_or entries i d in
      let b = get_or entries j d in
      run_trans a b first (by_turn a b) (not (int_lt b.prio first.prio)) (not (int_lt a.prio first.prio))
      (high_stays a.prio b.prio first.prio a.stamp b.stamp) (order i j d (omega arith) within) is
]

lower_same : (n : ℕ) (t : Bool) → lower_first n n t ≡ t
lower_same n t = grind (arith, nat_tests)

-- in a run the priorities decide
high_in_run : (first e : Entry) → e.kind ≡ first.kind → e.target ≡ first.target → as_high first e ≡ not (int_lt e.prio first.prio)
high_in_run first e kind target =
    rw (kind, target) (lower_same first.kind.0 _ ∙ lower_same (sort_of first.target) _ ∙ lower_same (named_by first.target) _)

as_first : (x t : ℤ) (k l : ℕ) → (int_lt t x || (not (int_lt x t) && nat_lt k l)) ≡ false → not (int_lt x t) ≡ true → x ≡ t
as_first x t k l late high = grind (arith, ints, nat_tests)

not_self : (t : ℤ) → not (int_lt t t) ≡ true
not_self t = grind (arith, ints)

module _ (kind : WorkType) (entries : List Entry) (place : ℕ) (run : Run) (is : IsRun entries place run)
    (same : (run.first.kind.0 == kind.0) ≡ true) where
  kind_in_run : (k : ℕ) → place ≤ k → k < run.end → ((get_or entries k run.first).kind.0 == kind.0) ≡ true
  kind_in_run k from below = rw (is.alike k run.first from below).kind same

  high_at : (k : ℕ) → place ≤ k → k < run.end
      → as_high run.first (get_or entries k run.first) ≡ not (int_lt (get_or entries k run.first).prio run.first.prio)
  high_at k from below = let of = is.alike k run.first from below in high_in_run run.first (get_or entries k run.first) of.kind of.target

  -- the first entry of a run has its highest priority
  pub first_high : as_high run.first (get_or entries place run.first) ≡ true
  first_high = high_at place (omega arith) is.goes_on ∙ rw (sym is.first_is) (not_self run.first.prio)

  -- the run is counted
  pub run_counted : (m r top : ℕ) → place + suc m ≡ top → top + r ≡ run.end
      → ((k : ℕ) → place ≤ k → k < top → as_high run.first (get_or entries k run.first) ≡ true)
      → ((k : ℕ) → top ≤ k → k < run.end → as_high run.first (get_or entries k run.first) ≡ false)
      → upto kind entries run.end ≡ run_with (upto kind entries place) (run.end - place) run.first.prio (top - place)
  run_counted m r top at_top at_end high low =
      let d = run.first in
      let t = run.first.prio in
      let whole = is.within in
      let one = top_run kind entries place m d t (omega arith) (λ k from below.
      let of = is.alike k d from (omega arith) in
      let p = get_or entries k d in (
        kind_in_run k from (omega arith),
        as_first p.prio t p.stamp d.stamp of.not_earlier (sym (high_at k from (omega arith)) ∙ high k from (omega arith)),
      )) in
      let two = rest_run kind entries place (suc m) r d t (omega arith) one (λ k from below. (
        kind_in_run k (omega arith) (omega arith),
        not-false _ (sym (high_at k (omega arith) (omega arith)) ∙ low k (omega arith) (omega arith)),
      )) in
      let e : run.end ≡ place + suc m + r = omega arith in
      let f : suc m + r ≡ run.end - place = omega arith in
      let g : suc m ≡ top - place = omega arith in
      ap (λ k. upto kind entries k) e ∙ two ∙ ap (λ x. run_with (upto kind entries place) x t (suc m)) f
      ∙ ap (λ x. run_with (upto kind entries place) (run.end - place) t x) g

  -- what is counted up to the end of a run, by how many have its highest priority
  pub run_counted_to : (point : ℕ) → IsPartitionPoint (λ x. as_high run.first x ≡ true) (λ x. as_high run.first x ≡ false) entries point
      → (top : ℕ) → ((point ≤ run.end) × (top ≡ point)) ⊎ ((run.end ≤ point) × (top ≡ run.end))
      → upto kind entries run.end ≡ run_with (upto kind entries place) (run.end - place) run.first.prio (top - place)
  run_counted_to point parts top (inl ends) =
      let on = is.goes_on in
      let whole = is.within in
      let after : place < point = elim (cases_lt place point) [
        | inl before ↦ before
        | inr past ↦
            absurd (both_ways (as_high run.first (get_or entries place run.first)) (parts.1 place run.first past (omega arith)) first_high)
      ] in
      run_counted (point - place - 1) (run.end - point) top (omega (arith, after, ends.0, ends.1)) (omega (arith, ends.0, ends.1))
      (λ k from below. parts.0 k run.first (omega arith) (omega (arith, ends.1)))
      (λ k from below. parts.1 k run.first (omega (arith, ends.1)) (omega arith))
  run_counted_to point parts top (inr ends) =
      let on = is.goes_on in
      run_counted (run.end - place - 1) 0 top (omega (arith, on, ends.1)) (omega (arith, ends.1))
      (λ k from below. parts.0 k run.first (omega arith) (omega (arith, ends.0, ends.1))) (λ k from below. absurd (omega (arith, ends.1)))

-- a run of another type is passed over
pub run_not_counted : (kind : WorkType) (entries : List Entry) (place : ℕ) (run : Run) → IsRun entries place run
    → (run.first.kind.0 == kind.0) ≡ false → upto kind entries run.end ≡ upto kind entries place
run_not_counted kind entries place run is other =
    let on = is.goes_on in
    let whole = is.within in
    let e : run.end ≡ place + (run.end - place) = omega arith in
    ap (λ k. upto kind entries k) e ∙ others_run kind entries place (run.end - place) run.first (omega arith)
    (λ k from below. rw (is.alike k run.first from (omega arith)).kind other)

-- the free units and the highest count as well as what they are counted by
pub run_bounds : (i : Info) (n : ℕ) (t : ℤ) (a : ℕ) → i.at_top ≤ i.free → a ≤ n → ((run_with i n t a).free ≡ i.free + n)
    × ((run_with i n t a).at_top ≤ i.free + n)
run_bounds i n t a few some = by_top i.top
  where
    by_test : (u : ℤ) (b c : Bool) → let r : Info = cond b (told (i.free + n) t a) (told (i.free + n) u (cond c i.at_top (i.at_top + a))) in
        (r.free ≡ i.free + n) × (r.at_top ≤ i.free + n)
    by_test u true c = (refl, omega arith)
    by_test u false true = (refl, omega arith)
    by_test u false false = (refl, omega arith)

    by_top : (o : Option ℤ) → ((run_above i n t a o).free ≡ i.free + n) × ((run_above i n t a o).at_top ≤ i.free + n)
    by_top None = (refl, omega arith)
    by_top (Some u) = by_test u (int_lt u t) (int_lt t u)

-- a count does not depend on the order
anti : (t m : ℤ) → t ≤ℤ m → m ≤ℤ t → m ≡ t
anti t m low high = grind (arith, ints)

info_is : (ps : List ℤ) (n c : ℕ) (t : ℤ) → length ps ≡ n → Contains ps t → All (λ x. x ≤ℤ t) ps → count_by (int_le t) ps ≡ c
    → info_of_prios ps ≡ told n t c
info_is [] n c t long there below count = absurd (omega (arith, there.1))
info_is (p ∷ ps) n c t long there below count =
    let m = fold int_max p ps in
    let bounds = fold-int_max_bounds p ps m refl in
    let L : ℤ → Type 0 = λ x. x ≤ℤ m in
    let B : ℤ → Type 0 = λ x. x ≤ℤ t in
    let low : t ≤ℤ m = All-contains L (p ∷ ps) t (All-cons L p ps bounds.0 bounds.1) there in
    let high : m ≤ℤ t = elim (fold-int_max_reached p ps m refl) [
      | inl same ↦ All-contains B (p ∷ ps) m below (0, omega arith, sym same)
      | inr later ↦ All-contains B (p ∷ ps) m below (Contains-cons p m ps later)
    ] in
    let is : m ≡ t = anti t m low high in
    same_told (length (p ∷ ps)) n m t (count_by (int_le m) (p ∷ ps)) c long is (ap (λ x. count_by (int_le x) (p ∷ ps)) is ∙ count)

-- a count is the same in any order
pub info_permuted : (ps qs : List ℤ) → IsPermutation ps qs → info_of_prios qs ≡ info_of_prios ps
info_permuted [] [] same = refl
info_permuted [] (q ∷ qs) same = absurd (let long = length_permutation [] (q ∷ qs) same in omega (arith, long))
info_permuted (p ∷ ps) qs same =
    let m = fold int_max p ps in
    let bounds = fold-int_max_bounds p ps m refl in
    let L : ℤ → Type 0 = λ x. x ≤ℤ m in
    let f : ℤ → ℕ = λ x. cond (int_le m x) 1 0 in
    let there : Contains (p ∷ ps) m = elim (fold-int_max_reached p ps m refl) [
      | inl here ↦ (0, omega arith, sym here)
      | inr later ↦ Contains-cons p m ps later
    ] in
    info_is qs (length (p ∷ ps)) (count_by (int_le m) (p ∷ ps)) m (length_permutation (p ∷ ps) qs same)
    (Contains-permutation (p ∷ ps) qs m same there) (All-permutation L (p ∷ ps) qs same (All-cons L p ps bounds.0 bounds.1))
    (sum_by-IsPermutation f (p ∷ ps) qs same)

-- what a filter keeps
kept_later : {X : Type 0} (t : Bool) (q e : X) (rest : List X) → Contains rest e → Contains (cond t (q ∷ rest) rest) e
kept_later true q e rest there = Contains-cons q e rest there
kept_later false q e rest there = there

kept : {X : Type 0} (test : X → Bool) (xs : List X) (e : X) → Contains xs e → test e ≡ true → Contains (filter test xs) e
kept test [] e there passes = absurd (omega (arith, there.1))
kept test (x ∷ xs) e there passes = elim (Contains-cons_cases x e xs there) [
  | inl same ↦ rw (ap test same ∙ passes) (0, omega arith, same)
  | inr later ↦ kept_later (test x) x e (filter test xs) (kept test xs e later passes)
]

was_there : {X : Type 0} (test : X → Bool) (xs : List X) (e : X) → Contains (filter test xs) e → Contains xs e × (test e ≡ true)
was_there test [] e there = absurd (omega (arith, there.1))
was_there {X} test (x ∷ xs) e there = by_test (test x) refl there (was_there test xs e)
  where
    later : Contains xs e × (test e ≡ true) → Contains (x ∷ xs) e × (test e ≡ true)
    later found = (Contains-cons x e xs found.0, found.1)

    by_test : (t : Bool) → test x ≡ t → Contains (cond t (x ∷ filter test xs) (filter test xs)) e
        → (Contains (filter test xs) e → Contains xs e × (test e ≡ true)) → Contains (x ∷ xs) e × (test e ≡ true)
    by_test false fails there rest = later (rest there)
    by_test true passes there rest = elim (Contains-cons_cases x e (filter test xs) there) [
      | inl same ↦ ((0, omega arith, same), ap test (sym same) ∙ passes)
      | inr kept ↦ later (rest kept)
    ]

filter_permuted : {X : Type 0} (test : X → Bool) (xs ys : List X) → AllPairs (λ a b. a ≢ b) xs → IsPermutation xs ys
    → IsPermutation (filter test xs) (filter test ys)
filter_permuted {X} test xs ys differ same =
    let f : X → ℕ = λ x. cond (test x) 1 0 in
    same_members (filter test xs) (filter test ys) (AllPairs-filter (λ a b. a ≢ b) test xs differ)
    (λ e there. let was = was_there test xs e there in kept test ys e (Contains-permutation xs ys e same was.0) was.1)
    (length-filter test xs ∙ sym (sum_by-IsPermutation f xs ys same) ∙ sym (length-filter test ys))

prios_of_units : (kind : WorkType) (units : List Placed) (stamps : List ℕ) → length stamps ≡ length units
    → prios_in kind (entries_of units stamps) ≡ prios_of kind units
prios_of_units kind [] stamps long = refl
prios_of_units kind (p ∷ units) [] long = absurd (omega (arith, long))
prios_of_units kind (p ∷ units) (s ∷ stamps) long =
    by_test (is_none p.pin) (p.unit.kind.0 == kind.0) refl refl (prios_of_units kind units stamps (omega (arith, long)))
  where
    by_test : (t u : Bool) → is_none p.pin ≡ t → (p.unit.kind.0 == kind.0) ≡ u
        → prios_in kind (entries_of units stamps) ≡ prios_of kind units
        → prios_in kind (cond t (entry_of p s ∷ entries_of units stamps) (entries_of units stamps)) ≡ prios_of kind (p ∷ units)
    by_test true true free is rest = rw (free, is) (ap (λ l. p.unit.prio ∷ l) rest)
    by_test true false free is rest = rw (free, is) rest
    by_test false u pinned is rest = rw pinned rest

-- what is counted of the whole index is what is counted of the units
pub index_counted : (kind : WorkType) (units : List Placed) (n : ℕ) (index : Index) → IsIndexed units n index
    → info_of_prios (prios_in kind index.entries.items) ≡ counts_of kind units
index_counted kind units n index indexed =
    let entries = index.entries.items in
    let E = entries_of units index.stamps.items in
    let test : Entry → Bool = λ e. e.kind.0 == kind.0 in
    let differ : AllPairs (λ a b. a ≢ b) entries =
    λ i j d before within same. both_ways (goes_before (get_or entries i d) (get_or entries i d)) (before_self (get_or entries i d))
    (rw (sym same) at (indexed.in_order i j d before within)) in
    let parts = filter_permuted test entries E differ (IsPermutation-sym E entries indexed.held) in
    sym (info_permuted (prios_in kind entries) (prios_in kind E)
    (IsPermutation-map (λ (e : Entry). e.prio) (filter test entries) (filter test E) parts))
    ∙ ap info_of_prios (prios_of_units kind units index.stamps.items indexed.long)
