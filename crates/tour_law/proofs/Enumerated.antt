-- The list of all tours has each tour and nothing else, so its best is the least tour.
use Rattle.std.proofs.Common.{◌≡◌, ◌<◌, ◌≤◌, ◌+◌, ◌-◌, ◌==◌, ℕ, zero, suc, Bool, true, false, cond, ◌&&◌, List, [], ◌∷◌, ◌++◌, map, length}
use Rattle.std.proofs.Common.{get_or, slice_get, Contains, All, count_by, Some, refl, sym, ap, ◌∙◌, subst, arith, inl, inr, ◌⊎◌}
use Rattle.std.specs.List.{flat_map, range_with_len}
use Rattle.std.specs.Prelude.{filter}
use Rattle.std.proofs.lemmas.Bool.{cases_eq, cases_lt, eq-eqb, eqb-true}
use Rattle.std.proofs.lemmas.List.Elements.{All-cons, All-contains, All-head, All-tail}
use Rattle.std.proofs.lemmas.List.Sums.{sum_by-cons}
use Rattle.tour_law.specs.Tours.{Costs, IsLeast, IsTour}
use Rattle.tour_law.specs.Search.{IsAsGood, all_tours, begins_with, best, is_better, least, orders, pair_best, picks}
use Rattle.tour_law.specs.Beginnings.{Continues}
use Rattle.tour_law.proofs.Members.{All-there, Among, Contains-flat, Contains-head, Contains-later, Contains-map, From, flat_from}
use Rattle.tour_law.proofs.Members.{head_cases, map_from, none_there, there_counts}
use Rattle.tour_law.proofs.Once.{times, times-other, times-same, times-more}
use Rattle.tour_law.proofs.Orders.{good_itself, good_of_better, good_of_not, good_on, good_same, least_of_good}

times_cons : (k x : ℕ) (xs : List ℕ) → times k (x ∷ xs) ≡ cond (x == k) 1 0 + times k xs
times_cons k x xs = sum_by-cons (λ y. cond (y == k) 1 0) x xs

-- Picks.

record IsPick (xs : List ℕ) (x : ℕ) (rest : List ℕ) : Type 0 where
  same : (k : ℕ) → times k xs ≡ times k (x ∷ rest)
  long : length xs ≡ suc (length rest)

record HasPick (xs : List ℕ) (x : ℕ) : Type 0 where
  rest : List ℕ
  there : Contains (picks xs) (x, rest)
  is : IsPick xs x rest

abbrev behind : ℕ → ℕ × List ℕ → ℕ × List ℕ
behind x p = (p.0, x ∷ p.1)

pick_later : (y : ℕ) (ys : List ℕ) (x : ℕ) (rest : List ℕ) → IsPick ys x rest → IsPick (y ∷ ys) x (y ∷ rest)
pick_later y ys x rest is = record {
  same = λ k.
      let a = is.same k in
      omega (arith, a, times_cons k y ys, times_cons k x rest, times_cons k x (y ∷ rest), times_cons k y rest);
  long = omega (arith, is.long);
}

picks_has : (xs : List ℕ) (x : ℕ) → 1 ≤ times x xs → HasPick xs x
unfolding picks
picks_has [] x some = absurd (omega arith)
picks_has (y ∷ ys) x some = elim (cases_eq y x) [
  | inl same ↦ record {
    rest = ys;
    there = subst (λ z. Contains ((y, ys) ∷ map (behind y) (picks ys)) (z, ys)) same (Contains-head (y, ys) (map (behind y) (picks ys)));
    is = record { same = λ k. ap (λ z. times k (z ∷ ys)) same; long = refl };
  }
  | inr other ↦
      let r = picks_has ys x (omega (arith, some, times-other y x ys other)) in
      record {
        rest = y ∷ r.rest;
        there = Contains-later (y, ys) (x, y ∷ r.rest) (map (behind y) (picks ys)) (Contains-map (behind y) (picks ys) (x, r.rest) r.there);
        is = pick_later y ys x r.rest r.is;
      }
]

picks_only : (xs : List ℕ) (p : ℕ × List ℕ) → Contains (picks xs) p → IsPick xs p.0 p.1
unfolding picks
picks_only [] p there = absurd (none_there p there)
picks_only (y ∷ ys) p there = elim (head_cases (y, ys) p (map (behind y) (picks ys)) there) [
  | inl same ↦ subst (λ (z : ℕ × List ℕ). IsPick (y ∷ ys) z.0 z.1) same (record { same = λ k. refl; long = refl })
  | inr later ↦
      let f = map_from (behind y) (picks ys) p later in
      subst (λ (z : ℕ × List ℕ). IsPick (y ∷ ys) z.0 z.1) f.is (pick_later y ys f.x.0 f.x.1 (picks_only ys f.x f.there))
]

-- Orders.

abbrev after_pick : ℕ → ℕ × List ℕ → List (List ℕ)
after_pick n p = map (λ t. p.0 ∷ t) (orders n p.1)

no_times : (t : List ℕ) → ((k : ℕ) → times k t ≡ 0) → t ≡ []
no_times [] none = refl
no_times (x ∷ t) none = absurd (let e = none x in omega (arith, e, times-same x t))

orders_has : (n : ℕ) (xs t : List ℕ) → length xs ≡ n → ((k : ℕ) → times k t ≡ times k xs) → Contains (orders n xs) t
unfolding orders
orders_has zero [] t long same = subst (λ z. Contains ([] ∷ []) z) (sym (no_times t same)) (Contains-head [] [])
orders_has zero (x ∷ xs) t long same = absurd (omega arith)
orders_has (suc n) [] t long same = absurd (omega arith)
orders_has (suc n) (y ∷ ys) [] long same = absurd (let e = same y in omega (arith, e, times-same y ys))
orders_has (suc n) (y ∷ ys) (x ∷ t) long same =
    let e = same x in
    let p = picks_has (y ∷ ys) x (omega (arith, e, times-same x t)) in
    let rest = orders_has n p.rest t (omega (arith, p.is.long, long)) (λ k.
    let a = same k in let b = p.is.same k in omega (arith, a, b, times_cons k x t, times_cons k x p.rest)) in
    Contains-flat (after_pick n) (picks (y ∷ ys)) (x, p.rest) (x ∷ t) p.there (Contains-map (λ z. x ∷ z) (orders n p.rest) t rest)

orders_only : (n : ℕ) (xs t : List ℕ) → length xs ≡ n → Contains (orders n xs) t → (k : ℕ) → times k t ≡ times k xs
unfolding orders
orders_only zero [] t long there k = elim (head_cases [] t [] there) [
  | inl same ↦ ap (times k) (sym same)
  | inr none ↦ absurd (none_there t none)
]
orders_only zero (x ∷ xs) t long there k = absurd (omega arith)
orders_only (suc n) xs t long there k =
    let f = flat_from (after_pick n) (picks xs) t there in
    let p = picks_only xs f.x f.there in
    let g = map_from (λ z. f.x.0 ∷ z) (orders n f.x.1) t f.is in
    let rest = orders_only n f.x.1 g.x (omega (arith, p.long, long)) g.there k in
    let a = p.same k in
    let b : times k t ≡ times k (f.x.0 ∷ g.x) = ap (times k) (sym g.is) in
    omega (arith, rest, a, b, times_cons k f.x.0 g.x, times_cons k f.x.0 f.x.1)

-- Ranges.

range_past : (a n k : ℕ) → k < a → times k (range_with_len a n) ≡ 0
range_past a zero k less = refl
range_past a (suc n) k less = times-other a k (range_with_len (a + 1) n) (λ e. omega arith) ∙ range_past (a + 1) n k (omega arith)

range_above : (a n k : ℕ) → a + n ≤ k → times k (range_with_len a n) ≡ 0
range_above a zero k past = refl
range_above a (suc n) k past = times-other a k (range_with_len (a + 1) n) (λ e. omega arith) ∙ range_above (a + 1) n k (omega arith)

range_once : (a n k : ℕ) → a ≤ k → k < a + n → times k (range_with_len a n) ≡ 1
range_once a zero k low high = absurd (omega arith)
range_once a (suc n) k low high = elim (cases_eq a k) [
  | inl same ↦
      let e : times k (a ∷ range_with_len (a + 1) n) ≡ times a (a ∷ range_with_len (a + 1) n) =
      ap (λ z. times z (a ∷ range_with_len (a + 1) n)) (sym same) in
      omega (arith, e, times-same a (range_with_len (a + 1) n), range_past (a + 1) n a (omega arith))
  | inr other ↦ times-other a k (range_with_len (a + 1) n) other ∙ range_once (a + 1) n k (omega arith) (omega arith)
]

length_range : (a n : ℕ) → length (range_with_len a n) ≡ n
length_range a zero = refl
length_range a (suc n) = ap suc (length_range (a + 1) n)

-- All tours.

none_past : (n k : ℕ) (t : List ℕ) → All (λ x. x < n) t → n ≤ k → times k t ≡ 0
none_past n k [] within past = refl
none_past n k (x ∷ t) within past =
    let first : x < n = All-head (λ y. y < n) x t within in
    times-other x k t (λ e. omega arith) ∙ none_past n k t (All-tail (λ y. y < n) x t within) past

-- each tour is in the list
pub tours_has : (n : ℕ) (t : List ℕ) → 1 ≤ n → IsTour n t → Contains (all_tours n) t
tours_has n [] some is = absurd (let e = is.begins in cc)
tours_has n (x ∷ t) some is =
    let first : x ≡ 0 = let e = is.begins in cc in
    let same : (k : ℕ) → times k t ≡ times k (range_with_len 1 (n - 1)) = λ k. at k first is in
    subst (λ z. Contains (all_tours n) (z ∷ t)) (sym first)
    (Contains-map (λ u. 0 ∷ u) (orders (n - 1) (range_with_len 1 (n - 1))) t
    (orders_has (n - 1) (range_with_len 1 (n - 1)) t (length_range 1 (n - 1)) same))
  where
    at : (k : ℕ) → x ≡ 0 → IsTour n (x ∷ t) → times k t ≡ times k (range_with_len 1 (n - 1))
    at zero first is =
        let o = is.once 0 some in
        let e : times 0 (x ∷ t) ≡ times x (x ∷ t) = ap (λ z. times z (x ∷ t)) (sym first) in
        let f : times 0 t ≡ times x t = ap (λ z. times z t) (sym first) in
        omega (arith, o, e, f, times-same x t, range_past 1 (n - 1) 0 (omega arith))
    at (suc k) first is =
        let other : times (suc k) (x ∷ t) ≡ times (suc k) t = times-other x (suc k) t (λ e. omega arith) in
        elim (cases_lt (suc k) n) [
          | inl below ↦
              let o = is.once (suc k) below in
              omega (arith, o, other, range_once 1 (n - 1) (suc k) (omega arith) (omega arith))
          | inr past ↦
              let z = none_past n (suc k) (x ∷ t) is.cities past in
              omega (arith, z, other, range_above 1 (n - 1) (suc k) (omega arith))
        ]

-- each list with these counts is a tour
counted_tour : (n : ℕ) (t : List ℕ) → slice_get t 0 ≡ Some 0 → ((k : ℕ) → k < n → times k t ≡ 1)
    → ((k : ℕ) → n ≤ k → times k t ≡ 0) → IsTour n t
counted_tour n t begins once none = record {
  begins = begins;
  once = once;
  cities = All-there (λ x. x < n) t (λ x there. elim (cases_lt x n) [
    | inl below ↦ below
    | inr past ↦
        let c = there_counts (λ y. y == x) t x there (eq_itself x) in
        let z = none x past in
        absurd (omega (arith, c, z))
  ]);
}
  where
    eq_itself : (x : ℕ) → (x == x) ≡ true
    eq_itself x = eq-eqb x x refl

-- each list in the list is a tour
pub tours_only : (n : ℕ) (t : List ℕ) → 1 ≤ n → Contains (all_tours n) t → IsTour n t
tours_only n t some there =
    let f = map_from (λ u. 0 ∷ u) (orders (n - 1) (range_with_len 1 (n - 1))) t there in
    let same = orders_only (n - 1) (range_with_len 1 (n - 1)) f.x (length_range 1 (n - 1)) f.there in
    subst (IsTour n) f.is (counted_tour n (0 ∷ f.x) refl (λ k below. once k below f.x same) (λ k past. none k past f.x same))
  where
    once : (k : ℕ) → k < n → (u : List ℕ) → ((k : ℕ) → times k u ≡ times k (range_with_len 1 (n - 1))) → times k (0 ∷ u) ≡ 1
    once zero below u same = let s = same 0 in omega (arith, s, times-same 0 u, range_past 1 (n - 1) 0 (omega arith))
    once (suc k) below u same =
        let s = same (suc k) in
        omega (arith, s, times-other 0 (suc k) u (λ e. omega arith), range_once 1 (n - 1) (suc k) (omega arith) (omega arith))

    none : (k : ℕ) → n ≤ k → (u : List ℕ) → ((k : ℕ) → times k u ≡ times k (range_with_len 1 (n - 1))) → times k (0 ∷ u) ≡ 0
    none k past u same =
        let s = same k in
        omega (arith, s, times-other 0 k u (λ e. omega arith), range_above 1 (n - 1) k (omega arith))

-- the cities in order are a tour
pub range_tour : (n : ℕ) → 1 ≤ n → IsTour n (range_with_len 0 n)
range_tour zero some = absurd (omega arith)
range_tour (suc n) some =
    counted_tour (suc n) (range_with_len 0 (suc n)) refl (λ k below. range_once 0 (suc n) k (omega arith) (omega arith))
    (λ k past. range_above 0 (suc n) k (omega arith))

-- The best.

-- the best of a first tour and a list: it is one of them, and as good as each
pub record IsBest (c : Costs) (t : List ℕ) (ts : List (List ℕ)) (b : List ℕ) : Type 0 where
  pub one_of : (b ≡ t) ⊎ Contains ts b
  pub good : IsAsGood c b t
  pub each : All (IsAsGood c b) ts

-- the best that is picked is as good as the first and as each of the list
pub best_is : (c : Costs) (t : List ℕ) (ts : List (List ℕ)) → IsBest c t ts (best c t ts)
unfolding best
best_is c t [] = record { one_of = inl refl; good = good_itself c t; each = λ k d below. absurd (omega arith) }
best_is c t (u ∷ ts) = at (is_better c u t) refl (best_is c u ts) (best_is c t ts)
  where
    at : (b : Bool) → b ≡ is_better c u t → IsBest c u ts (best c u ts) → IsBest c t ts (best c t ts)
        → IsBest c t (u ∷ ts) (best c (cond b u t) ts)
    at true e of_u of_t = record {
      one_of = elim of_u.one_of [
        | inl same ↦ inr (subst (λ z. Contains (u ∷ ts) z) (sym same) (Contains-head u ts))
        | inr later ↦ inr (Contains-later u (best c u ts) ts later)
      ];
      good = good_on c (best c u ts) u t of_u.good (good_of_better c u t (sym e));
      each = All-cons (IsAsGood c (best c u ts)) u ts of_u.good of_u.each;
    }
    at false e of_u of_t = record {
      one_of = elim of_t.one_of [ inl same ↦ inl same | inr later ↦ inr (Contains-later u (best c t ts) ts later) ];
      good = of_t.good;
      each = All-cons (IsAsGood c (best c t ts)) u ts (good_on c (best c t ts) t u of_t.good (good_of_not c u t (sym e))) of_t.each;
    }

-- the least tour, as a function, is the least tour
pub least_is : (n : ℕ) (c : Costs) → 1 ≤ n → IsLeast n c (least n c)
least_is n c some =
    let b = best_is c (range_with_len 0 n) (all_tours n) in
    let tour : IsTour n (least n c) = elim b.one_of [
      | inl first ↦ subst (IsTour n) (sym first) (range_tour n some)
      | inr there ↦ tours_only n (least n c) some there
    ] in
    least_of_good n c (least n c) tour (λ u of. All-contains (IsAsGood c (least n c)) (all_tours n) u b.each (tours_has n u some of))

-- The best of a pair.

Contains-kept : (p : List ℕ → Bool) (ts : List (List ℕ)) (t : List ℕ) → Contains ts t → p t ≡ true → Contains (filter p ts) t
Contains-kept p [] t there passes = absurd (none_there t there)
Contains-kept p (u ∷ ts) t there passes = elim (head_cases u t ts there) [
  | inl same ↦
      let yes : p u ≡ true = ap p same ∙ passes in
      subst (λ b. Contains (cond b (u ∷ filter p ts) (filter p ts)) t) (sym yes)
      (subst (λ z. Contains (z ∷ filter p ts) t) (sym same) (Contains-head t (filter p ts)))
  | inr later ↦ at (p u) (Contains-kept p ts t later passes)
]
  where
    at : (b : Bool) → Contains (filter p ts) t → Contains (cond b (u ∷ filter p ts) (filter p ts)) t
    at true th = Contains-later u t (filter p ts) th
    at false th = th

record IsKept (p : List ℕ → Bool) (ts : List (List ℕ)) (t : List ℕ) : Type 0 where
  there : Contains ts t
  passes : p t ≡ true

kept_from : (p : List ℕ → Bool) (ts : List (List ℕ)) (t : List ℕ) → Contains (filter p ts) t → IsKept p ts t
kept_from p [] t there = absurd (none_there t there)
kept_from p (u ∷ ts) t there = at (p u) refl there (kept_from p ts t)
  where
    at : (b : Bool) → b ≡ p u → Contains (cond b (u ∷ filter p ts) (filter p ts)) t → (Contains (filter p ts) t → IsKept p ts t)
        → IsKept p (u ∷ ts) t
    at true e th on = elim (head_cases u t (filter p ts) th) [
      | inl same ↦ record {
        there = subst (λ z. Contains (u ∷ ts) z) same (Contains-head u ts);
        passes = ap p (sym same) ∙ sym e;
      }
      | inr later ↦ let k = on later in record { there = Contains-later u t ts k.there; passes = k.passes }
    ]
    at false e th on = let k = on th in record { there = Contains-later u t ts k.there; passes = k.passes }

both_of : (b d : Bool) → b ≡ true → d ≡ true → (b && d) ≡ true
both_of b d e f = ap (λ x. x && d) e ∙ f

continues_begins : (a b : ℕ) (t : List ℕ) → Continues (0 ∷ a ∷ b ∷ []) t → begins_with a b t ≡ true
continues_begins a b t on =
    ap (begins_with a b) on.1 ∙ both_of (a == a) (b == b) (eq-eqb a a refl) (eq-eqb b b refl)

module _ (n : ℕ) (c : Costs) (first : List ℕ) (a b : ℕ) (some : 1 ≤ n) where
  -- the best of a pair is as good as each tour that begins with it
  pub pair_good : (t : List ℕ) → IsTour n t → Continues (0 ∷ a ∷ b ∷ []) t → IsAsGood c (pair_best n c first a b) t
  pair_good t is on =
      let x = best_is c first (filter (begins_with a b) (all_tours n)) in
      All-contains (IsAsGood c (pair_best n c first a b)) (filter (begins_with a b) (all_tours n)) t x.each
      (Contains-kept (begins_with a b) (all_tours n) t (tours_has n t some is) (continues_begins a b t on))

  -- the best of a pair is a tour
  pub pair_tour : IsTour n first → IsTour n (pair_best n c first a b)
  pair_tour is =
      let x = best_is c first (filter (begins_with a b) (all_tours n)) in
      elim x.one_of [
        | inl same ↦ subst (IsTour n) (sym same) is
        | inr there ↦
            tours_only n (pair_best n c first a b) some (kept_from (begins_with a b) (all_tours n) (pair_best n c first a b) there).there
      ]

  -- whatever a search finds that is one of these tours and as good as all is this one
  pub pair_is : (found : List ℕ) → (found ≡ first) ⊎ Continues (0 ∷ a ∷ b ∷ []) found → IsTour n found → IsAsGood c found first →
      ((t : List ℕ) → IsTour n t → Continues (0 ∷ a ∷ b ∷ []) t → IsAsGood c found t) → found ≡ pair_best n c first a b
  pair_is found from is good each =
      let x = best_is c first (filter (begins_with a b) (all_tours n)) in
      let back : IsAsGood c (pair_best n c first a b) found = elim from [
        | inl same ↦ subst (IsAsGood c (pair_best n c first a b)) (sym same) x.good
        | inr on ↦ pair_good found is on
      ] in
      let to : IsAsGood c found (pair_best n c first a b) = elim x.one_of [
        | inl same ↦ subst (IsAsGood c found) (sym same) good
        | inr there ↦
            let k = kept_from (begins_with a b) (all_tours n) (pair_best n c first a b) there in
            let tour = tours_only n (pair_best n c first a b) some k.there in
            each (pair_best n c first a b) tour (begins_continues n a b (pair_best n c first a b) tour k.passes)
      ] in
      good_same c found (pair_best n c first a b) to back
    where
      both : (x y : Bool) → (x && y) ≡ true → (x ≡ true) × (y ≡ true)
      both true y e = (refl, e)
      both false y e = absurd (cc)

      begins_continues : (n a b : ℕ) (t : List ℕ) → IsTour n t → begins_with a b t ≡ true → Continues (0 ∷ a ∷ b ∷ []) t
      begins_continues n a b [] is e = absurd (cc)
      begins_continues n a b (x ∷ []) is e = absurd (cc)
      begins_continues n a b (x ∷ y ∷ []) is e = absurd (cc)
      begins_continues n a b (x ∷ y ∷ z ∷ rest) is e =
          let p = both (y == a) (z == b) e in
          let zero_first : x ≡ 0 = let h = is.begins in cc in (
            rest,
            ap (λ k. k ∷ y ∷ z ∷ rest) zero_first ∙ ap (λ k. 0 ∷ k ∷ z ∷ rest) (eqb-true y a p.0)
                ∙ ap (λ k. 0 ∷ a ∷ k ∷ rest) (eqb-true z b p.1),
          )
