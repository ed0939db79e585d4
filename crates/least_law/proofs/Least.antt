-- What all ranks of a run of tour programs found together holds a least tour.
use Rattle.std.proofs.Common.{◌≡◌, ◌<◌, ◌≤◌, ◌+◌, ◌-◌, ◌==◌, ◌&&◌, ℕ, zero, suc, Bool, true, false, cond, not, List, [], ◌∷◌, ◌++◌, map}
use Rattle.std.proofs.Common.{length, get_or, Contains, All, count_by, Option, Some, None, refl, sym, ap, ◌∙◌, subst, arith, inl, inr, ◌⊎◌}
use Rattle.std.proofs.Common.{append-nil}
use Rattle.std.specs.List.{flat_map, range_with_len}
use Rattle.std.specs.Prelude.{filter, nat_le, nat_lt, option_to_list}
use Rattle.std.specs.Str.{bytes_eq}
use Rattle.std.proofs.lemmas.Bool.{and_from, eqb-true, eq-eqb, le-leb, le-ltb, lt-ltb, ne_eqb, cases_lt}
use Rattle.std.proofs.lemmas.List.Elements.{Contains-append_cases, Contains-append_left, Contains-append_right, All-cons, All-nil, All-head}
use Rattle.std.proofs.lemmas.List.Elements.{All-tail, All-contains, All-weaker}
use Rattle.std.proofs.lemmas.List.FromFn.{get_or-range_with_len, length-range_with_len}
use Rattle.std.proofs.lemmas.Slice.Eq.{bytes_eq-Decides}
use Rattle.adlb_unit.specs.declared.names.Rank.{Rank}
use Rattle.tour_law.specs.Tours.{Costs, IsLeast, IsTour, cost}
use Rattle.tour_law.specs.Search.{IsAsGood, is_better}
use Rattle.tour_law.specs.Beginnings.{Continues}
use Rattle.tour_law.proofs.Enumerated.{pair_good, pair_tour}
use Rattle.tour_law.proofs.Members.{Among, Contains-flat, Contains-head, Contains-later, Contains-map, From, All-there, flat_from}
use Rattle.tour_law.proofs.Members.{head_cases, map_from, none_there, same_members}
use Rattle.tour_law.proofs.Once.{times, times-same, times-other, times-more, tour-long, tour-once}
use Rattle.tour_law.proofs.Orders.{good_itself, good_of_better, good_of_not, good_on, least_of_good}
use Rattle.work_law.specs.Work.{Arrival, arrival, made_by}
use Rattle.work_law.specs.Books.{Task, Begin}
use Rattle.work_law.specs.Together.{all_by, all_first, waits}
use Rattle.tour_app.specs.Bodies.{common_part, shared}
use Rattle.tour_app.specs.Found.{HoldLeast}
use Rattle.tour_app.specs.Starts.{StartModel, costs}
use Rattle.tour_app.specs.Works.{answer_of, answer_over, cities, found, found_in, is_pair, made_of, makes, over, pairs, pairs_with, tasks}
use Rattle.tour_app.specs.Works.{tours}
use Rattle.tour_app.specs.Works.{pair_tour as best_tour}
use Rattle.tour_app.specs.declared.units.TourUnit.{TourUnit}
use Rattle.tour_app.specs.declared.units.TourUnit.TheVariants.{Pair, Answer}
use Rattle.tour_app.proofs.Common.{read_back}
use Rattle.least_law.specs.Joined.{StartsWell, start_at}
use Rattle.least_law.proofs.Ranks.{first_at}

-- Units are told apart.

abbrev same_unit : TourUnit → TourUnit → Bool
same_unit (Pair a b) (Pair c d) = (a == c) && (b == d)
same_unit (Answer x t) (Answer y u) = (x == y) && bytes_eq t u
same_unit _ _ = false

both : (b d : Bool) → (b && d) ≡ true → (b ≡ true) × (d ≡ true)
both true d e = (refl, e)
both false d e = absurd (cc)

both_of : (b d : Bool) → b ≡ true → d ≡ true → (b && d) ≡ true
both_of b d e f = ap (λ x. x && d) e ∙ f

exact_unit : (x y : TourUnit) → same_unit x y ≡ true → x ≡ y
exact_unit (Pair a b) (Pair c d) e =
    let p = both (a == c) (b == d) e in
    ap (λ z. Pair z b) (eqb-true a c p.0) ∙ ap (Pair c) (eqb-true b d p.1)
exact_unit (Answer x t) (Answer y u) e =
    let p = both (x == y) (bytes_eq t u) e in
    ap (λ z. Answer z t) (eqb-true x y p.0) ∙ ap (Answer y) ((bytes_eq-Decides t u).0 p.1)
exact_unit (Pair a b) (Answer y u) e = absurd (cc)
exact_unit (Answer x t) (Pair c d) e = absurd (cc)

itself : (x : TourUnit) → same_unit x x ≡ true
itself (Pair a b) = both_of (a == a) (b == b) (eq-eqb a a refl) (eq-eqb b b refl)
itself (Answer x t) = both_of (x == x) (bytes_eq t t) (eq-eqb x x refl) ((bytes_eq-Decides t t).1 refl)

abbrev same : Arrival TourUnit → Arrival TourUnit → Bool
same a b = same_unit a.unit b.unit && bytes_eq a.common b.common

exact : (x y : Arrival TourUnit) → same x y ≡ true → x ≡ y
exact x y e =
    let p = both (same_unit x.unit y.unit) (bytes_eq x.common y.common) e in
    let f : (u : TourUnit) (c : List ℕ) → Arrival TourUnit = λ u c. record { unit = u; common = c } in
    ap (λ u. f u x.common) (exact_unit x.unit y.unit p.0) ∙ ap (f y.unit) ((bytes_eq-Decides x.common y.common).0 p.1)

same_itself : (x : Arrival TourUnit) → same x x ≡ true
same_itself x = both_of (same_unit x.unit x.unit) (bytes_eq x.common x.common) (itself x.unit) ((bytes_eq-Decides x.common x.common).1 refl)

-- Pairs.

-- a unit that is a pair, with its cities
pub record IsPair (n : ℕ) (u : TourUnit) : Type 0 where
  pub a : ℕ
  pub b : ℕ
  pub is : u ≡ Pair a b

pairs_are : (n : ℕ) (u : TourUnit) → Contains (pairs n) u → IsPair n u
pairs_are n u there =
    let x = flat_from (pairs_with n) (cities n) u there in
    let y = map_from (Pair x.x) (filter (λ b. not (b == x.x)) (cities n)) u x.is in
    record { a = x.x; b = y.x; is = sym y.is }

in_range : (from n k : ℕ) → from ≤ k → k < from + n → Contains (range_with_len from n) k
in_range from n k low high =
    let long = length-range_with_len from n in
    (k - from, omega arith, get_or-range_with_len from n (k - from) k (omega arith) ∙ back)
  where
    back : from + (k - from) ≡ k
    back = omega arith

Contains-filter : (p : ℕ → Bool) (xs : List ℕ) (x : ℕ) → Contains xs x → p x ≡ true → Contains (filter p xs) x
Contains-filter p [] x there passes = absurd (none_there x there)
Contains-filter p (y ∷ xs) x there passes = elim (head_cases y x xs there) [
  | inl e ↦
      let t : p y ≡ true = ap p e ∙ passes in
      subst (λ b. Contains (cond b (y ∷ filter p xs) (filter p xs)) x) (sym t)
      (subst (λ z. Contains (z ∷ filter p xs) x) (sym e) (Contains-head x (filter p xs)))
  | inr later ↦ kept (p y) (Contains-filter p xs x later passes)
]
  where
    kept : (b : Bool) → Contains (filter p xs) x → Contains (cond b (y ∷ filter p xs) (filter p xs)) x
    kept true c = Contains-later y x (filter p xs) c
    kept false c = c

in_pairs : (n a b : ℕ) → 1 ≤ a → a < n → 1 ≤ b → b < n → (a ≡ b → ⊥) → Contains (pairs n) (Pair a b)
in_pairs n a b a_low a_high b_low b_high other =
    let of_a : Contains (cities n) a = in_range 1 (n - 1) a a_low (omega arith) in
    let of_b : Contains (cities n) b = in_range 1 (n - 1) b b_low (omega arith) in
    let no : not (b == a) ≡ true = ap not (ne_eqb b a (λ e. other (sym e))) in
    Contains-flat (pairs_with n) (cities n) a (Pair a b) of_a
    (Contains-map (Pair a) (filter (λ x. not (x == a)) (cities n)) b (Contains-filter (λ x. not (x == a)) (cities n) b of_b no))

-- each tour of four cities or more begins with 0 and a pair
pub record Begins (n : ℕ) (tour : List ℕ) : Type 0 where
  pub a : ℕ
  pub b : ℕ
  pub on : Continues (0 ∷ a ∷ b ∷ []) tour
  pub pair : Contains (pairs n) (Pair a b)
  pub passes : is_pair n a b ≡ true

begins : (n : ℕ) (tour : List ℕ) → 4 ≤ n → IsTour n tour → Begins n tour
begins n [] many is = absurd (let l = tour-long n [] is in omega (arith, l))
begins n (x ∷ []) many is = absurd (let l = tour-long n (x ∷ []) is in omega (arith, l))
begins n (x ∷ a ∷ []) many is = absurd (let l = tour-long n (x ∷ a ∷ []) is in omega (arith, l))
begins n (x ∷ a ∷ b ∷ rest) many is =
    let zero_first : x ≡ 0 = let e = is.begins in cc in
    let later = All-tail (λ y. y < n) x (a ∷ b ∷ rest) is.cities in
    let a_high : a < n = All-head (λ y. y < n) a (b ∷ rest) later in
    let b_high : b < n = All-head (λ y. y < n) b rest (All-tail (λ y. y < n) a (b ∷ rest) later) in
    let once = tour-once n (x ∷ a ∷ b ∷ rest) is in
    let a_low : a ≡ 0 → ⊥ = λ e.
    let o = once 0 in
    let s : times 0 (x ∷ a ∷ b ∷ rest) ≡ times x (x ∷ a ∷ b ∷ rest) = ap (λ k. times k (x ∷ a ∷ b ∷ rest)) (sym zero_first) in
    let t : times x (a ∷ b ∷ rest) ≡ times a (a ∷ b ∷ rest) = ap (λ k. times k (a ∷ b ∷ rest)) (zero_first ∙ sym e) in
    omega (arith, o, s, t, times-same x (a ∷ b ∷ rest), times-same a (b ∷ rest)) in
    let b_low : b ≡ 0 → ⊥ = λ e.
    let o = once 0 in
    let s : times 0 (x ∷ a ∷ b ∷ rest) ≡ times x (x ∷ a ∷ b ∷ rest) = ap (λ k. times k (x ∷ a ∷ b ∷ rest)) (sym zero_first) in
    let m = times-more a x (b ∷ rest) in
    let t : times x (b ∷ rest) ≡ times b (b ∷ rest) = ap (λ k. times k (b ∷ rest)) (zero_first ∙ sym e) in
    omega (arith, o, s, t, m, times-same x (a ∷ b ∷ rest), times-same b rest) in
    let other : a ≡ b → ⊥ = λ e.
    let o = once a in
    let m = times-more x a (a ∷ b ∷ rest) in
    let t : times a (b ∷ rest) ≡ times b (b ∷ rest) = ap (λ k. times k (b ∷ rest)) e in
    omega (arith, o, m, t, times-same a (b ∷ rest), times-same b rest) in
    record {
      a = a;
      b = b;
      on = (rest, ap (λ z. z ∷ a ∷ b ∷ rest) zero_first);
      pair = in_pairs n a b (low a a_low) a_high (low b b_low) b_high other;
      passes = and_from ((nat_le 1 a && nat_lt a n) && (nat_le 1 b && nat_lt b n)) (not (a == b))
          (and_from (nat_le 1 a && nat_lt a n) (nat_le 1 b && nat_lt b n)
          (and_from (nat_le 1 a) (nat_lt a n) (le-leb 1 a (low a a_low)) (lt-ltb a n a_high))
          (and_from (nat_le 1 b) (nat_lt b n) (le-leb 1 b (low b b_low)) (lt-ltb b n b_high)))
          (ap not (ne_eqb a b other));
    }
  where
    low : (k : ℕ) → (k ≡ 0 → ⊥) → 1 ≤ k
    low zero none = absurd (none refl)
    low (suc k) none = omega arith

-- of some tours one is as good as all
pub record Picked (c : Costs) (ts : List (List ℕ)) : Type 0 where
  pub best : List ℕ
  pub there : Contains ts best
  pub good : All (IsAsGood c best) ts

pick : (c : Costs) (t : List ℕ) (ts : List (List ℕ)) → Picked c (t ∷ ts)
pick c t [] = record {
  best = t;
  there = Contains-head t [];
  good = All-cons (IsAsGood c t) t [] (good_itself c t) (All-nil (IsAsGood c t));
}
pick c t (u ∷ ts) = at (pick c u ts) (is_better c t (pick c u ts).best) refl
  where
    at : (p : Picked c (u ∷ ts)) → (b : Bool) → b ≡ is_better c t p.best → Picked c (t ∷ u ∷ ts)
    at p true e =
        let better = good_of_better c t p.best (sym e) in
        record {
          best = t;
          there = Contains-head t (u ∷ ts);
          good = All-cons (IsAsGood c t) t (u ∷ ts) (good_itself c t)
              (All-weaker (IsAsGood c p.best) (IsAsGood c t) (λ x g. good_on c t p.best x better g) (u ∷ ts) p.good);
        }
    at p false e = record {
      best = p.best;
      there = Contains-later t p.best (u ∷ ts) p.there;
      good = All-cons (IsAsGood c p.best) t (u ∷ ts) (good_of_not c t p.best (sym e)) p.good;
    }

-- What is put first.

module _ (s : StartModel) where
  n : ℕ
  n = s.cities.count

  abbrev common : List ℕ
  common = common_part s

  abbrev firsts : Rank → List (Arrival TourUnit)
  firsts rank = waits tours None (first_at s rank)

  -- rank 0 puts the pairs, if the cities are four at least; nothing else is put first
  begins_tasks : List (Task TourUnit)
  begins_tasks = Begin (common_part s) (pairs s.cities.count) ∷ []

  of_begins : (x : Arrival TourUnit) → Contains (waits tours None (Begin (common_part s) (pairs s.cities.count) ∷ [])) x →
      From (arrival tours (common_part s)) (pairs s.cities.count) x
  unfolding waits
  of_begins x there =
      map_from (arrival tours (common_part s)) (pairs s.cities.count) x
      (subst (λ l. Contains l x) (append-nil (map (arrival tours (common_part s)) (pairs s.cities.count))) there)

  of_none : (x : Arrival TourUnit) → Contains (waits tours None []) x → From (arrival tours (common_part s)) (pairs s.cities.count) x
  unfolding waits
  of_none x there = absurd (none_there x there)

  of_if : (few : Bool) (x : Arrival TourUnit) →
      Contains (waits tours None (cond few [] (Begin (common_part s) (pairs s.cities.count) ∷ []))) x →
      From (arrival tours (common_part s)) (pairs s.cities.count) x
  of_if true x there = of_none x there
  of_if false x there = of_begins x there

  of_start : (home : Bool) (x : Arrival TourUnit) → Contains (waits tours None (tasks (cond home (Some s) None))) x →
      From (arrival tours (common_part s)) (pairs s.cities.count) x
  of_start true x there = of_if (nat_lt s.cities.count 4) x there
  of_start false x there = of_none x there

  from_first : (k : ℕ) (x : Arrival TourUnit) → Contains (all_first tours (first_at s) k) x →
      From (arrival tours (common_part s)) (pairs s.cities.count) x
  unfolding all_first
  from_first zero x there = absurd (none_there x there)
  from_first (suc k) x there = elim (Contains-append_cases (all_first tours (first_at s) k) (firsts (record { 0 = k })) x there) [
    | inl before ↦ from_first k x before
    | inr here ↦ of_start (k == 0) x here
  ]

  begins_there : (u : TourUnit) → Contains (pairs s.cities.count) u →
      Contains (waits tours None (Begin (common_part s) (pairs s.cities.count) ∷ [])) (arrival tours (common_part s) u)
  unfolding waits
  begins_there u there =
      subst (λ l. Contains l (arrival tours (common_part s) u))
      (sym (append-nil (map (arrival tours (common_part s)) (pairs s.cities.count))))
      (Contains-map (arrival tours (common_part s)) (pairs s.cities.count) u there)

  first_there : (u : TourUnit) → 4 ≤ s.cities.count → Contains (pairs s.cities.count) u →
      Contains (firsts (record { 0 = 0 })) (arrival tours (common_part s) u)
  first_there u many there =
      subst (λ b. Contains (waits tours None (cond b [] (Begin (common_part s) (pairs s.cities.count) ∷ [])))
      (arrival tours (common_part s) u))
      (sym (le-ltb s.cities.count 4 many)) (begins_there u there)

  in_first : (k : ℕ) (u : TourUnit) → 0 < k → 4 ≤ s.cities.count → Contains (pairs s.cities.count) u →
      Contains (all_first tours (first_at s) k) (arrival tours (common_part s) u)
  unfolding all_first
  in_first zero u some many there = absurd (omega arith)
  in_first (suc zero) u some many there =
      Contains-append_right [] (firsts (record { 0 = 0 })) (arrival tours (common_part s) u) (first_there u many there)
  in_first (suc (suc k)) u some many there =
      Contains-append_left (all_first tours (first_at s) (suc k)) (firsts (record { 0 = suc k })) (arrival tours (common_part s) u)
      (in_first (suc k) u (omega arith) many there)

-- An answer is made of a pair.

-- an answer to a pair, over a start read from the common bytes
pub record IsAnswer (its_bytes : List ℕ) (by u : TourUnit) : Type 0 where
  pub a : ℕ
  pub b : ℕ
  pub its : StartModel
  pub of : by ≡ Pair a b
  pub read : shared its_bytes ≡ Some its
  pub answer : u ≡ Answer (cost (costs its) (best_tour its a b)) (best_tour its a b)

one_of : (o : Option TourUnit) (u : TourUnit) → Contains (option_to_list o) u → o ≡ Some u
one_of None u there = absurd (none_there u there)
one_of (Some x) u there = elim (head_cases x u [] there) [ inl e ↦ ap Some e | inr none ↦ absurd (none_there u none) ]

answer_cases : (its : StartModel) (a b : ℕ) (u : TourUnit) → answer_of its a b ≡ Some u →
    u ≡ Answer (cost (costs its) (best_tour its a b)) (best_tour its a b)
unfolding answer_of
answer_cases its a b u e = at (is_better (costs its) (best_tour its a b) its.first) e
  where
    best : TourUnit
    best = Answer (cost (costs its) (best_tour its a b)) (best_tour its a b)

    at : (t : Bool) → cond t (Some best) None ≡ Some u → u ≡ best
    at true f = cc
    at false f = absurd (cc)

if_cases : (t : Bool) (o : Option TourUnit) (u : TourUnit) → cond t o None ≡ Some u → o ≡ Some u
if_cases true o u e = e
if_cases false o u e = absurd (cc)

made_cases : (bytes : List ℕ) (by u : TourUnit) → Contains (makes bytes by) u → IsAnswer bytes by u
made_cases bytes (Pair a b) u there = at (shared bytes) refl (one_of (made_of bytes (Pair a b)) u there)
  where
    at : (o : Option StartModel) → o ≡ shared bytes → answer_over o a b ≡ Some u → IsAnswer bytes (Pair a b) u
    at None e f = absurd (cc)
    at (Some its) e f = record {
      a = a;
      b = b;
      its = its;
      of = refl;
      read = sym e;
      answer = answer_cases its a b u (if_cases (is_pair its.cities.count a b) (answer_of its a b) u f);
    }
made_cases bytes (Answer k t) u there = absurd (none_there u there)

-- what a pair over the common part makes, if its best tour is better than the first
makes_answer : (s : StartModel) (bytes : List ℕ) (a b : ℕ) → shared bytes ≡ Some s → is_pair s.cities.count a b ≡ true →
    is_better (costs s) (best_tour s a b) s.first ≡ true →
    Contains (makes bytes (Pair a b)) (Answer (cost (costs s) (best_tour s a b)) (best_tour s a b))
unfolding answer_of
makes_answer s bytes a b reads passes better =
    let u : TourUnit = Answer (cost (costs s) (best_tour s a b)) (best_tour s a b) in
    let made : made_of bytes (Pair a b) ≡ Some u =
    ap (λ o. answer_over o a b) reads ∙ ap (λ t. cond t (answer_of s a b) None) passes ∙ ap (λ t. cond t (Some u) None) better in
    subst (λ o. Contains (option_to_list o) u) (sym made) (Contains-head u [])

-- The law.

module _ (s : StartModel) (starts : StartsWell s) (ranks : ℕ) (some : 0 < ranks) (all : List (Arrival TourUnit))
    (same_all : (test : Arrival TourUnit → Bool) →
    count_by test all ≡ count_by test (all_first tours (first_at s) ranks ++ all_by tours all))
  where
    c : Costs
    c = costs s

    abbrev first_all : List (Arrival TourUnit)
    first_all = all_first tours (first_at s) ranks

    reads : shared (common_part s) ≡ Some s
    reads = read_back s starts.is

    n_some : 1 ≤ s.cities.count
    n_some = starts.is.cities.some

    searched_is : (a b : ℕ) → IsTour s.cities.count (best_tour s a b)
    searched_is a b = pair_tour s.cities.count (costs s) s.first a b starts.is.cities.some starts.is.first

    -- what came to the ranks is what was put first and what work made
    to : (x : Arrival TourUnit) → Contains all x → Contains first_all x ⊎ Contains (all_by tours all) x
    to x there =
        Contains-append_cases first_all (all_by tours all) x
        (same_members same exact same_itself all (first_all ++ all_by tours all) same_all x there)

    back : (x : Arrival TourUnit) → Contains (first_all ++ all_by tours all) x → Contains all x
    back x there = same_members same exact same_itself (first_all ++ all_by tours all) all (λ p. sym (same_all p)) x there

    record IsMade (x : Arrival TourUnit) : Type 0 where
      by : Arrival TourUnit
      there : Contains all by
      unit : Contains (makes by.common by.unit) x.unit

    made_at : (x : Arrival TourUnit) → Contains (all_by tours all) x → IsMade x
    made_at x there =
        let m = map_from (arrival tours []) (flat_map (made_by tours) all) x there in
        let a = flat_from (made_by tours) all m.x m.there in
        record {
          by = a.x;
          there = a.there;
          unit = subst (λ u. Contains (makes a.x.common a.x.unit) u) (ap (λ (y : Arrival TourUnit). y.unit) m.is) a.is;
        }

    -- each pair that came is over the common part
    pair_over : (x : Arrival TourUnit) (a b : ℕ) → Contains all x → x.unit ≡ Pair a b → x.common ≡ common_part s
    pair_over x a b there pair = elim (to x there) [
      | inl first ↦
          let f = from_first s ranks x first in
          let unit : f.x ≡ x.unit = ap (λ (y : Arrival TourUnit). y.unit) f.is in
          let e : f.x ≡ Pair a b = unit ∙ pair in
          sym (ap (λ (y : Arrival TourUnit). y.common) f.is) ∙ ap (λ u. over u (common_part s)) e
      | inr made ↦
          let m = made_at x made in
          let k = made_cases m.by.common m.by.unit x.unit m.unit in
          absurd (let e : Pair a b ≡ Answer (cost (costs k.its) (best_tour k.its k.a k.b)) (best_tour k.its k.a k.b) =
          sym pair ∙ k.answer in cc)
    ]

    -- each answer that came is a tour with its cost
    answer_good : (x : Arrival TourUnit) (k : ℕ) (t : List ℕ) → Contains all x → x.unit ≡ Answer k t →
        IsTour s.cities.count t × (k ≡ cost (costs s) t)
    answer_good x k t there answer = elim (to x there) [
      | inl first ↦
          let f = from_first s ranks x first in
          let p = pairs_are s.cities.count f.x f.there in
          absurd (let e : Pair p.a p.b ≡ Answer k t = sym p.is ∙ ap (λ (y : Arrival TourUnit). y.unit) f.is ∙ answer in cc)
      | inr made ↦
          let m = made_at x made in
          let w = made_cases m.by.common m.by.unit x.unit m.unit in
          let bytes = pair_over m.by w.a w.b m.there w.of in
          let both : Some w.its ≡ Some s = sym w.read ∙ ap shared bytes ∙ reads in
          let its : w.its ≡ s = cc in
          let e : Answer k t ≡ Answer (cost (costs w.its) (best_tour w.its w.a w.b)) (best_tour w.its w.a w.b) = sym answer ∙ w.answer in
          let tour : t ≡ best_tour w.its w.a w.b = cc in
          let price : k ≡ cost (costs w.its) (best_tour w.its w.a w.b) = cc in
          let at_s : t ≡ best_tour s w.a w.b = tour ∙ ap (λ z. best_tour z w.a w.b) its in (
            subst (IsTour s.cities.count) (sym at_s) (searched_is w.a w.b),
            price ∙ ap (λ z. cost (costs z) (best_tour z w.a w.b)) its ∙ ap (cost (costs s)) (sym at_s),
          )
    ]

    -- what all ranks found: rank 0 keeps the first tour besides
    abbrev home : ℕ × List ℕ
    home = (cost (costs s) s.first, s.first)

    abbrev all_found : List (ℕ × List ℕ)
    all_found = home ∷ found all

    abbrev IsCosted : ℕ × List ℕ → Type 0
    IsCosted f = IsTour s.cities.count f.1 × (f.0 ≡ cost (costs s) f.1)

    found_good : (f : ℕ × List ℕ) → Contains all_found f → IsCosted f
    found_good f there = elim (head_cases home f (found all) there) [
      | inl e ↦ subst IsCosted e (starts.is.first, refl)
      | inr later ↦
          let x = flat_from (λ (a : Arrival TourUnit). found_in a.unit) all f later in
          by_unit x.x x.x.unit refl x.there x.is
    ]
      where
        by_unit : (x : Arrival TourUnit) (u : TourUnit) → x.unit ≡ u → Contains all x → Contains (found_in x.unit) f → IsCosted f
        by_unit x (Pair a b) e there in' = absurd (none_there f (subst (λ u. Contains (found_in u) f) e in'))
        by_unit x (Answer k t) e there in' =
            let g = answer_good x k t there e in
            elim (head_cases (k, t) f [] (subst (λ u. Contains (found_in u) f) e in')) [
              | inl same ↦ subst IsCosted same g
              | inr none ↦ absurd (none_there f none)
            ]

    -- for each tour one was found that is as good
    record IsMatched (tour : List ℕ) : Type 0 where
      best : List ℕ
      there : Contains (map (λ (f : ℕ × List ℕ). f.1) all_found) best
      good : IsAsGood (costs s) best tour

    matched : 4 ≤ s.cities.count → (tour : List ℕ) → IsTour s.cities.count tour → IsMatched tour
    matched many tour of =
        let b = begins s.cities.count tour many of in
        let x : Arrival TourUnit = arrival tours (common_part s) (Pair b.a b.b) in
        let at_x : Contains all x =
        back x (Contains-append_left first_all (all_by tours all) x (in_first s ranks (Pair b.a b.b) some many b.pair)) in
        let good : IsAsGood (costs s) (best_tour s b.a b.b) tour =
        pair_good s.cities.count (costs s) s.first b.a b.b starts.is.cities.some tour of b.on in
        at b.a b.b (is_better (costs s) (best_tour s b.a b.b) s.first) refl b.passes good at_x
      where
        at : (a b : ℕ) (t : Bool) → t ≡ is_better (costs s) (best_tour s a b) s.first → is_pair s.cities.count a b ≡ true →
            IsAsGood (costs s) (best_tour s a b) tour → Contains all (arrival tours (common_part s) (Pair a b)) → IsMatched tour
        at a b true e passes good there =
            let u : TourUnit = Answer (cost (costs s) (best_tour s a b)) (best_tour s a b) in
            let makes_u : Contains (makes (common_part s) (Pair a b)) u = makes_answer s (common_part s) a b reads passes (sym e) in
            let y : Arrival TourUnit = arrival tours [] u in
            let by : Contains (all_by tours all) y =
            Contains-map (arrival tours []) (flat_map (made_by tours) all) u
            (Contains-flat (made_by tours) all (arrival tours (common_part s) (Pair a b)) u there makes_u) in
            let at_y : Contains all y = back y (Contains-append_right first_all (all_by tours all) y by) in
            let f : ℕ × List ℕ = (cost (costs s) (best_tour s a b), best_tour s a b) in
            let in_found : Contains (found all) f =
            Contains-flat (λ (z : Arrival TourUnit). found_in z.unit) all y f at_y (Contains-head f []) in
            record {
              best = best_tour s a b;
              there = Contains-map (λ (g : ℕ × List ℕ). g.1) all_found f (Contains-later home f (found all) in_found);
              good = good;
            }
        at a b false e passes good there = record {
          best = s.first;
          there = Contains-head s.first (map (λ (g : ℕ × List ℕ). g.1) (found all));
          good = good_on (costs s) s.first (best_tour s a b) tour (good_of_not (costs s) (best_tour s a b) s.first (sym e)) good;
        }

    -- together they hold a least tour
    held_by_many : 4 ≤ s.cities.count → HoldLeast s.cities.count (costs s) all_found
    held_by_many many =
        let ts : List (List ℕ) = map (λ (f : ℕ × List ℕ). f.1) (found all) in
        let p = pick (costs s) s.first ts in
        let from = map_from (λ (f : ℕ × List ℕ). f.1) all_found p.best p.there in
        let its = found_good from.x from.there in
        let tour : IsTour s.cities.count p.best = subst (IsTour s.cities.count) from.is its.0 in
        let pair : from.x ≡ (cost (costs s) p.best, p.best) =
        ap (λ (z : ℕ). let g : ℕ × List ℕ = (z, from.x.1) in g) its.1
        ∙ ap (λ (z : List ℕ). let g : ℕ × List ℕ = (cost (costs s) z, z) in g) from.is in
        record {
          tours = All-there IsCosted all_found found_good;
          least = p.best;
          there = subst (λ z. Contains all_found z) pair from.there;
          is = least_of_good s.cities.count (costs s) p.best tour (λ other of.
              let m = matched many other of in
              good_on (costs s) p.best m.best other (All-contains (IsAsGood (costs s) p.best) (s.first ∷ ts) m.best p.good m.there) m.good);
        }

    held_by_few : s.cities.count < 4 → HoldLeast s.cities.count (costs s) all_found
    held_by_few few = record {
      tours = All-there IsCosted all_found found_good;
      least = s.first;
      there = Contains-head home (found all);
      is = starts.least few;
    }

    -- what all ranks found, with the first tour, holds a least one
    pub least_is_held : HoldLeast s.cities.count (costs s) ((cost (costs s) s.first, s.first) ∷ found all)
    least_is_held = elim (cases_lt s.cities.count 4) [ inl few ↦ held_by_few few | inr many ↦ held_by_many many ]
