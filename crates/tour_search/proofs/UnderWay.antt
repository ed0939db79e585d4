-- A search under way.
use Rattle.std.proofs.Common.{◌≡◌, ◌<◌, ◌≤◌, ◌+◌, ◌-◌, ◌==◌, ◌&&◌, ◌||◌, ◌⊎◌, inl, inr, ℕ, Bool, true, false, List, [], ◌∷◌, ◌++◌, length}
use Rattle.std.proofs.Common.{get_or, take, Vec, Global, refl, sym, ap, ◌∙◌, subst, arith, append_assoc}
use Rattle.std.specs.Prelude.{nat_lt, sum_by, vec_capacity}
use Rattle.std.specs.List.{list_any}
use Rattle.std.proofs.Math.Dec.{eqb}
use Rattle.std.specs.Cmp.Lexicographic.{slice_cmp}
use Rattle.std.specs.Ordering.{nat_cmp, is_gt}
use Rattle.std.specs.declared.cmp.Ordering.{Ordering}
use Rattle.std.specs.declared.cmp.Ordering.TheVariants.{Less, Equal, Greater}
use Rattle.std.proofs.lemmas.Bool.{ltb-true, eqb-true, eq-eqb, ne_eqb, cases_eq}
use Rattle.std.proofs.lemmas.List.{get_or_default}
use Rattle.std.proofs.lemmas.List.Sums.{sum_by-append}
use Rattle.tour_law.specs.Tours.{Costs, IsTour, cost}
use Rattle.tour_law.specs.Search.{IsAsGood, IsWayOut, bound, is_better, sum_below}
use Rattle.tour_law.specs.Beginnings.{Continues, IsBeginning, path_cost}
use Rattle.tour_law.proofs.Beginnings.{bound_is, cut_above, cut_tie, last_of, left_enough, longer, next, path_cost-more, shape}
use Rattle.tour_law.proofs.Once.{times, times-other, times-same, tour-once}
use Rattle.tour_law.proofs.Orders.{good_itself, good_of_better, good_of_not, good_on}
use Rattle.tour_search.specs.Cities.{CitiesModel, IsKnown, beats, costs, cuts, out_of}
use Rattle.tour_search.specs.declared.tours.Tour.{Tour}

-- the cities below `city` were tried after the beginning
pub record IsSearched (cities : CitiesModel) (beginning : Vec ℕ Global) (known : Tour) (now : Vec ℕ Global) (best : Tour)
    (city : ℕ) : Type 0 where
  pub kept : now.items ≡ beginning.items
  pub room : vec_capacity now ≡ vec_capacity beginning
  pub tour : IsKnown cities best
  pub good : IsAsGood (costs cities) best.cities.items known.cities.items
  pub from : (best.cities.items ≡ known.cities.items) ⊎ Continues beginning.items best.cities.items
  pub tried : (x : ℕ) → x < city → (tour : List ℕ) → IsTour cities.count tour → Continues (beginning.items ++ x ∷ []) tour →
      IsAsGood (costs cities) best.cities.items tour

-- The bound.

-- the last city of the beginning
pub last_is : (p : List ℕ) (len last : ℕ) → 2 ≤ length p → len ≡ length p → last ≡ get_or p (len - 1) last → last ≡ last_of p
last_is p len last long e is =
    let below : len - 1 < length p = omega arith in
    is ∙ get_or_default p (len - 1) last 0 below ∙ ap (λ k. get_or p (k - 1) 0) e

-- what is said of the bound, by the last city
pub bound_told : (n : ℕ) (c : Costs) (ways p seen : List ℕ) (spent left told : ℕ) → length ways ≡ n → seen ≡ p → IsBeginning n p →
    spent ≡ path_cost c p → left + sum_by (out_of ways) p ≡ sum_below n (out_of ways) →
    ((k : Costs) (a : ℕ) (q : List ℕ) → seen ≡ 0 ∷ a ∷ q → spent ≡ path_cost k seen →
    left + sum_by (out_of ways) seen ≡ sum_below (length ways) (out_of ways) → told ≡ bound (length ways) k (out_of ways) a q) →
    told ≡ path_cost c p + out_of ways (last_of p) + left
bound_told n c ways p seen spent left told many same is its rest tells =
    let s = shape n p is in
    let r : left + sum_by (out_of ways) seen ≡ sum_below (length ways) (out_of ways) =
    ap (λ l. left + sum_by (out_of ways) l) same ∙ rest ∙ ap (λ m. sum_below m (out_of ways)) (sym many) in
    tells c s.a s.q (same ∙ s.is) (its ∙ ap (path_cost c) (sym same)) r ∙ ap (λ m. bound m c (out_of ways) s.a s.q) many
    ∙ bound_is n c (out_of ways) p left rest s.a s.q s.is

-- Cutting.

abbrev IsCut : (bound best : ℕ) → Ordering → Type 0
IsCut bound best o = (best < bound) ⊎ ((bound ≡ best) × (o ≡ Greater))

greater_of : (o : Ordering) → is_gt o ≡ true → o ≡ Greater
greater_of Less e = absurd (cc)
greater_of Equal e = absurd (cc)
greater_of Greater e = refl

cut_of : (bound best : ℕ) (o : Ordering) → (nat_lt best bound || ((bound == best) && is_gt o)) ≡ true → IsCut bound best o
cut_of bound best o e = at (nat_lt best bound) (bound == best) (is_gt o) refl refl refl e
  where
    at : (b d f : Bool) → b ≡ nat_lt best bound → d ≡ (bound == best) → f ≡ is_gt o → (b || (d && f)) ≡ true → IsCut bound best o
    at true d f h i j e = inl (ltb-true best bound (sym h))
    at false true true h i j e = inr (eqb-true bound best (sym i), greater_of o (sym j))
    at false true false h i j e = absurd (cc)
    at false false f h i j e = absurd (cc)

-- a beginning that is cut has no better tour
pub cut_searches : (n : ℕ) (c : Costs) (ways p known : List ℕ) (best bound left : ℕ) → 0 < n → IsWayOut n c (out_of ways)
    → IsBeginning n p →
    left + sum_by (out_of ways) p ≡ sum_below n (out_of ways) → best ≡ cost c known →
    bound ≡ path_cost c p + out_of ways (last_of p) + left → cuts bound p best known ≡ true →
    (tour : List ℕ) → IsTour n tour → Continues p tour → IsAsGood c known tour
cut_searches n c ways p known best bound left some out is rest its_cost its_bound cut tour of on =
    elim (cut_of bound best (slice_cmp nat_cmp p (take (length p) known)) cut) [
      | inl more ↦ cut_above n c (out_of ways) some out p known left is rest (omega arith) tour of on
      | inr tie ↦ cut_tie n c (out_of ways) some out p known left is rest (omega (arith, tie.0)) tie.1 tour of on
    ]

-- A tour that has all its cities.

-- the better of two tours is as good as both
pub record IsKept (cities : CitiesModel) (tour : List ℕ) (known best : Tour) : Type 0 where
  pub known_is : IsKnown cities best
  pub new : IsAsGood (costs cities) best.cities.items tour
  pub old : IsAsGood (costs cities) best.cities.items known.cities.items
  pub from : (best.cities.items ≡ known.cities.items) ⊎ (best.cities.items ≡ tour)

-- the better of a tour and the one known is kept
pub kept_better : (cities : CitiesModel) (t : ℕ) (tour : List ℕ) (known best : Tour) → IsKnown cities known → IsTour cities.count tour →
    t ≡ cost (costs cities) tour →
    (beats t tour known.cost known.cities.items ≡ true → (best.cost ≡ t) × (best.cities.items ≡ tour)) →
    (beats t tour known.cost known.cities.items ≡ false → best ≡ known) → IsKept cities tour known best
kept_better cities t tour known best is of its taken stays = at (beats t tour known.cost known.cities.items) refl
  where
    c : Costs
    c = costs cities

    same : beats t tour known.cost known.cities.items ≡ is_better c tour known.cities.items
    same = ap (λ x. beats x tour known.cost known.cities.items) its ∙ ap (λ x. beats (cost c tour) tour x known.cities.items) is.cost

    at : (b : Bool) → b ≡ beats t tour known.cost known.cities.items → IsKept cities tour known best
    at true e =
        let new = taken (sym e) in
        let good : IsAsGood c tour known.cities.items = good_of_better c tour known.cities.items (sym same ∙ sym e) in
        record {
          known_is = record { tour = subst (IsTour cities.count) (sym new.1) of; cost = new.0 ∙ its ∙ ap (cost c) (sym new.1) };
          new = subst (λ x. IsAsGood c x tour) (sym new.1) (good_itself c tour);
          old = subst (λ x. IsAsGood c x known.cities.items) (sym new.1) good;
          from = inr new.1;
        }
    at false e =
        let old : best ≡ known = stays (sym e) in
        let good : IsAsGood c known.cities.items tour = good_of_not c tour known.cities.items (sym same ∙ sym e) in
        record {
          known_is = subst (IsKnown cities) (sym old) is;
          new = subst (λ (x : Tour). IsAsGood c x.cities.items tour) (sym old) good;
          old = subst (λ (x : Tour). IsAsGood c x.cities.items known.cities.items) (sym old) (good_itself c known.cities.items);
          from = inl (ap (λ (x : Tour). x.cities.items) old);
        }

-- One city more.

-- a city that is there already: no tour goes on with it
pub none_again : (n : ℕ) (p tour : List ℕ) (x : ℕ) → 1 ≤ times x p → IsTour n tour → Continues (p ++ x ∷ []) tour → ⊥
none_again n p tour x there of on =
    let once = tour-once n tour of x in
    let e : times x tour ≡ times x (p ++ x ∷ []) + times x on.0 = ap (times x) on.1 ∙ sum_by-append _ (p ++ x ∷ []) on.0 in
    let f : times x (p ++ x ∷ []) ≡ times x p + times x (x ∷ []) = sum_by-append _ p (x ∷ []) in
    omega (arith, once, e, f, times-same x [], there)

-- if each next city is tried, so is each tour that continues
pub all_tried : (cities : CitiesModel) (p : List ℕ) (best : List ℕ) → length p < cities.count →
    ((x : ℕ) → x < cities.count → (tour : List ℕ) → IsTour cities.count tour → Continues (p ++ x ∷ []) tour
    → IsAsGood (costs cities) best tour) →
    (tour : List ℕ) → IsTour cities.count tour → Continues p tour → IsAsGood (costs cities) best tour
all_tried cities p best less tried tour of on =
    let x = next cities.count p tour less of on in
    tried x.x x.below tour of x.on

-- a city that the test does not find is new
pub new_at : (p now seen : List ℕ) (x : ℕ) (b : Bool) → seen ≡ now → now ≡ p → (b ≡ false → times x seen ≡ 0) → b ≡ false → times x p ≡ 0
new_at p now seen x b e f h is = ap (times x) (sym f) ∙ ap (times x) (sym e) ∙ h is

-- a city that the test finds was visited
pub old_at : (p now seen : List ℕ) (x : ℕ) (b : Bool) → seen ≡ now → now ≡ p → (b ≡ true → 1 ≤ times x seen) → b ≡ true → 1 ≤ times x p
old_at p now seen x b e f h is = let g : times x seen ≡ times x p = ap (times x) e ∙ ap (times x) f in let k = h is in omega (arith, g, k)

-- what is left to pay is at least the way out of a city that is left
pub left_at : (n : ℕ) (ways p : List ℕ) (x left : ℕ) → IsBeginning n p → x < n → times x p ≡ 0 →
    left + sum_by (out_of ways) p ≡ sum_below n (out_of ways) → out_of ways x ≤ left
left_at n ways p x left is below new rest = left_enough n (out_of ways) p x left is below new rest

-- what the search of a longer beginning asks
pub record IsNext (cities : CitiesModel) (ways more : List ℕ) (cost rest : ℕ) : Type 0 where
  pub begins : IsBeginning cities.count more
  pub spent : cost ≡ path_cost (costs cities) more
  pub left : rest + sum_by (out_of ways) more ≡ sum_below cities.count (out_of ways)

-- the next beginning costs one way more, and leaves one way out less
pub is_next : (cities : CitiesModel) (ways p now : List ℕ) (x spent left step : ℕ) → IsBeginning cities.count p → x < cities.count
    → times x p ≡ 0 →
    now ≡ p ++ x ∷ [] → spent ≡ path_cost (costs cities) p → left + sum_by (out_of ways) p ≡ sum_below cities.count (out_of ways) →
    step ≡ costs cities (last_of p) x → IsNext cities ways now (spent + step) (left - out_of ways x)
is_next cities ways p now x spent left step is below new e its_spent its_left its_step =
    let enough = left_at cities.count ways p x left is below new its_left in
    let n : IsNext cities ways (p ++ x ∷ []) (spent + step) (left - out_of ways x) = record {
      begins = longer cities.count p x is below new;
      spent = omega (arith, its_spent, its_step, path_cost-more cities.count (costs cities) p x is);
      left = omega (arith, enough, its_left, sum_by-append (out_of ways) p (x ∷ []));
    } in
    subst (λ l. IsNext cities ways l (spent + step) (left - out_of ways x)) (sym e) n

-- whether a city is in a list
pub any_times : (x : ℕ) (p : List ℕ) (b : Bool) → b ≡ list_any (λ y. eqb y x) p → b ≡ false → times x p ≡ 0
any_times x [] b e is = refl
any_times x (y ∷ p) b e is = elim (cases_eq y x) [
  | inl same ↦ absurd (let t : eqb y x ≡ true = eq-eqb y x same in
      let f : list_any (λ y. eqb y x) (y ∷ p) ≡ true = ap (λ d. d || list_any (λ y. eqb y x) p) t in cc)
  | inr other ↦
      let f : eqb y x ≡ false = ne_eqb y x other in
      let g : list_any (λ y. eqb y x) (y ∷ p) ≡ list_any (λ y. eqb y x) p = ap (λ d. d || list_any (λ y. eqb y x) p) f in
      times-other y x p other ∙ any_times x p b (e ∙ g) is
]

-- one call deeper: the longer beginning was searched, and the city is the next that was tried
pub one_more : (cities : CitiesModel) (beginning now after : Vec ℕ Global) (known before best : Tour) (x : ℕ) (more : List ℕ) →
    IsSearched cities beginning known now before x → more ≡ beginning.items ++ x ∷ [] → after.items ≡ beginning.items
    → vec_capacity after ≡ vec_capacity beginning →
    IsKnown cities best → IsAsGood (costs cities) best.cities.items before.cities.items →
    ((best.cities.items ≡ before.cities.items) ⊎ Continues more best.cities.items) →
    ((tour : List ℕ) → IsTour cities.count tour → Continues more tour → IsAsGood (costs cities) best.cities.items tour) →
    IsSearched cities beginning known after best (x + 1)
one_more cities beginning now after known before best x more is e items room known_is good from searched = record {
  kept = items;
  room = room;
  tour = known_is;
  good = good_on (costs cities) best.cities.items before.cities.items known.cities.items good is.good;
  from = elim from [
    | inl same ↦ elim is.from [
      | inl first ↦ inl (same ∙ first)
      | inr on ↦ inr (on.0, same ∙ on.1)
    ]
    | inr on ↦ inr (x ∷ on.0, on.1 ∙ ap (λ l. l ++ on.0) e ∙ append_assoc beginning.items (x ∷ []) on.0)
  ];
  tried = λ y below tour of on. elim (cases_eq y x) [
    | inl same ↦ searched tour of (subst (λ l. Continues l tour) (ap (λ k. beginning.items ++ k ∷ []) same ∙ sym e) on)
    | inr other ↦ good_on (costs cities) best.cities.items before.cities.items tour good (is.tried y (omega arith) tour of on)
  ];
}
