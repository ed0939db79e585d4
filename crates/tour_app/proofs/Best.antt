-- The best of the tours that were found is a least one.
use Rattle.std.proofs.Common.{◌≡◌, ◌<◌, ◌≤◌, ◌+◌, ℕ, zero, suc, Bool, true, false, cond, List, [], ◌∷◌, ◌++◌, length, drop, get_or}
use Rattle.std.proofs.Common.{Contains, All, Option, Some, None, Result, Ok, Err, IfOk, refl, sym, ap, ◌∙◌, subst, arith, inl, inr, ◌⊎◌}
use Rattle.std.proofs.lemmas.List.{drop_more}
use Rattle.std.proofs.lemmas.List.Elements.{All-head, All-tail}
use Rattle.tour_law.specs.Tours.{Costs, IsLeast, IsTour, cost}
use Rattle.tour_law.specs.Search.{IsAsGood, is_better}
use Rattle.tour_law.proofs.Orders.{good_itself, good_of_better, good_of_not, good_on, good_same}
use Rattle.tour_search.specs.Cities.{beats}
use Rattle.tour_app.specs.Output.{tour_text}
use Rattle.tour_app.specs.Found.{HoldLeast, all_found, best_from, better}
use Rattle.tour_app.specs.declared.outcomes.TourOutcome.{TourOutcome}

-- the best of two lists is the best of the second from that of the first on
pub best_append : (best : Option (ℕ × List ℕ)) (xs ys : List (ℕ × List ℕ)) → best_from best (xs ++ ys) ≡ best_from (best_from best xs) ys
best_append best [] ys = refl
best_append best (x ∷ xs) ys = best_append (better best x) xs ys

-- a tour with its cost
abbrev IsCosted : ℕ → Costs → ℕ × List ℕ → Type 0
IsCosted n c f = IsTour n f.1 × (f.0 ≡ cost c f.1)

-- a costed tour that is as good as all of these and as `known`
record IsBestOf (n : ℕ) (c : Costs) (known : ℕ × List ℕ) (found : List (ℕ × List ℕ)) (o : Option (ℕ × List ℕ)) : Type 0 where
  f : ℕ × List ℕ
  is : o ≡ Some f
  costed : IsCosted n c f
  good : IsAsGood c f.1 known.1
  each : (x : ℕ × List ℕ) → Contains found x → IsAsGood c f.1 x.1

none_there : {X : Type 0} (x : X) → Contains [] x → ⊥
none_there x there = omega (arith, there.1)

head_cases : {X : Type 0} (y x : X) (xs : List X) → Contains (y ∷ xs) x → (y ≡ x) ⊎ Contains xs x
head_cases {X} y x xs there = at there.0 there.1 there.2
  where
    at : (k : ℕ) → k < suc (length xs) → get_or (y ∷ xs) k x ≡ x → (y ≡ x) ⊎ Contains xs x
    at zero below is = inl is
    at (suc k) below is = inr (k, omega arith, is)

-- the better of two costed tours
record IsBetterOf (n : ℕ) (c : Costs) (b f : ℕ × List ℕ) (o : Option (ℕ × List ℕ)) : Type 0 where
  g : ℕ × List ℕ
  is : o ≡ Some g
  costed : IsCosted n c g
  old : IsAsGood c g.1 b.1
  new : IsAsGood c g.1 f.1

better_is : (n : ℕ) (c : Costs) (b f : ℕ × List ℕ) → IsCosted n c b → IsCosted n c f → IsBetterOf n c b f (better (Some b) f)
better_is n c b f of_b of_f = at (beats f.0 f.1 b.0 b.1) refl
  where
    same : beats f.0 f.1 b.0 b.1 ≡ is_better c f.1 b.1
    same = ap (λ x. beats x f.1 b.0 b.1) of_f.1 ∙ ap (λ x. beats (cost c f.1) f.1 x b.1) of_b.1

    at : (t : Bool) → t ≡ beats f.0 f.1 b.0 b.1 → IsBetterOf n c b f (cond t (Some f) (Some b))
    at true e = record {
      g = f;
      is = refl;
      costed = of_f;
      old = good_of_better c f.1 b.1 (sym same ∙ sym e);
      new = good_itself c f.1;
    }
    at false e = record {
      g = b;
      is = refl;
      costed = of_b;
      old = good_itself c b.1;
      new = good_of_not c f.1 b.1 (sym same ∙ sym e);
    }

best_of_some : (n : ℕ) (c : Costs) (b : ℕ × List ℕ) (found : List (ℕ × List ℕ)) → IsCosted n c b → All (IsCosted n c) found →
    IsBestOf n c b found (best_from (Some b) found)
best_of_some n c b [] of_b all = record {
  f = b;
  is = refl;
  costed = of_b;
  good = good_itself c b.1;
  each = λ x there. absurd (none_there x there);
}
best_of_some n c b (x ∷ found) of_b all =
    let m = better_is n c b x of_b (All-head (IsCosted n c) x found all) in
    let later = best_of_some n c m.g found m.costed (All-tail (IsCosted n c) x found all) in
    record {
      f = later.f;
      is = ap (λ o. best_from o found) m.is ∙ later.is;
      costed = later.costed;
      good = good_on c later.f.1 m.g.1 b.1 later.good m.old;
      each = λ y there. elim (head_cases x y found there) [
        | inl same ↦ subst (λ (z : ℕ × List ℕ). IsAsGood c later.f.1 z.1) same (good_on c later.f.1 m.g.1 x.1 later.good m.new)
        | inr in' ↦ later.each y in'
      ];
    }

-- a least tour was picked
pub record IsPicked (n : ℕ) (c : Costs) (o : Option (ℕ × List ℕ)) : Type 0 where
  pub tour : List ℕ
  pub least : IsLeast n c tour
  pub is : o ≡ Some (cost c tour, tour)

least_good : (n : ℕ) (c : Costs) (a b : List ℕ) → IsLeast n c a → IsTour n b → IsAsGood c a b
least_good n c a b is of = record { cheap = is.cheapest b of; first = is.first b of }

-- the best of what holds a least tour is a least tour
pub picks_least : (n : ℕ) (c : Costs) (found : List (ℕ × List ℕ)) → HoldLeast n c found → IsPicked n c (best_from None found)
picks_least n c [] hold = absurd (none_there (cost c hold.least, hold.least) hold.there)
picks_least n c (x ∷ found) hold =
    let b = best_of_some n c x found (All-head (IsCosted n c) x found hold.tours) (All-tail (IsCosted n c) x found hold.tours) in
    let good : IsAsGood c b.f.1 hold.least = elim (head_cases x (cost c hold.least, hold.least) found hold.there) [
      | inl same ↦ subst (λ (z : ℕ × List ℕ). IsAsGood c b.f.1 z.1) same b.good
      | inr in' ↦ b.each (cost c hold.least, hold.least) in'
    ] in
    let one : b.f.1 ≡ hold.least = good_same c b.f.1 hold.least good (least_good n c hold.least b.f.1 hold.is b.costed.0) in
    let pair : (k : ℕ) (t : List ℕ) → ℕ × List ℕ = λ k t. (k, t) in
    record {
      tour = hold.least;
      least = hold.is;
      is = b.is ∙ ap (λ k. Some (pair k b.f.1)) (b.costed.1 ∙ ap (cost c) one) ∙ ap (λ t. Some (pair (cost c hold.least) t)) one;
    }

-- what holds a least tour has a best
pub no_pick : (n : ℕ) (c : Costs) (found : List (ℕ × List ℕ)) → HoldLeast n c found → None ≡ best_from None found → ⊥
no_pick n c found hold none =
    let p = picks_least n c found hold in
    let bad : None ≡ Some (cost c p.tour, p.tour) = none ∙ p.is in
    cc

some_first : (a b : ℕ × List ℕ) → Some a ≡ Some b → a ≡ b
some_first a b e = cc

-- the text of the tour that was picked tells a least one
pub told_by : {V E : Type 0} (items : V → List ℕ) (n : ℕ) (c : Costs) (found : List (ℕ × List ℕ)) (price : ℕ) (tour : List ℕ) (count : ℕ)
    (shown : List ℕ) (r : Result V E) → HoldLeast n c found → Some (price, tour) ≡ best_from None found → count ≡ n → shown ≡ tour →
    IfOk r (λ text. items text ≡ tour_text count price shown) →
    IfOk r (λ text. (t : List ℕ) × IsLeast n c t × (items text ≡ tour_text n (cost c t) t))
told_by items n c found price tour count shown (Err e) hold is count_is same text_is = tt
told_by items n c found price tour count shown (Ok text) hold is count_is same text_is =
    let p = picks_least n c found hold in
    let e = some_first (price, tour) (cost c p.tour, p.tour) (is ∙ p.is) in (
      p.tour,
      p.least,
      text_is ∙ ap (λ k. tour_text k price shown) count_is ∙ ap (tour_text n price) same
          ∙ ap (λ k. tour_text n k tour) (ap (λ (x : ℕ × List ℕ). x.0) e)
          ∙ ap (tour_text n (cost c p.tour)) (ap (λ (x : ℕ × List ℕ). x.1) e),
    )

-- one tour more
pub next_best : (o new all : Option (ℕ × List ℕ)) (found : List (ℕ × List ℕ)) (i : ℕ) (x : ℕ × List ℕ) → i < length found →
    x ≡ get_or found i x → best_from o (drop i found) ≡ all → new ≡ better o x → best_from new (drop (i + 1) found) ≡ all
next_best o new all found i x below at is e =
    ap (λ z. best_from z (drop (i + 1) found)) (e ∙ ap (better o) at) ∙ sym (ap (best_from o) (drop_more found i x below)) ∙ is

-- one outcome more
pub next_outcome : (o new all : Option (ℕ × List ℕ)) (outcomes : List TourOutcome) (i : ℕ) (x : TourOutcome) → i < length outcomes →
    x ≡ get_or outcomes i x → best_from o (all_found (drop i outcomes)) ≡ all → new ≡ best_from o x.found.items →
    best_from new (all_found (drop (i + 1) outcomes)) ≡ all
next_outcome o new all outcomes i x below at is e =
    ap (λ z. best_from z (all_found (drop (i + 1) outcomes))) (e ∙ ap (λ (y : TourOutcome). best_from o y.found.items) at)
    ∙ sym (best_append o (get_or outcomes i x).found.items (all_found (drop (i + 1) outcomes)))
    ∙ sym (ap (λ l. best_from o (all_found l)) (drop_more outcomes i x below)) ∙ is
