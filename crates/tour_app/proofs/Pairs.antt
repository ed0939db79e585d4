-- The work on a pair.
use Rattle.std.proofs.Common.{◌≡◌, ◌<◌, ◌≤◌, ◌==◌, ◌&&◌, ℕ, zero, suc, Bool, true, false, not, cond, List, [], ◌∷◌, ◌++◌, length, Option}
use Rattle.std.proofs.Common.{Some, None, refl, sym, ap, ◌∙◌, subst, arith, ◌⊎◌, inl, inr}
use Rattle.std.specs.Prelude.{nat_le, nat_lt}
use Rattle.std.proofs.lemmas.Bool.{and_parts, eq-eqb, leb-true, ltb-true}
use Rattle.tour_law.specs.Tours.{Costs, IsTour, cost}
use Rattle.tour_law.specs.Search.{IsAsGood, is_better}
use Rattle.tour_law.specs.Beginnings.{Continues, IsBeginning}
use Rattle.tour_law.proofs.Beginnings.{longer}
use Rattle.tour_law.proofs.Enumerated.{pair_is}
use Rattle.tour_law.proofs.Once.{times, times-other}
use Rattle.tour_search.specs.Cities.{CitiesModel, IsKnown, costs as costs_in}
use Rattle.tour_search.specs.declared.tours.Tour.{Tour}
use Rattle.tour_search.proofs.Through.{two_begin}
use Rattle.tour_app.specs.Starts.{StartModel, costs}
use Rattle.tour_app.specs.Works.{answer_of, is_pair, pair_tour}
use Rattle.tour_app.specs.declared.units.TourUnit.{TourUnit}
use Rattle.tour_app.specs.declared.units.TourUnit.TheVariants.{Answer}

-- two cities that differ, neither of them city 0
pub record IsPair (n a b : ℕ) : Type 0 where
  pub a_some : 1 ≤ a
  pub a_below : a < n
  pub b_some : 1 ≤ b
  pub b_below : b < n
  pub other : a ≡ b → ⊥

-- cities that pass the test are a pair
pub pair_of_test : (n a b : ℕ) → is_pair n a b ≡ true → IsPair n a b
pair_of_test n a b e =
    let parts = and_parts ((nat_le 1 a && nat_lt a n) && (nat_le 1 b && nat_lt b n)) (not (a == b)) e in
    let both = and_parts (nat_le 1 a && nat_lt a n) (nat_le 1 b && nat_lt b n) parts.0 in
    let of_a = and_parts (nat_le 1 a) (nat_lt a n) both.0 in
    let of_b = and_parts (nat_le 1 b) (nat_lt b n) both.1 in
    record {
      a_some = leb-true 1 a of_a.0;
      a_below = ltb-true a n of_a.1;
      b_some = leb-true 1 b of_b.0;
      b_below = ltb-true b n of_b.1;
      other = λ same. let f : not (a == b) ≡ false = ap not (eq-eqb a b same) in let t = parts.1 in cc;
    }

-- city 0 and a pair
pub pair_begins : (n a b : ℕ) → is_pair n a b ≡ true → IsBeginning n (0 ∷ a ∷ b ∷ [])
pair_begins n a b e =
    let p = pair_of_test n a b e in
    let some = p.b_some in
    longer n (0 ∷ a ∷ []) b (two_begin n a p.a_some p.a_below) p.b_below
    (times-other 0 b (a ∷ []) (λ f. omega arith) ∙ times-other a b [] p.other)

-- what was found is the best of the first tour and of those that begin so
pub found_is : (s : StartModel) (a b : ℕ) (first best : Tour) → 1 ≤ s.cities.count → first.cities.items ≡ s.first → IsKnown s.cities best →
    IsAsGood (costs s) best.cities.items first.cities.items →
    ((best.cities.items ≡ first.cities.items) ⊎ Continues (0 ∷ a ∷ b ∷ []) best.cities.items) →
    ((tour : List ℕ) → IsTour s.cities.count tour → Continues (0 ∷ a ∷ b ∷ []) tour → IsAsGood (costs s) best.cities.items tour) →
    best.cities.items ≡ pair_tour s a b
found_is s a b first best some same known good from searched =
    pair_is s.cities.count (costs s) s.first a b some best.cities.items
    (elim from [ inl e ↦ inl (e ∙ same) | inr on ↦ inr on ]) known.tour
    (subst (IsAsGood (costs s) best.cities.items) same good) searched

-- the same of cities that are those of the start, and of a beginning that is that pair's
pub found_at : (s : StartModel) (m : CitiesModel) (begin : List ℕ) (a b : ℕ) (first best : Tour) → m ≡ s.cities → begin ≡ 0 ∷ a ∷ b ∷ [] →
    is_pair s.cities.count a b ≡ true → first.cities.items ≡ s.first → IsKnown m best →
    IsAsGood (costs_in m) best.cities.items first.cities.items →
    ((best.cities.items ≡ first.cities.items) ⊎ Continues begin best.cities.items) →
    ((tour : List ℕ) → IsTour m.count tour → Continues begin tour → IsAsGood (costs_in m) best.cities.items tour) →
    best.cities.items ≡ pair_tour s a b
found_at s m begin a b first best is begins pair same known good from searched =
    let p = pair_of_test s.cities.count a b pair in
    let some = p.a_some in let below = p.a_below in
    found_is s a b first best (omega (arith, some, below)) same (subst (λ (x : CitiesModel). IsKnown x best) is known)
    (subst (λ (x : CitiesModel). IsAsGood (costs_in x) best.cities.items first.cities.items) is good)
    (subst (λ (l : List ℕ). (best.cities.items ≡ first.cities.items) ⊎ Continues l best.cities.items) begins from)
    (λ tour of on. subst (λ (x : CitiesModel). IsAsGood (costs_in x) best.cities.items tour) is
    (searched tour (subst (λ (x : CitiesModel). IsTour x.count tour) (sym is) of)
    (subst (λ (l : List ℕ). Continues l tour) (sym begins) on)))

-- the answer of a pair
pub answer_is : (s : StartModel) (a b cost_found : ℕ) (tour : List ℕ) → tour ≡ pair_tour s a b → cost_found ≡ cost (costs s) tour →
    is_better (costs s) tour s.first ≡ true → Some (Answer cost_found tour) ≡ answer_of s a b
unfolding answer_of
answer_is s a b cost_found tour is price better =
    let made : ℕ → List ℕ → TourUnit = λ k t. Answer k t in
    let full : TourUnit = made (cost (costs s) (pair_tour s a b)) (pair_tour s a b) in
    ap (λ k. Some (made k tour)) (price ∙ ap (cost (costs s)) is) ∙ ap (λ t. Some (made (cost (costs s) (pair_tour s a b)) t)) is
    ∙ ap (λ t. cond t (Some full) None) (sym (sym (ap (λ t. is_better (costs s) t s.first) is) ∙ better))

-- if no tour of the pair is better than the first, it has no answer
pub no_answer : (s : StartModel) (a b : ℕ) (tour : List ℕ) → tour ≡ pair_tour s a b → is_better (costs s) tour s.first ≡ false →
    None ≡ answer_of s a b
unfolding answer_of
no_answer s a b tour is worse =
    let full : TourUnit = Answer (cost (costs s) (pair_tour s a b)) (pair_tour s a b) in
    ap (λ t. cond t (Some full) None) (sym (sym (ap (λ t. is_better (costs s) t s.first) is) ∙ worse))
