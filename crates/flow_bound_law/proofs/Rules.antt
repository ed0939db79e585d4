-- The rules of a flow that were not put yet.
use Rattle.std.proofs.Common.{◌≡◌, ◌==◌, ◌≤◌, ◌+◌, ℕ, zero, suc, Bool, true, false, cond, List, [], ◌∷◌, ◌++◌, Contains, Some, refl, ap}
use Rattle.std.proofs.Common.{arith, inl, inr}
use Rattle.std.proofs.lemmas.Bool.{cases_eq, eq-eqb, ne_eqb}
use Rattle.std.proofs.lemmas.List.Sums.{sum_by-cons}
use Rattle.flow_law.specs.Flows.{Name}
use Rattle.flow_law.specs.declared.Definition.{Definition}
use Rattle.flow_law.specs.declared.Definition.TheVariants as defines
use Rattle.flow_law.specs.declared.Op.{Op}
use Rattle.flow_run_law.specs.Units.{IsRule}
use Rattle.work_law.proofs.Pieces.{one_if}
use Rattle.flow_bound_law.specs.Most.{is_rule, rule_count}

-- 1 if the number is not among these, and else 0
unfoldable pub fresh : ℕ → List ℕ → ℕ
fresh k [] = 1
fresh k (x ∷ xs) = cond (x == k) 0 (fresh k xs)

-- one number more leaves it less fresh
fresh_more : (k i : ℕ) (xs : List ℕ) → fresh k (xs ++ i ∷ []) ≤ fresh k xs
unfolding fresh
fresh_more k i [] = at (i == k)
  where
    at : (b : Bool) → cond b 0 1 ≤ 1
    at true = omega arith
    at false = omega arith
fresh_more k i (x ∷ xs) = at (x == k) (fresh_more k i xs)
  where
    at : (b : Bool) → fresh k (xs ++ i ∷ []) ≤ fresh k xs → cond b 0 (fresh k (xs ++ i ∷ [])) ≤ cond b 0 (fresh k xs)
    at true less = omega arith
    at false less = less

fresh_new : (k : ℕ) (xs : List ℕ) → (Contains xs k → ⊥) → fresh k xs ≡ 1
unfolding fresh
fresh_new k [] new = refl
fresh_new k (x ∷ xs) new = elim (cases_eq x k) [
  | inl same ↦ absurd (new (0, omega arith, same))
  | inr other ↦
      let e = ap (λ b. cond b 0 (fresh k xs)) (ne_eqb x k other) in
      let later = fresh_new k xs (λ there. new (suc there.0, omega (arith, there.1), there.2)) in
      omega (arith, e, later)
]

fresh_put : (k : ℕ) (xs : List ℕ) → fresh k (xs ++ k ∷ []) ≡ 0
unfolding fresh
fresh_put k [] = ap (λ b. cond b 0 1) (eq-eqb k k refl)
fresh_put k (x ∷ xs) = at (x == k) (fresh_put k xs)
  where
    at : (b : Bool) → fresh k (xs ++ k ∷ []) ≡ 0 → cond b 0 (fresh k (xs ++ k ∷ [])) ≡ 0
    at true later = refl
    at false later = later

-- how many rules of these definitions, which are numbered from k, are not among those that were put
unfoldable pub left : ℕ → List ℕ → List Definition → ℕ
left k put [] = 0
left k put (d ∷ flow) = cond (is_rule d) (fresh k put) 0 + left (k + 1) put flow

-- at the start all are left
pub all_left : (k : ℕ) (flow : List Definition) → left k [] flow ≡ rule_count flow
unfolding left fresh
all_left k [] = refl
all_left k (d ∷ flow) = omega (arith, all_left (k + 1) flow, sum_by-cons (one_if is_rule) d flow)

left_more : (k i : ℕ) (put : List ℕ) (flow : List Definition) → left k (put ++ i ∷ []) flow ≤ left k put flow
unfolding left
left_more k i put [] = omega arith
left_more k i put (d ∷ flow) =
    omega (arith, at (is_rule d) (fresh k (put ++ i ∷ [])) (fresh k put) (fresh_more k i put), left_more (k + 1) i put flow)
  where
    at : (b : Bool) (m n : ℕ) → m ≤ n → cond b m 0 ≤ cond b n 0
    at true m n less = less
    at false m n less = omega arith

-- a rule that is put for the first time is left no longer
pub one_less : (flow : List Definition) (k i j : ℕ) (put : List ℕ) (name : Name) (op : Op) (l r : Name) → IsRule flow i name op l r →
    j ≡ k + i → (Contains put j → ⊥) → left k (put ++ j ∷ []) flow + 1 ≤ left k put flow
unfolding left
one_less [] k i j put name op l r is at new = absurd (cc)
one_less (d ∷ flow) k zero j put name op l r is at new =
    let its : Some d ≡ Some (defines.Rule name op l r) = is in
    let same : d ≡ defines.Rule name op l r = cc in
    let here : j ≡ k = omega (arith, at) in
    let before : cond (is_rule d) (fresh k put) 0 ≡ fresh k put = ap (λ x. cond (is_rule x) (fresh k put) 0) same in
    let behind : cond (is_rule d) (fresh k (put ++ j ∷ [])) 0 ≡ fresh k (put ++ j ∷ []) =
    ap (λ x. cond (is_rule x) (fresh k (put ++ j ∷ [])) 0) same in
    let one = ap (λ x. fresh x put) here in
    let none = ap (λ x. fresh x (put ++ j ∷ [])) here in
    omega (arith, before, behind, one, none, fresh_new j put new, fresh_put j put, left_more (k + 1) j put flow)
one_less (d ∷ flow) k (suc i) j put name op l r is at new =
    omega (
      arith,
      first (is_rule d) (fresh k (put ++ j ∷ [])) (fresh k put) (fresh_more k j put),
      one_less flow (k + 1) i j put name op l r is (omega (arith, at)) new,
    )
  where
    first : (b : Bool) (m n : ℕ) → m ≤ n → cond b m 0 ≤ cond b n 0
    first true m n less = less
    first false m n less = omega arith
