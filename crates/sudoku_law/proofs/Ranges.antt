-- Sums over the numbers below a bound, and how many of them pass a test.
use Rattle.std.proofs.Common.{◌≡◌, ◌≢◌, ◌<◌, ◌≤◌, ℕ, zero, suc, ◌+◌, ◌*◌, Bool, true, false, cond, refl, sym, ap, ◌∙◌, inl, inr, arith, eqb}
use Rattle.std.proofs.Common.{add-zero, mul-add}
use Rattle.std.proofs.lemmas.Bool.{cases_eq, cases_Bool, eq-eqb, ne_eqb, false_from_ne_true}
use Rattle.sudoku_law.specs.Grid.{how_many}

-- the sum of a function over the numbers below n
unfoldable pub sum_to : ℕ → (ℕ → ℕ) → ℕ
sum_to zero f = 0
sum_to (suc n) f = sum_to n f + f n

-- 1 where a test passes
abbrev pub one_if : Bool → ℕ
one_if b = cond b 1 0

-- how many numbers pass a test is a sum of 0 and 1
pub how_many_is : (n : ℕ) (p : ℕ → Bool) → how_many n p ≡ sum_to n (λ k. one_if (p k))
unfolding how_many sum_to
how_many_is zero p = refl
how_many_is (suc n) p = rw (how_many_is n p) refl

-- sums of equal terms are equal
pub sum_to_same : (n : ℕ) (f h : ℕ → ℕ) → ((k : ℕ) → k < n → f k ≡ h k) → sum_to n f ≡ sum_to n h
unfolding sum_to
sum_to_same zero f h same = refl
sum_to_same (suc n) f h same =
    let rest : sum_to n f ≡ sum_to n h = sum_to_same n f h (λ k less. same k (omega arith)) in
    omega (arith, rest, same n (omega arith))

-- a sum of sums
pub sum_to_both : (n : ℕ) (f h : ℕ → ℕ) → sum_to n (λ k. f k + h k) ≡ sum_to n f + sum_to n h
unfolding sum_to
sum_to_both zero f h = refl
sum_to_both (suc n) f h = omega (arith, sum_to_both n f h)

-- a sum of multiples
pub sum_to_scaled : (n c : ℕ) (f : ℕ → ℕ) → sum_to n (λ k. c * f k) ≡ c * sum_to n f
unfolding sum_to
sum_to_scaled zero c f = omega arith
sum_to_scaled (suc n) c f = rw (sum_to_scaled n c f) (sym (mul-add c (sum_to n f) (f n)))

-- a sum of one number again and again
pub sum_to_const : (n c : ℕ) → sum_to n (λ k. c) ≡ n * c
unfolding sum_to
sum_to_const zero c = omega arith
sum_to_const (suc n) c = rw (sum_to_const n c) (grind arith)

-- a sum of zeros
pub sum_to_none : (n : ℕ) (f : ℕ → ℕ) → ((k : ℕ) → k < n → f k ≡ 0) → sum_to n f ≡ 0
unfolding sum_to
sum_to_none zero f none = refl
sum_to_none (suc n) f none =
    let rest : sum_to n f ≡ 0 = sum_to_none n f (λ k less. none k (omega arith)) in
    omega (arith, none n (omega arith))

-- the two sums of a double sum change places
pub sum_to_turned : (a b : ℕ) (f : ℕ → ℕ → ℕ) → sum_to a (λ i. sum_to b (λ j. f i j)) ≡ sum_to b (λ j. sum_to a (λ i. f i j))
unfolding sum_to
sum_to_turned zero b f = sym (sum_to_none b (λ j. 0) (λ k less. refl))
sum_to_turned (suc a) b f = rw (sum_to_turned a b f) (sym (sum_to_both b (λ j. sum_to a (λ i. f i j)) (λ j. f a j)))

-- a range is its front and what comes after it
pub sum_to_split : (a b : ℕ) (f : ℕ → ℕ) → sum_to (a + b) f ≡ sum_to a f + sum_to b (λ k. f (a + k))
unfolding sum_to
sum_to_split a zero f = rw (add-zero a) (omega arith)
sum_to_split a (suc b) f =
    let e : a + suc b ≡ suc (a + b) = omega arith in
    rw e (omega (arith, sum_to_split a b f))

-- a range of a * b numbers is a rows of b
pub sum_to_rows : (a b : ℕ) (f : ℕ → ℕ) → sum_to (a * b) f ≡ sum_to a (λ r. sum_to b (λ c. f (r * b + c)))
unfolding sum_to
sum_to_rows zero b f = let e : 0 * b ≡ 0 = omega arith in rw e refl
sum_to_rows (suc a) b f =
    let e : suc a * b ≡ a * b + b = grind arith in
    rw (e, sum_to_split (a * b) b f, sum_to_rows a b f) refl

-- a sum with one term that is not 0
pub sum_to_one : (n u : ℕ) (f : ℕ → ℕ) → u < n → ((k : ℕ) → k < n → k ≢ u → f k ≡ 0) → sum_to n f ≡ f u
unfolding sum_to
sum_to_one zero u f within others = absurd (omega arith)
sum_to_one (suc n) u f within others = elim (cases_eq u n) [
  | inl same ↦
      let rest : sum_to n f ≡ 0 = sum_to_none n f (λ k less. others k (omega arith) (λ e. omega arith)) in
      rw (rest, same) (omega arith)
  | inr differs ↦
      let rest : sum_to n f ≡ f u = sum_to_one n u f (omega arith) (λ k less e. others k (omega arith) e) in
      omega (arith, others n (omega arith) (λ e. differs (sym e)))
]

-- how many of the numbers below n are u
pub sum_to_is : (n u : ℕ) → u < n → sum_to n (λ k. one_if (eqb k u)) ≡ 1
sum_to_is n u within =
    sum_to_one n u (λ k. one_if (eqb k u)) within (λ k less differs. ap one_if (ne_eqb k u differs)) ∙ ap one_if (eq-eqb u u refl)

-- a sum of numbers of at most 1 is at most how many there are
pub sum_to_at_most : (n : ℕ) (f : ℕ → ℕ) → ((k : ℕ) → k < n → f k ≤ 1) → sum_to n f ≤ n
unfolding sum_to
sum_to_at_most zero f few = omega arith
sum_to_at_most (suc n) f few =
    let rest : sum_to n f ≤ n = sum_to_at_most n f (λ k less. few k (omega arith)) in
    omega (arith, few n (omega arith))

-- n terms of at most 1 that add up to n are 1 each
pub each_is_one : (n k : ℕ) (f : ℕ → ℕ) → ((k : ℕ) → k < n → f k ≤ 1) → sum_to n f ≡ n → k < n → f k ≡ 1
unfolding sum_to
each_is_one zero k f few total within = absurd (omega arith)
each_is_one (suc n) k f few total within =
    let rest : sum_to n f ≤ n = sum_to_at_most n f (λ j less. few j (omega arith)) in
    let last : f n ≤ 1 = few n (omega arith) in
    elim (cases_eq k n) [
      | inl same ↦ rw same (omega arith)
      | inr differs ↦ each_is_one n k f (λ j less. few j (omega arith)) (omega arith) (omega arith)
    ]

-- a number that passes is counted
pub one_counted : (n i : ℕ) (p : ℕ → Bool) → i < n → p i ≡ true → 1 ≤ how_many n p
unfolding how_many
one_counted zero i p within passes = absurd (omega arith)
one_counted (suc n) i p within passes = elim (cases_eq i n) [
  | inl same ↦ let here : p n ≡ true = ap p (sym same) ∙ passes in rw here (omega arith)
  | inr differs ↦ let rest : 1 ≤ how_many n p = one_counted n i p (omega arith) passes in omega arith
]

-- two numbers that pass are two
pub two_counted : (n i j : ℕ) (p : ℕ → Bool) → j < i → i < n → p i ≡ true → p j ≡ true → 2 ≤ how_many n p
unfolding how_many
two_counted zero i j p before within first second = absurd (omega arith)
two_counted (suc n) i j p before within first second = elim (cases_eq i n) [
  | inl same ↦
      let here : p n ≡ true = ap p (sym same) ∙ first in
      let rest : 1 ≤ how_many n p = one_counted n j p (omega arith) second in
      rw here (omega arith)
  | inr differs ↦ let rest : 2 ≤ how_many n p = two_counted n i j p before (omega arith) first second in omega arith
]

-- where nothing passes
pub none_counted : (n : ℕ) (p : ℕ → Bool) → ((i : ℕ) → i < n → p i ≡ false) → how_many n p ≡ 0
unfolding how_many
none_counted zero p none = refl
none_counted (suc n) p none = rw (none n (omega arith), none_counted n p (λ i less. none i (omega arith))) refl

-- where no two numbers pass
pub few_counted : (n : ℕ) (p : ℕ → Bool) → ((i j : ℕ) → j < i → i < n → p i ≡ true → p j ≡ true → ⊥) → how_many n p ≤ 1
unfolding how_many
few_counted zero p never = omega arith
few_counted (suc n) p never = elim (cases_Bool (p n)) [
  | inl passes ↦
      let rest : how_many n p ≡ 0 = none_counted n p (λ j less. false_from_ne_true (p j) (λ t. never n j less (omega arith) passes t)) in
      rw passes (omega arith)
  | inr fails ↦
      let rest : how_many n p ≤ 1 = few_counted n p (λ i j before within. never i j before (omega arith)) in
      rw fails (omega arith)
]
