-- Laws of the test that some number below n passes.
use Rattle.std.proofs.Common.{◌≡◌, ℕ, zero, suc, Bool, true, false, ◌&&◌, ◌||◌, refl, sym, ap, ◌∙◌, eqb, inl, inr}
use Rattle.std.proofs.lemmas.Bool.{cases_eq, eq-eqb, ne_eqb}
use Rattle.sudoku_law.specs.Grid.{any_below}

-- a test together with what is true is the test
pub and_true : (a : Bool) → (a && true) ≡ a
and_true true = refl
and_true false = refl

-- equality of numbers goes both ways
pub eqb_comm : (a b : ℕ) → eqb a b ≡ eqb b a
eqb_comm a b = elim (cases_eq a b) [
  | inl same ↦ eq-eqb a b same ∙ sym (eq-eqb b a (sym same))
  | inr other ↦ ne_eqb a b other ∙ sym (ne_eqb b a (λ e. other (sym e)))
]

-- if each number fails, none below `n` passes
pub any_none : (n : ℕ) (p : ℕ → Bool) → ((k : ℕ) → p k ≡ false) → any_below n p ≡ false
unfolding any_below
any_none zero p off = refl
any_none (suc n) p off = rw (off n) (any_none n p off)

-- the same test at each number gives the same answer
pub any_same : (n : ℕ) (p q : ℕ → Bool) → ((k : ℕ) → p k ≡ q k) → any_below n p ≡ any_below n q
unfolding any_below
any_same zero p q same = refl
any_same (suc n) p q same = rw (same n, any_same n p q same) refl

regroup : (a b x y : Bool) → ((a || b) || (x || y)) ≡ ((a || x) || (b || y))
regroup true b x y = refl
regroup false true true y = refl
regroup false true false y = refl
regroup false false x y = refl

-- some number passes one of two tests exactly if one passes the first or one the second
pub any_or : (n : ℕ) (p q : ℕ → Bool) → any_below n (λ k. p k || q k) ≡ (any_below n p || any_below n q)
unfolding any_below
any_or zero p q = refl
any_or (suc n) p q = rw (any_or n p q) (regroup (p n) (q n) (any_below n p) (any_below n q))

share_out : (a b q : Bool) → ((a || b) && q) ≡ ((a && q) || (b && q))
share_out true b true = refl
share_out true true false = refl
share_out true false false = refl
share_out false b q = refl

-- what passes one of three tests, and a fourth
pub any_of_three : (n : ℕ) (a b c q : ℕ → Bool)
    → any_below n (λ k. (a k || b k || c k) && q k) ≡
    (any_below n (λ k. a k && q k) || any_below n (λ k. b k && q k) || any_below n (λ k. c k && q k))
any_of_three n a b c q =
    any_same n (λ k. (a k || b k || c k) && q k) (λ k. ((a k && q k) || (b k && q k)) || (c k && q k))
    (λ k. share_out (a k || b k) (c k) (q k) ∙ ap (λ x. x || (c k && q k)) (share_out (a k) (b k) (q k)))
    ∙ any_or n (λ k. (a k && q k) || (b k && q k)) (λ k. c k && q k)
    ∙ ap (λ x. x || any_below n (λ k. c k && q k)) (any_or n (λ k. a k && q k) (λ k. b k && q k))
