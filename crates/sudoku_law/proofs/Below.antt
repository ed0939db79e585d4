-- `any_below` and `fewest_below`: what they answer, and what one more number adds.
use Rattle.std.proofs.Common.{◌≡◌, ◌≢◌, ◌<◌, ◌≤◌, ℕ, zero, suc, ◌+◌, Bool, true, false, ◌&&◌, cond, length, get_or, Option, Some, None}
use Rattle.std.proofs.Common.{refl, sym, ap, ◌∙◌, inl, inr, ◌⊎◌, arith, eqb, ltb, add-one}
use Rattle.std.proofs.lemmas.Bool.{cases_eq, cases_Bool, or_cases, or_left, or_right, eqb-true, eq-eqb, and_parts}
use Rattle.sudoku_law.specs.Grid.{Cells, any_below, fewest_below, fewest, fewer, choices, IsBlank}

-- a number below n that passes makes the test true
pub any_from : (n : ℕ) (p : ℕ → Bool) (k : ℕ) → k < n → p k ≡ true → any_below n p ≡ true
unfolding any_below
any_from zero p k below passes = absurd (omega arith)
any_from (suc n) p k below passes = elim (cases_eq k n) [
  | inl same ↦ or_left (p n) (any_below n p) (ap p (sym same) ∙ passes)
  | inr differs ↦ or_right (p n) (any_below n p) (any_from n p k (omega arith) passes)
]

-- and where the test is true there is one
pub any_gives : (n : ℕ) (p : ℕ → Bool) → any_below n p ≡ true → (k : ℕ) × (k < n) × (p k ≡ true)
unfolding any_below
any_gives zero p h = absurd (cc)
any_gives (suc n) p h = elim (or_cases (p n) (any_below n p) h) [
  | inl here ↦ (n, omega arith, here)
  | inr later ↦ let r = any_gives n p later in (r.0, omega (arith, r.1), r.2)
]

-- if no number below passes, this one does not
pub none_of : (n : ℕ) (p : ℕ → Bool) (k : ℕ) → any_below n p ≡ false → k < n → p k ≡ false
none_of n p k none below = elim (cases_Bool (p k)) [
  | inl passes ↦ absurd (let e : any_below n p ≡ true = any_from n p k below passes in cc)
  | inr fails ↦ fails
]

-- if no number below passes and the next does not, no number up to it does
pub none_more : (n : ℕ) (p : ℕ → Bool) → any_below n p ≡ false → p n ≡ false → any_below (n + 1) p ≡ false
unfolding any_below
none_more n p none here = rw (add-one, here) none

-- if no number below passes, the test is false at the bound
pub none_past : (n i : ℕ) (p : ℕ → Bool) → n ≤ i → i ≤ n → any_below i p ≡ false → false ≡ any_below n p
none_past n i p past within none = let e : i ≡ n = omega arith in sym none ∙ ap (λ k. any_below k p) e

-- no number is below 0
pub none_at_first : (p : ℕ → Bool) → any_below 0 p ≡ false
unfolding any_below
none_at_first p = refl

-- one more number changes the choice, or leaves it
pub fewest_more : (m : ℕ) (g : Cells) (n : ℕ) → fewest_below m g (n + 1) ≡ fewer m g n (fewest_below m g n)
unfolding fewest_below
fewest_more m g n = rw add-one refl

-- among the numbers below 0 there is no choice
pub fewest_at_first : (m : ℕ) (g : Cells) → fewest_below m g 0 ≡ None
unfolding fewest_below
fewest_at_first m g = refl

-- a blank cell below n
record IsBlankBelow (g : Cells) (n cell : ℕ) : Type 0 where
  pub within : cell < n
  pub blank : get_or g cell 0 ≡ 0

cond_some : (b : Bool) (x y : Option ℕ) (cell : ℕ) → cond b x y ≡ Some cell
    → ((b ≡ true) × (x ≡ Some cell)) ⊎ ((b ≡ false) × (y ≡ Some cell))
cond_some true x y cell h = inl (refl, h)
cond_some false x y cell h = inr (refl, h)

blank_here : (g : Cells) (n cell : ℕ) → eqb (get_or g n 0) 0 ≡ true → Some n ≡ Some cell → IsBlankBelow g (suc n) cell
blank_here g n cell test same =
    let is : n ≡ cell = cc in
    record { within = omega arith; blank = ap (λ k. get_or g k 0) (sym is) ∙ eqb-true (get_or g n 0) 0 test }

later : (g : Cells) (n cell : ℕ) → IsBlankBelow g n cell → IsBlankBelow g (suc n) cell
later g n cell is = record { within = omega (arith, is.within); blank = is.blank }

fewer_blank : (m : ℕ) (g : Cells) (n cell : ℕ) (prev : Option ℕ) → ((c : ℕ) → prev ≡ Some c → IsBlankBelow g n c)
    → fewer m g n prev ≡ Some cell → IsBlankBelow g (suc n) cell
fewer_blank m g n cell None before h = elim (cond_some (eqb (get_or g n 0) 0) (Some n) None cell h) [
  | inl w ↦ blank_here g n cell w.0 w.1
  | inr w ↦ absurd (let e = w.1 in cc)
]
fewer_blank m g n cell (Some c) before h =
    elim (cond_some (eqb (get_or g n 0) 0 && ltb (choices m g n) (choices m g c)) (Some n) (Some c) cell h) [
      | inl w ↦ blank_here g n cell (and_parts (eqb (get_or g n 0) 0) _ w.0).0 w.1
      | inr w ↦ later g n cell (before cell w.1)
    ]

blank_below : (m : ℕ) (g : Cells) (n cell : ℕ) → fewest_below m g n ≡ Some cell → IsBlankBelow g n cell
unfolding fewest_below
blank_below m g zero cell h = absurd (cc)
blank_below m g (suc n) cell h = fewer_blank m g n cell (fewest_below m g n) (λ c e. blank_below m g n c e) h

-- the chosen cell is blank
pub fewest_is_blank : (m : ℕ) (g : Cells) (cell : ℕ) → fewest m g ≡ Some cell → IsBlank g cell
fewest_is_blank m g cell h = let is : IsBlankBelow g (length g) cell = blank_below m g (length g) cell h in
    record { within = is.within; blank = is.blank }

-- no cell is chosen only where this one is not blank and none was chosen before
fewer_none : (m : ℕ) (g : Cells) (n : ℕ) (prev : Option ℕ) → fewer m g n prev ≡ None → (prev ≡ None) × (get_or g n 0 ≢ 0)
fewer_none m g n None h =
    (refl, λ blank. let test : eqb (get_or g n 0) 0 ≡ true = eq-eqb (get_or g n 0) 0 blank in let e : Some n ≡ None = rw test at h in cc)
fewer_none m g n (Some c) h = absurd (never (eqb (get_or g n 0) 0 && ltb (choices m g n) (choices m g c)) n c h)
  where
    never : (b : Bool) (x y : ℕ) → cond b (Some x) (Some y) ≡ None → ⊥
    never true x y e = cc
    never false x y e = cc

none_below : (m : ℕ) (g : Cells) (n k : ℕ) → fewest_below m g n ≡ None → k < n → get_or g k 0 ≢ 0
unfolding fewest_below
none_below m g zero k h below = absurd (omega arith)
none_below m g (suc n) k h below =
    let w : (fewest_below m g n ≡ None) × (get_or g n 0 ≢ 0) = fewer_none m g n (fewest_below m g n) h in
    elim (cases_eq k n) [
      | inl same ↦ λ e. w.1 (ap (λ x. get_or g x 0) (sym same) ∙ e)
      | inr differs ↦ none_below m g n k w.0 (omega arith)
    ]

-- where none is chosen no cell is blank
pub fewest_is_none : (m : ℕ) (g : Cells) (k : ℕ) → fewest m g ≡ None → k < length g → get_or g k 0 ≢ 0
fewest_is_none m g k h below = none_below m g (length g) k h below
