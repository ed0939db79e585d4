-- The tests on a grid say what the definitions say.
use Rattle.std.proofs.Common.{◌≡◌, ◌≢◌, ◌<◌, ◌≤◌, ℕ, zero, suc, true, false, ◌&&◌, not, length, get_or, Option, Some, None, refl, sym, ap}
use Rattle.std.proofs.Common.{◌∙◌, inl, inr, arith, eqb, ltb, ◌↔◌, IsTrue, subst, Bool}
use Rattle.std.proofs.lemmas.Bool.{cases_eq, cases_order, eqb-true, eqb-false, eq-eqb, ne_eqb, and_parts, and_from, and_cases, cond_both}
use Rattle.std.proofs.lemmas.Bool.{ltb-true, ltb-false, not-true, not_from_false}
use Rattle.sudoku_law.specs.Grid.{Cells, any_below, fewest_below, fewest, fewer, choices, shares, clash, conflict, HasConflict, IsBlank}
use Rattle.sudoku_law.specs.Grid.{IsFewest}
use Rattle.sudoku_law.proofs.Below.{any_from, any_gives, fewest_is_none}

-- what a clash of two cells is
abbrev IsClash : ℕ → Cells → ℕ → ℕ → Type 0
IsClash m g i j = IsTrue (shares m i j) × (get_or g i 0 ≡ get_or g j 0) × (get_or g i 0 ≢ 0)

clash_gives : (m : ℕ) (g : Cells) (i j : ℕ) → clash m g i j ≡ true → IsClash m g i j
clash_gives m g i j test =
    let same : Bool = eqb (get_or g i 0) (get_or g j 0) in
    let blank : Bool = eqb (get_or g i 0) 0 in
    let two : ((shares m i j && same) ≡ true) × (not blank ≡ true) = and_parts (shares m i j && same) (not blank) test in
    let share : (shares m i j ≡ true) × (same ≡ true) = and_parts (shares m i j) same two.0 in
    (share.0, eqb-true _ _ share.1, eqb-false _ _ (not-true blank two.1))

clash_from : (m : ℕ) (g : Cells) (i j : ℕ) → IsClash m g i j → clash m g i j ≡ true
clash_from m g i j (share, same, filled) =
    and_from (shares m i j && eqb (get_or g i 0) (get_or g j 0)) (not (eqb (get_or g i 0) 0))
    (and_from (shares m i j) (eqb (get_or g i 0) (get_or g j 0)) share (eq-eqb _ _ same))
    (not_from_false (eqb (get_or g i 0) 0) (ne_eqb _ _ filled))

conflict_gives : (m : ℕ) (g : Cells) → conflict m g ≡ true → HasConflict m g
conflict_gives m g test =
    let outer = any_gives (length g) (λ i. any_below i (λ j. clash m g i j)) test in
    let inner = any_gives outer.0 (λ j. clash m g outer.0 j) outer.2 in
    let is : IsClash m g outer.0 inner.0 = clash_gives m g outer.0 inner.0 inner.2 in
    (outer.0, inner.0, inner.1, outer.1, is.0, is.1, is.2)

conflict_from : (m : ℕ) (g : Cells) → HasConflict m g → conflict m g ≡ true
conflict_from m g (i, j, before, within, share, same, filled) =
    any_from (length g) (λ a. any_below a (λ b. clash m g a b)) i within
    (any_from i (λ b. clash m g i b) j before (clash_from m g i j (share, same, filled)))

-- the test for a conflict says that there is one
pub conflict_exact : (m : ℕ) (g : Cells) → (conflict m g ≡ true) ↔ HasConflict m g
conflict_exact m g = (conflict_gives m g, conflict_from m g)

-- of the blank cells below n, this one has the fewest candidates, and is the first that has
record IsFewestBelow (m : ℕ) (g : Cells) (n cell : ℕ) : Type 0 where
  pub within : cell < n
  pub blank : get_or g cell 0 ≡ 0
  pub least : (other : ℕ) → other < n → get_or g other 0 ≡ 0 → choices m g cell ≤ choices m g other
  pub first : (other : ℕ) → other < cell → get_or g other 0 ≡ 0 → choices m g cell < choices m g other

-- what is chosen of the cells below n
abbrev Chosen : ℕ → Cells → ℕ → Option ℕ → Type 0
Chosen m g n None = (k : ℕ) → k < n → get_or g k 0 ≢ 0
Chosen m g n (Some cell) = IsFewestBelow m g n cell

no_more : {a b : ℕ} → a ≡ b → b ≤ a
no_more e = omega arith

first_chosen : (m : ℕ) (g : Cells) (n : ℕ) → Chosen m g n None → get_or g n 0 ≡ 0 → IsFewestBelow m g (suc n) n
first_chosen m g n none blank = record {
  within = omega arith;
  blank = blank;
  least = λ other below empty. elim (cases_eq other n) [
    | inl same ↦ no_more (ap (λ k. choices m g k) same)
    | inr differs ↦ absurd (none other (omega arith) empty)
  ];
  first = λ other below empty. absurd (none other below empty);
}

none_still : (m : ℕ) (g : Cells) (n : ℕ) → Chosen m g n None → get_or g n 0 ≢ 0 → Chosen m g (suc n) None
none_still m g n none filled k below = elim (cases_eq k n) [
  | inl same ↦ λ empty. filled (ap (λ x. get_or g x 0) (sym same) ∙ empty)
  | inr differs ↦ none k (omega arith)
]

-- the new cell has fewer
newly_chosen : (m : ℕ) (g : Cells) (n c : ℕ) → IsFewestBelow m g n c → get_or g n 0 ≡ 0 → choices m g n < choices m g c
    → IsFewestBelow m g (suc n) n
newly_chosen m g n c is blank less = record {
  within = omega arith;
  blank = blank;
  least = λ other below empty. elim (cases_eq other n) [
    | inl same ↦ no_more (ap (λ k. choices m g k) same)
    | inr differs ↦ weaker less (is.least other (omega arith) empty)
  ];
  first = λ other below empty. joined less (is.least other below empty);
}
  where
    joined : {a b c : ℕ} → a < b → b ≤ c → a < c
    joined p q = omega arith

    weaker : {a b c : ℕ} → a < b → b ≤ c → a ≤ c
    weaker p q = omega arith

-- the new cell is not blank or has no fewer
still_chosen : (m : ℕ) (g : Cells) (n c : ℕ) → IsFewestBelow m g n c → (get_or g n 0 ≡ 0 → choices m g c ≤ choices m g n)
    → IsFewestBelow m g (suc n) c
still_chosen m g n c is more = record {
  within = omega (arith, is.within);
  blank = is.blank;
  least = λ other below empty. elim (cases_eq other n) [
    | inl same ↦ subst (λ k. choices m g c ≤ choices m g k) (sym same) (more (ap (λ k. get_or g k 0) (sym same) ∙ empty))
    | inr differs ↦ is.least other (omega arith) empty
  ];
  first = is.first;
}

no_fewer : (m : ℕ) (g : Cells) (n c : ℕ) → (eqb (get_or g n 0) 0 && ltb (choices m g n) (choices m g c)) ≡ false → get_or g n 0 ≡ 0
    → choices m g c ≤ choices m g n
no_fewer m g n c test blank = elim (and_cases (eqb (get_or g n 0) 0) (ltb (choices m g n) (choices m g c)) test) [
  | inl filled ↦ absurd (eqb-false (get_or g n 0) 0 filled blank)
  | inr less ↦ ltb-false (choices m g n) (choices m g c) less
]

chosen_more : (m : ℕ) (g : Cells) (n : ℕ) (prev : Option ℕ) → Chosen m g n prev → Chosen m g (suc n) (fewer m g n prev)
chosen_more m g n None none =
    cond_both (eqb (get_or g n 0) 0) (Some n) None (λ o. Chosen m g (suc n) o)
    (λ t. first_chosen m g n none (eqb-true (get_or g n 0) 0 t))
    (λ f. none_still m g n none (eqb-false (get_or g n 0) 0 f))
chosen_more m g n (Some c) is =
    cond_both (eqb (get_or g n 0) 0 && ltb (choices m g n) (choices m g c)) (Some n) (Some c) (λ o. Chosen m g (suc n) o)
    (λ t.
    let two : (eqb (get_or g n 0) 0 ≡ true) × (ltb (choices m g n) (choices m g c) ≡ true) =
    and_parts (eqb (get_or g n 0) 0) (ltb (choices m g n) (choices m g c)) t in
    newly_chosen m g n c is (eqb-true (get_or g n 0) 0 two.0) (ltb-true (choices m g n) (choices m g c) two.1))
    (λ f. still_chosen m g n c is (no_fewer m g n c f))

chosen : (m : ℕ) (g : Cells) (n : ℕ) → Chosen m g n (fewest_below m g n)
unfolding fewest_below
chosen m g zero = λ k below. absurd (omega arith)
chosen m g (suc n) = chosen_more m g n (fewest_below m g n) (chosen m g n)

-- the chosen cell is the first blank one with the fewest candidates
pub fewest_is : (m : ℕ) (g : Cells) (cell : ℕ) → fewest m g ≡ Some cell → IsFewest m g cell
fewest_is m g cell e =
    let is : IsFewestBelow m g (length g) cell = subst (λ o. Chosen m g (length g) o) e (chosen m g (length g)) in
    record {
      blank = record { within = is.within; blank = is.blank };
      least = λ other empty. is.least other empty.within empty.blank;
      first = λ other empty before. is.first other before empty.blank;
    }

-- there is one such cell at most
one_fewest : (m : ℕ) (g : Cells) (a b : ℕ) → IsFewest m g a → IsFewest m g b → a ≡ b
one_fewest m g a b is_a is_b = elim (cases_order a b) [
  | inl same ↦ same
  | inr (inl less) ↦ absurd (never (is_a.least b is_b.blank) (is_b.first a is_a.blank less))
  | inr (inr more) ↦ absurd (never (is_b.least a is_a.blank) (is_a.first b is_b.blank more))
]
  where
    never : {x y : ℕ} → x ≤ y → y < x → ⊥
    never p q = omega arith

-- the first blank cell with the fewest candidates is chosen
pub fewest_from : (m : ℕ) (g : Cells) (cell : ℕ) → IsFewest m g cell → fewest m g ≡ Some cell
fewest_from m g cell is = at (fewest m g) refl
  where
    at : (o : Option ℕ) → fewest m g ≡ o → fewest m g ≡ Some cell
    at None e = absurd (fewest_is_none m g cell e is.blank.within is.blank.blank)
    at (Some c) e = e ∙ ap (λ k. Some k) (one_fewest m g c cell (fewest_is m g c e) is)

-- the chosen cell is the first blank one with the fewest candidates
pub fewest_exact : (m : ℕ) (g : Cells) (cell : ℕ) → (fewest m g ≡ Some cell) ↔ IsFewest m g cell
fewest_exact m g cell = (fewest_is m g cell, fewest_from m g cell)

none_from : (m : ℕ) (g : Cells) → ((cell : ℕ) → IsBlank g cell → ⊥) → fewest m g ≡ None
none_from m g none = at (fewest m g) refl
  where
    at : (o : Option ℕ) → fewest m g ≡ o → fewest m g ≡ None
    at None e = e
    at (Some c) e = absurd (none c (fewest_is m g c e).blank)

-- no cell is chosen exactly if no cell is blank
pub none_exact : (m : ℕ) (g : Cells) → (fewest m g ≡ None) ↔ ((cell : ℕ) → IsBlank g cell → ⊥)
none_exact m g = (λ e cell blank. fewest_is_none m g cell e blank.within blank.blank, none_from m g)
