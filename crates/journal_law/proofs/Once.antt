-- There is one merge.
use Rattle.std.proofs.Common.{◌≡◌, ◌<◌, ◌⊎◌, ℕ, Bool, true, false, cond, eqb, List, [], ◌∷◌, refl, sym, ap, ap₂, ◌∙◌, subst, inl, inr}
use Rattle.std.proofs.Common.{arith, eq-eqb, eqb-true}
use Rattle.std.specs.List.{AllByRecursion as Each}
use Rattle.journal_law.specs.Orders.{of_actor, IsBefore, IsInOrder, IsMerged}
use Rattle.journal_law.proofs.Compose.{each_weaker}

-- what holds of each element holds of one actor's first
holds_of_first : {E : Type 0} (P : ℕ × E → Type 0) (a : ℕ) (e : E) (rest : List E) (ys : List (ℕ × E)) → of_actor a ys ≡ e ∷ rest
    → Each P ys → P (a, e)
holds_of_first P a e rest [] is h = absurd (cc)
holds_of_first {E} P a e rest (y ∷ ys) is h = at (eqb y.0 a) refl is (λ k. holds_of_first P a e rest ys k h.1)
  where
    at : (b : Bool) → eqb y.0 a ≡ b → cond b (y.1 ∷ of_actor a ys) (of_actor a ys) ≡ e ∷ rest
        → (of_actor a ys ≡ e ∷ rest → P (a, e)) → P (a, e)
    at true same k later =
        let here : y.0 ≡ a = eqb-true y.0 a same in
        let there : y.1 ≡ e = cc in
        let pair : y ≡ (a, e) = ap₂ (λ (b : ℕ) (d : E). let p : ℕ × E = (b, d) in p) here there in
        subst P pair h.0
    at false same k later = later k

-- the rest is the same where the first is
same_rest : {E : Type 0} (x : ℕ × E) (xs ys : List (ℕ × E)) (a : ℕ) → of_actor a (x ∷ xs) ≡ of_actor a (x ∷ ys)
    → of_actor a xs ≡ of_actor a ys
same_rest x xs ys a = at (eqb x.0 a)
  where
    at : (b : Bool) → cond b (x.1 ∷ of_actor a xs) (of_actor a xs) ≡ cond b (x.1 ∷ of_actor a ys) (of_actor a ys)
        → of_actor a xs ≡ of_actor a ys
    at true e = cc
    at false e = e

module _ {E : Type 0} (stamp : E → ℕ) where
  -- the first of one list is the first of the other, or comes after it
  first_or_after : (x y : ℕ × E) (xs ys : List (ℕ × E)) → IsInOrder stamp (y ∷ ys) → of_actor x.0 (x ∷ xs) ≡ of_actor x.0 (y ∷ ys)
      → (x ≡ y) ⊎ IsBefore stamp y x
  first_or_after x y xs ys order e =
      let is : x.1 ∷ of_actor x.0 xs ≡ of_actor x.0 (y ∷ ys) = rw (eq-eqb x.0 x.0 refl) at e in
      holds_of_first (λ z. (z ≡ y) ⊎ IsBefore stamp y z) x.0 x.1 (of_actor x.0 xs) (y ∷ ys) (sym is) (
        inl refl,
        each_weaker (IsBefore stamp y) (λ z. (z ≡ y) ⊎ IsBefore stamp y z) (λ z k. inr k) ys order.0,
      )

  not_both : (x y : ℕ × E) → IsBefore stamp x y → IsBefore stamp y x → ⊥
  not_both x y h k = elim h [
    | inl a ↦ elim k [ inl b ↦ omega arith | inr b ↦ omega arith ]
    | inr a ↦ elim k [ inl b ↦ omega arith | inr b ↦ omega arith ]
  ]

  same_first : (n : ℕ) (x y : ℕ × E) (xs ys : List (ℕ × E)) → x.0 < n → y.0 < n → IsInOrder stamp (x ∷ xs) → IsInOrder stamp (y ∷ ys)
      → ((a : ℕ) → a < n → of_actor a (x ∷ xs) ≡ of_actor a (y ∷ ys)) → x ≡ y
  same_first n x y xs ys bx by left right e = elim (first_or_after x y xs ys right (e x.0 bx)) [
    | inl same ↦ same
    | inr h ↦ elim (first_or_after y x ys xs left (sym (e y.0 by))) [
      | inl same ↦ sym same
      | inr k ↦ absurd (not_both x y k h)
    ]
  ]

  same_events : (n : ℕ) (xs ys : List (ℕ × E)) → Each (λ x. x.0 < n) xs → Each (λ y. y.0 < n) ys → IsInOrder stamp xs → IsInOrder stamp ys
      → ((a : ℕ) → a < n → of_actor a xs ≡ of_actor a ys) → xs ≡ ys
  same_events n [] [] bx by left right e = refl
  same_events n [] (y ∷ ys) bx by left right e =
      let h : [] ≡ y.1 ∷ of_actor y.0 ys = rw (eq-eqb y.0 y.0 refl) at (e y.0 by.0) in absurd (cc)
  same_events n (x ∷ xs) [] bx by left right e =
      let h : x.1 ∷ of_actor x.0 xs ≡ [] = rw (eq-eqb x.0 x.0 refl) at (e x.0 bx.0) in absurd (cc)
  same_events n (x ∷ xs) (y ∷ ys) bx by left right e =
      let first : x ≡ y = same_first n x y xs ys bx.0 by.0 left right e in
      let rest : xs ≡ ys = same_events n xs ys bx.1 by.1 left.1 right.1
      (λ a below. same_rest x xs ys a (e a below ∙ ap (λ z. of_actor a (z ∷ ys)) (sym first))) in
      ap₂ (λ z zs. z ∷ zs) first rest

  -- two merges of the same journals are one
  pub merged_once : (n : ℕ) (journal : ℕ → List E) (xs ys : List (ℕ × E)) → IsMerged stamp n journal xs
      → IsMerged stamp n journal ys → xs ≡ ys
  merged_once n journal xs ys left right =
      same_events n xs ys left.within right.within left.in_order right.in_order (λ a below. left.each a below ∙ sym (right.each a below))
