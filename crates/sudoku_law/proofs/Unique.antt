-- A grid has one list of solutions.
use Rattle.std.proofs.Common.{◌≡◌, ◌<◌, ℕ, zero, suc, ◌+◌, List, [], ◌∷◌, length, get_or, refl, sym, ◌∙◌, inl, inr, arith, Contains, subst}
use Rattle.std.specs.Cmp.Lexicographic.{slice_cmp}
use Rattle.std.specs.Ordering.{nat_cmp}
use Rattle.std.specs.declared.cmp.Ordering.TheVariants.{Less, Equal}
use Rattle.std.proofs.lemmas.Cmp.{nat_list_cmp_total, tied_itself}
use Rattle.std.proofs.lemmas.List.{get_or_default}
use Rattle.sudoku_law.specs.Grid.{Cells}
use Rattle.sudoku_law.specs.Solutions.{IsSolutionList}
use Rattle.sudoku_law.proofs.Elements.{Contains-head, Contains-later, head_cases, none_there}
use Rattle.sudoku_law.proofs.TextOrder.{text_order}

-- one grid comes before another
abbrev IsBefore : Cells → Cells → Type 0
IsBefore a b = slice_cmp nat_cmp a b ≡ Less

not_before_itself : (a : Cells) → IsBefore a a → ⊥
not_before_itself a before = let same : slice_cmp nat_cmp a a ≡ Equal = tied_itself nat_list_cmp_total a in cc

abbrev Rises : List Cells → Type 0
Rises xs = (k : ℕ) → k + 1 < length xs → IsBefore (get_or xs k []) (get_or xs (k + 1) [])

rises_on : (x : Cells) (xs : List Cells) → Rises (x ∷ xs) → Rises xs
rises_on x xs rises k within =
    let e : suc k + 1 ≡ suc (k + 1) = omega arith in
    let here : IsBefore (get_or xs k []) (get_or (x ∷ xs) (suc k + 1) []) = rises (suc k) (omega arith) in
    rw e at here

-- the first comes before each of the others
first_before : (x : Cells) (xs : List Cells) → Rises (x ∷ xs) → (k : ℕ) → k < length xs → IsBefore x (get_or xs k [])
first_before x xs rises zero within = rises 0 (omega arith)
first_before x xs rises (suc k) within =
    let e : suc k + 1 ≡ suc (suc k) = omega arith in
    let here : IsBefore (get_or xs k []) (get_or (x ∷ xs) (suc k + 1) []) = rises (suc k) (omega arith) in
    nat_list_cmp_total.trans x (get_or xs k []) (get_or xs (suc k) []) (first_before x xs rises k (omega arith)) (rw e at here)

rest_after : (x s : Cells) (xs : List Cells) → Rises (x ∷ xs) → Contains xs s → IsBefore x s
rest_after x s xs rises at =
    let is : get_or xs at.0 [] ≡ s = get_or_default xs at.0 [] s at.1 ∙ at.2 in
    subst (λ z. IsBefore x z) is (first_before x xs rises at.0 at.1)

abbrev AllIn : List Cells → List Cells → Type 0
AllIn xs ys = (s : Cells) → Contains xs s → Contains ys s

-- of two rising lists with the same elements, the first elements are one
heads_same : (x y : Cells) (xs ys : List Cells) → Rises (x ∷ xs) → Rises (y ∷ ys) → Contains (y ∷ ys) x → Contains (x ∷ xs) y → x ≡ y
heads_same x y xs ys up_x up_y x_in y_in = elim (head_cases y x ys x_in) [
  | inl same ↦ sym same
  | inr later ↦ elim (head_cases x y xs y_in) [
    | inl same ↦ same
    | inr also ↦ absurd (not_before_itself x (nat_list_cmp_total.trans x y x (rest_after x y xs up_x also) (rest_after y x ys up_y later)))
  ]
]

-- and the others have the same elements
rests_same : (x y : Cells) (xs ys : List Cells) → Rises (x ∷ xs) → x ≡ y → AllIn (x ∷ xs) (y ∷ ys) → AllIn xs ys
rests_same x y xs ys rises same all s at = elim (head_cases y s ys (all s (Contains-later x s xs at))) [
  | inl is ↦ absurd (not_before_itself x (subst (λ z. IsBefore x z) (sym (same ∙ is)) (rest_after x s xs rises at)))
  | inr later ↦ later
]

nothing_in : (x : Cells) (xs : List Cells) → AllIn (x ∷ xs) [] → ⊥
nothing_in x xs all = none_there x (all x (Contains-head x xs))

-- two rising lists with the same elements are one
one_rising : (xs ys : List Cells) → Rises xs → Rises ys → AllIn xs ys → AllIn ys xs → xs ≡ ys
one_rising [] [] up_x up_y to back = refl
one_rising [] (y ∷ ys) up_x up_y to back = absurd (nothing_in y ys back)
one_rising (x ∷ xs) [] up_x up_y to back = absurd (nothing_in x xs to)
one_rising (x ∷ xs) (y ∷ ys) up_x up_y to back =
    let first : x ≡ y = heads_same x y xs ys up_x up_y (to x (Contains-head x xs)) (back y (Contains-head y ys)) in
    let to_rest : AllIn xs ys = rests_same x y xs ys up_x first to in
    let back_rest : AllIn ys xs = rests_same y x ys xs up_y (sym first) back in
    let rest : xs ≡ ys = one_rising xs ys (rises_on x xs up_x) (rises_on y ys up_y) to_rest back_rest in
    cc

rises_as_text : (m : ℕ) (g : Cells) (xs : List Cells) → IsSolutionList m g xs → Rises xs
rises_as_text m g xs is k within = sym (text_order (get_or xs k []) (get_or xs (k + 1) [])) ∙ is.rising k within

-- a grid has one list of solutions
pub solutions_unique : (m : ℕ) (g : Cells) (xs ys : List Cells) → IsSolutionList m g xs → IsSolutionList m g ys → xs ≡ ys
solutions_unique m g xs ys a b =
    one_rising xs ys (rises_as_text m g xs a) (rises_as_text m g ys b)
    (λ s at. (b.each s).1 ((a.each s).0 at))
    (λ s at. (a.each s).1 ((b.each s).0 at))
