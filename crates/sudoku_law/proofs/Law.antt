-- The tree's solution nodes, sorted, are all solutions in text order.
use Rattle.std.proofs.Common.{◌≡◌, ◌<◌, ◌≤◌, ℕ, zero, suc, ◌+◌, Bool, true, false, cond, List, [], ◌∷◌, length, get_or, refl, sym, ap, ◌∙◌}
use Rattle.std.proofs.Common.{arith, zero-add, inl, inr, Contains, subst, IsPermutation, IsSorted, count_by}
use Rattle.std.specs.Cmp.Lexicographic.{slice_cmp}
use Rattle.std.specs.Ordering.{nat_cmp, is_lt, ordering_reverse}
use Rattle.std.specs.declared.cmp.Ordering.{Ordering}
use Rattle.std.specs.declared.cmp.Ordering.TheVariants.{Less, Equal, Greater}
use Rattle.std.specs.Str.{bytes_eq}
use Rattle.std.proofs.lemmas.Slice.Eq.{bytes_eq-Decides}
use Rattle.std.proofs.lemmas.Cmp.{nat_list_cmp_total}
use Rattle.std.proofs.lemmas.Map.Lookups.{exact_bytes}
use Rattle.std.proofs.lemmas.Bool.{cases_Bool, false_from_ne_true}
use Rattle.std.proofs.lemmas.List.Sums.{sum_by-cons}
use Rattle.std.proofs.lemmas.List.Sorted.{sum_by-IsPermutation, Contains-permutation, IsPermutation-sym}
use Rattle.sudoku_law.specs.Grid.{Cells, IsGrid}
use Rattle.sudoku_law.specs.Tree.{tree, solutions, is_over}
use Rattle.sudoku_law.specs.Solutions.{IsSolutionList}
use Rattle.sudoku_law.proofs.Elements.{IsDistinct, Contains-head, Contains-later}
use Rattle.sudoku_law.proofs.Sound.{tree_sound}
use Rattle.sudoku_law.proofs.Complete.{tree_complete}
use Rattle.sudoku_law.proofs.Distinct.{tree_distinct}
use Rattle.sudoku_law.proofs.TextOrder.{text_order}

count_cons : (p : Cells → Bool) (x : Cells) (xs : List Cells) → count_by p (x ∷ xs) ≡ cond (p x) 1 0 + count_by p xs
count_cons p x xs = sum_by-cons (λ s. cond (p s) 1 0) x xs

count_no : (p : Cells → Bool) (x : Cells) (xs : List Cells) → p x ≡ false → count_by p (x ∷ xs) ≡ count_by p xs
count_no p x xs e = count_cons p x xs ∙ ap (λ (t : Bool). cond t 1 0 + count_by p xs) e ∙ zero-add (count_by p xs)

count_yes : (p : Cells → Bool) (x : Cells) (xs : List Cells) → p x ≡ true → count_by p (x ∷ xs) ≡ 1 + count_by p xs
count_yes p x xs e = count_cons p x xs ∙ ap (λ (t : Bool). cond t 1 0 + count_by p xs) e

-- what is not in the list is counted nowhere
none_counted : (s : Cells) (xs : List Cells) → (Contains xs s → ⊥) → count_by (bytes_eq s) xs ≡ 0
none_counted s [] none = refl
none_counted s (x ∷ xs) none =
    let differs : bytes_eq s x ≡ false = false_from_ne_true (bytes_eq s x)
    (λ t. none (subst (λ z. Contains (x ∷ xs) z) (sym ((bytes_eq-Decides s x).0 t)) (Contains-head x xs))) in
    let rest : count_by (bytes_eq s) xs ≡ 0 = none_counted s xs (λ there. none (Contains-later x s xs there)) in
    count_no (bytes_eq s) x xs differs ∙ rest

one_counted : (s : Cells) (xs : List Cells) → IsDistinct xs → count_by (bytes_eq s) xs ≤ 1
one_counted s [] distinct = omega arith
one_counted s (x ∷ xs) distinct = elim (cases_Bool (bytes_eq s x)) [
  | inl t ↦
      let same : s ≡ x = (bytes_eq-Decides s x).0 t in
      let rest : count_by (bytes_eq s) xs ≡ 0 = none_counted s xs (λ there. distinct.0 (subst (λ z. Contains xs z) same there)) in
      omega (arith, count_yes (bytes_eq s) x xs t, rest)
  | inr f ↦
      let rest : count_by (bytes_eq s) xs ≤ 1 = one_counted s xs distinct.1 in
      omega (arith, count_no (bytes_eq s) x xs f, rest)
]

-- two neighbors that pass are two
two_counted : (p : Cells → Bool) (xs : List Cells) (k : ℕ) → k + 1 < length xs → p (get_or xs k []) ≡ true → p (get_or xs (k + 1) []) ≡ true
    → 2 ≤ count_by p xs
two_counted p [] k within a b = absurd (omega arith)
two_counted p (x ∷ []) k within a b = absurd (omega arith)
two_counted p (x ∷ y ∷ xs) zero within a b =
    omega (arith, count_yes p x (y ∷ xs) a, count_yes p y xs b)
two_counted p (x ∷ y ∷ xs) (suc k) within a b =
    let rest : 2 ≤ count_by p (y ∷ xs) =
    two_counted p (y ∷ xs) k (omega arith) a (let e : suc k + 1 ≡ suc (k + 1) = omega arith in rw e at b) in
    omega (arith, count_cons p x (y ∷ xs), rest)

-- two neighbors in a sorted list that are not the same rise
rises : (x y : Cells) → is_lt (slice_cmp nat_cmp y x) ≡ false → (x ≡ y → ⊥) → (o : Ordering) → slice_cmp nat_cmp x y ≡ o
    → slice_cmp nat_cmp x y ≡ Less
rises x y sorted differ Less is = is
rises x y sorted differ Equal is = absurd (differ (exact_bytes x y is))
rises x y sorted differ Greater is =
    let back : slice_cmp nat_cmp y x ≡ Less = nat_list_cmp_total.antisymm y x ∙ ap ordering_reverse is in
    let t : is_lt (slice_cmp nat_cmp y x) ≡ true = ap is_lt back in
    absurd (cc)

-- where no node is over, the solution nodes in order are the solution list
pub tree_law : (m b : ℕ) (g : Cells) (xs : List Cells) → IsGrid m g → is_over (tree m b g) ≡ false
    → IsPermutation (solutions (tree m b g)) xs → IsSorted (slice_cmp nat_cmp) xs → IsSolutionList m g xs
tree_law m b g xs grid fine moved sorted =
    let nodes : List Cells = solutions (tree m b g) in
    let back : IsPermutation xs nodes = IsPermutation-sym nodes xs moved in
    record {
      rising = λ k within.
          let x : Cells = get_or xs k [] in
          let y : Cells = get_or xs (k + 1) [] in
          text_order x y ∙ rises x y (sorted k [] (omega arith) within)
          (λ same.
          let few : count_by (bytes_eq x) nodes ≤ 1 = one_counted x nodes (tree_distinct m b g grid) in
          let many : 2 ≤ count_by (bytes_eq x) xs =
          two_counted (bytes_eq x) xs k within ((bytes_eq-Decides x x).1 refl) ((bytes_eq-Decides x y).1 same) in
          omega (arith, sum_by-IsPermutation (λ s. cond (bytes_eq x s) 1 0) nodes xs moved))
          (slice_cmp nat_cmp x y) refl;
      each = λ s. (
        λ there. tree_sound m b g s grid (Contains-permutation xs nodes s back there),
        λ is. Contains-permutation nodes xs s moved (tree_complete m b g s grid is fine),
      );
    }
