-- Units by counts: lists that every test counts alike are each other's reorderings.
use Rattle.std.proofs.Common.{◌≡◌, ℕ, suc, ◌+◌, ◌≤◌, Bool, cond, List, [], ◌∷◌, refl, sym, ap, ◌∙◌, arith, inl, inr, Contains}
use Rattle.std.proofs.Common.{IsPermutation, count_by, remove}
use Rattle.std.proofs.lemmas.Bool.{cases_Bool}
use Rattle.std.proofs.lemmas.List.Sorted.{IsPermutation-sym, IsPermutation-cons, IsPermutation-refl, IsPermutation-trans}
use Rattle.std.proofs.lemmas.List.Sorted.{IsPermutation-remove, sum_by-IsPermutation}
use Rattle.std.proofs.lemmas.List.Sums.{sum_by-cons}
use Rattle.job_units.specs.declared.units.Made.{Made}
use Rattle.job_units.proofs.Same.{same_unit, unit_test}

abbrev one_if : (Made → Bool) → Made → ℕ
one_if p x = cond (p x) 1 0

-- what is counted is in the list
counted_there : (x : Made) (ys : List Made) → 1 ≤ count_by (same_unit x) ys → Contains ys x
counted_there x [] some = absurd (omega arith)
counted_there x (y ∷ ys) some = elim (cases_Bool (same_unit x y)) [
  | inl t ↦ (0, omega arith, sym ((unit_test x y).0 t))
  | inr f ↦
      let all : count_by (same_unit x) (y ∷ ys) ≡
      one_if (same_unit x) y + count_by (same_unit x) ys = sum_by-cons (one_if (same_unit x)) y ys in
      let one : Bool → ℕ = λ b. cond b 1 0 in
      let none : one_if (same_unit x) y ≡ 0 = ap one f in
      let later : Contains ys x = counted_there x ys (omega (arith, all, none)) in
      (suc later.0, omega (arith, later.1), later.2)
]

counts_itself : (x : Made) (xs : List Made) → count_by (same_unit x) (x ∷ xs) ≡ 1 + count_by (same_unit x) xs
counts_itself x xs =
    let plus : Bool → ℕ = λ b. cond b 1 0 + count_by (same_unit x) xs in
    sum_by-cons (one_if (same_unit x)) x xs ∙ ap plus ((unit_test x x).1 refl)

-- units that every test counts alike are a reordering
pub units_by_counts : (xs ys : List Made) → ((p : Made → Bool) → count_by p xs ≡ count_by p ys) → IsPermutation xs ys
units_by_counts [] [] same = IsPermutation-refl []
units_by_counts [] (y ∷ ys) same =
    absurd (let e : 0 ≡ count_by (same_unit y) (y ∷ ys) = same (same_unit y) in omega (arith, counts_itself y ys))
units_by_counts (x ∷ xs) ys same =
    let there : Contains ys x = counted_there x ys
    (let e : count_by (same_unit x) (x ∷ xs) ≡ count_by (same_unit x) ys = same (same_unit x) in
    omega (arith, counts_itself x xs)) in
    let rest : List Made = remove ys there.0 in
    let moved : IsPermutation ys (x ∷ rest) = IsPermutation-remove ys there.0 x there.1 (sym there.2) in
    let left : IsPermutation xs rest = units_by_counts xs rest (λ p.
    let a : count_by p (x ∷ xs) ≡ count_by p ys = same p in
    let b : count_by p (x ∷ rest) ≡ count_by p ys = sum_by-IsPermutation (one_if p) ys (x ∷ rest) moved in
    omega (arith, sum_by-cons (one_if p) x xs, sum_by-cons (one_if p) x rest)) in
    IsPermutation-trans (x ∷ xs) (x ∷ rest) ys (IsPermutation-cons x xs rest left) (IsPermutation-sym ys (x ∷ rest) moved)
