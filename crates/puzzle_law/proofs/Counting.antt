-- Lists by counts: lists that every test counts alike are each other's reorderings.
use Rattle.std.proofs.Common.{◌≡◌, ◌↔◌, ℕ, suc, ◌+◌, ◌≤◌, ◌==◌, Bool, true, cond, ◌&&◌, List, [], ◌∷◌, refl, sym, ap, ◌∙◌, arith, inl, inr}
use Rattle.std.proofs.Common.{Contains, IsPermutation, count_by, remove}
use Rattle.std.specs.Str.{bytes_eq}
use Rattle.std.proofs.lemmas.Bool.{and_from, and_parts, cases_Bool, eq-eqb, eqb-true}
use Rattle.std.proofs.lemmas.List.Sorted.{IsPermutation-sym, IsPermutation-cons, IsPermutation-refl, IsPermutation-trans}
use Rattle.std.proofs.lemmas.List.Sorted.{IsPermutation-remove, sum_by-IsPermutation}
use Rattle.std.proofs.lemmas.List.Sums.{sum_by-cons}
use Rattle.std.proofs.lemmas.Slice.Eq.{bytes_eq-Decides}
use Rattle.sudoku_law.specs.Grid.{Cells}
use Rattle.job_units.specs.declared.units.Made.{Made}
use Rattle.job_units.proofs.Same.{same_unit, unit_test}
use Rattle.puzzle_app.specs.Arrivals.{Arrival}
use Rattle.puzzle_law.proofs.Sums.{count_one, one_if}

-- of a type with a test of equality
module _ (X : Type 0) (equal : X → X → Bool) (exact : (a b : X) → (equal a b ≡ true) ↔ (a ≡ b)) where
  -- what is counted is in the list
  counted_there : (x : X) (ys : List X) → 1 ≤ count_by (equal x) ys → Contains ys x
  counted_there x [] some = absurd (omega arith)
  counted_there x (y ∷ ys) some = elim (cases_Bool (equal x y)) [
    | inl t ↦ (0, omega arith, sym ((exact x y).0 t))
    | inr f ↦
        let all : count_by (equal x) (y ∷ ys) ≡ one_if (equal x) y + count_by (equal x) ys = sum_by-cons (one_if (equal x)) y ys in
        let one : Bool → ℕ = λ b. cond b 1 0 in
        let none : one_if (equal x) y ≡ 0 = ap one f in
        let later : Contains ys x = counted_there x ys (omega (arith, all, none)) in
        (suc later.0, omega (arith, later.1), later.2)
  ]

  counts_itself : (x : X) (xs : List X) → count_by (equal x) (x ∷ xs) ≡ 1 + count_by (equal x) xs
  counts_itself x xs =
      let plus : Bool → ℕ = λ b. cond b 1 0 + count_by (equal x) xs in
      sum_by-cons (one_if (equal x)) x xs ∙ ap plus ((exact x x).1 refl)

  pub permuted_by_counts : (xs ys : List X) → ((p : X → Bool) → count_by p xs ≡ count_by p ys) → IsPermutation xs ys
  permuted_by_counts [] [] same = IsPermutation-refl []
  permuted_by_counts [] (y ∷ ys) same =
      absurd (let e : 0 ≡ count_by (equal y) (y ∷ ys) = same (equal y) in omega (arith, counts_itself y ys))
  permuted_by_counts (x ∷ xs) ys same =
      let its : count_by (equal x) (x ∷ xs) ≡ count_by (equal x) ys = same (equal x) in
      let there : Contains ys x = counted_there x ys (omega (arith, its, counts_itself x xs)) in
      let rest : List X = remove ys there.0 in
      let moved : IsPermutation ys (x ∷ rest) = IsPermutation-remove ys there.0 x there.1 (sym there.2) in
      let left : IsPermutation xs rest = permuted_by_counts xs rest (λ p.
      let a : count_by p (x ∷ xs) ≡ count_by p ys = same p in
      let b : count_by p (x ∷ rest) ≡ count_by p ys = sum_by-IsPermutation (one_if p) ys (x ∷ rest) moved in
      omega (arith, sum_by-cons (one_if p) x xs, sum_by-cons (one_if p) x rest)) in
      IsPermutation-trans (x ∷ xs) (x ∷ rest) ys (IsPermutation-cons x xs rest left) (IsPermutation-sym ys (x ∷ rest) moved)

-- Grids.

-- grids that every test counts alike are each other's reorderings
pub grids_by_counts : (xs ys : List Cells) → ((p : Cells → Bool) → count_by p xs ≡ count_by p ys) → IsPermutation xs ys
grids_by_counts = permuted_by_counts Cells bytes_eq bytes_eq-Decides

-- Units with the common bytes over which they are worked.

abbrev same_piece : Arrival → Arrival → Bool
same_piece a b = same_unit a.unit b.unit && bytes_eq a.common b.common

pieces_are : (a b : Arrival) → a.unit ≡ b.unit → a.common ≡ b.common → a ≡ b
pieces_are a b e f =
    let with_unit : Made → Arrival = λ x. record { unit = x; common = a.common } in
    let with_common : List ℕ → Arrival = λ x. record { unit = b.unit; common = x } in
    ap with_unit e ∙ ap with_common f

piece_exact : (a b : Arrival) → (same_piece a b ≡ true) ↔ (a ≡ b)
piece_exact a b = (
  λ e.
      let parts = and_parts (same_unit a.unit b.unit) (bytes_eq a.common b.common) e in
      pieces_are a b ((unit_test a.unit b.unit).0 parts.0) ((bytes_eq-Decides a.common b.common).0 parts.1),
  λ e.
      and_from (same_unit a.unit b.unit) (bytes_eq a.common b.common) ((unit_test a.unit b.unit).1 (ap (λ (x : Arrival). x.unit) e))
      ((bytes_eq-Decides a.common b.common).1 (ap (λ (x : Arrival). x.common) e)),
)

-- units with common bytes that every test counts alike are each other's reorderings
pub pieces_by_counts : (xs ys : List Arrival) → ((q : Arrival → Bool) → count_by q xs ≡ count_by q ys) → IsPermutation xs ys
pieces_by_counts = permuted_by_counts Arrival same_piece piece_exact

-- A single number.

abbrev any_number : ℕ → Bool
any_number n = true

-- numbers that every test counts like a single one are that one
pub one_by_counts : (ns : List ℕ) (n : ℕ) → ((p : ℕ → Bool) → count_by p ns ≡ count_by p (n ∷ [])) → ns ≡ n ∷ []
one_by_counts [] n same = absurd (let e : 0 ≡ count_by any_number (n ∷ []) = same any_number in omega (arith, e, count_one any_number n))
one_by_counts (m ∷ []) n same = elim (cases_Bool (m == n)) [
  | inl t ↦ ap (λ k. k ∷ []) (eqb-true m n t)
  | inr f ↦
      let is : ℕ → Bool = λ k. k == n in
      let e : count_by is (m ∷ []) ≡ count_by is (n ∷ []) = same is in
      let one : Bool → ℕ = λ b. cond b 1 0 in
      let here : one_if is m ≡ 0 = ap one f in
      let there : one_if is n ≡ 1 = ap one (eq-eqb n n refl) in
      absurd (omega (arith, e, count_one is m, count_one is n, here, there))
]
one_by_counts (m ∷ k ∷ ns) n same = absurd (
    let e : count_by any_number (m ∷ k ∷ ns) ≡ count_by any_number (n ∷ []) = same any_number in
    omega (
      arith,
      e,
      count_one any_number n,
      sum_by-cons (one_if any_number) m (k ∷ ns),
      sum_by-cons (one_if any_number) k ns,
    )
    )
