-- Where no node is over, a tree meets every solution.
use Rattle.std.proofs.Common.{◌≡◌, ◌≢◌, ◌<◌, ◌≤◌, ℕ, zero, suc, ◌/◌, true, false, cond, ◌&&◌, not, List, [], ◌∷◌, length, set, get_or}
use Rattle.std.proofs.Common.{Option, Some, None, refl, sym, ap, ◌∙◌, arith, eqb, inl, inr, Contains, subst}
use Rattle.std.proofs.lemmas.List.{get_or-set_same, get_or-set_other, length-set, ext_get_or}
use Rattle.std.proofs.lemmas.List.Elements.{Contains-append_left, Contains-append_right}
use Rattle.std.proofs.lemmas.Bool.{cases_eq, eqb-true, eq-eqb, and_parts, cond-false, or_parts, false_from_ne_true, not_from_true, ne_eqb}
use Rattle.std.proofs.lemmas.Bool.{cases_order}
use Rattle.sudoku_law.specs.Grid.{Cells, side, row_of, column_of, box_of, IsGrid, IsSolution, IsBlank, conflict, clash, shares, candidates}
use Rattle.sudoku_law.specs.Grid.{fewest, used, any_below}
use Rattle.sudoku_law.specs.Tree.{Tree, end, branches, at_cell, grown, tree, solutions, is_over}
use Rattle.sudoku_law.specs.Pairs.{IsPairwise}
use Rattle.sudoku_law.proofs.Pairwise.{pairwise_from_solution}
use Rattle.sudoku_law.proofs.Below.{any_gives, fewest_is_blank, fewest_is_none}
use Rattle.sudoku_law.proofs.Depth.{share_falls}
use Rattle.sudoku_law.proofs.Digits.{unused_is_candidate}
use Rattle.sudoku_law.proofs.Elements.{Contains-head, head_cases, none_there}
use Rattle.sudoku_law.proofs.Sound.{set_grid}

-- a solution is as long as its grid
pub same_length : (m : ℕ) (g s : Cells) → IsGrid m g → IsSolution m g s → length s ≡ length g
same_length m g s grid is = is.long ∙ sym grid.long

eqb_swap : (a b : ℕ) → eqb a b ≡ eqb b a
eqb_swap a b = elim (cases_eq a b) [
  | inl same ↦ eq-eqb a b same ∙ sym (eq-eqb b a (sym same))
  | inr differs ↦ ne_eqb a b differs ∙ sym (ne_eqb b a (λ e. differs (sym e)))
]

shares_sym : (m i j : ℕ) → shares m i j ≡ shares m j i
shares_sym m i j =
    rw (eqb_swap (row_of m i) (row_of m j), eqb_swap (column_of m i) (column_of m j), eqb_swap (box_of m i) (box_of m j)) refl

clash_never : (m : ℕ) (g s : Cells) → IsGrid m g → IsSolution m g s → (i j : ℕ) → j < i → i < length g → clash m g i j ≡ true → ⊥
clash_never m g s grid is i j before within test =
    let pairs : IsPairwise m s = pairwise_from_solution m g s is in
    let n : length s ≡ length g = same_length m g s grid is in
    let parts = and_parts (shares m i j && eqb (get_or g i 0) (get_or g j 0)) (not (eqb (get_or g i 0) 0)) test in
    let both = and_parts (shares m i j) (eqb (get_or g i 0) (get_or g j 0)) parts.0 in
    let same : get_or g i 0 ≡ get_or g j 0 = eqb-true (get_or g i 0) (get_or g j 0) both.1 in
    let some : get_or g i 0 ≢ 0 =
    λ blank. let e : not (eqb (get_or g i 0) 0) ≡ false = not_from_true (eqb (get_or g i 0) 0) (eq-eqb (get_or g i 0) 0 blank) in
    let f : not (eqb (get_or g i 0) 0) ≡ true = parts.1 in let x : true ≡ false = sym f ∙ e in cc in
    let at_i : get_or s i 0 ≡ get_or g i 0 = is.keeps i within some in
    let at_j : get_or s j 0 ≡ get_or g j 0 = is.keeps j (omega arith) (λ z. some (same ∙ z)) in
    pairs.once i j before (omega arith) both.0 (at_i ∙ same ∙ sym at_j)

-- a grid with a solution has no conflict
pub no_conflict : (m : ℕ) (g s : Cells) → IsGrid m g → IsSolution m g s → conflict m g ≡ false
no_conflict m g s grid is = false_from_ne_true (conflict m g) (λ some.
    let row = any_gives (length g) (λ i. any_below i (λ j. clash m g i j)) some in
    let pair = any_gives row.0 (λ j. clash m g row.0 j) row.2 in
    clash_never m g s grid is row.0 pair.0 pair.1 row.1 pair.2)

-- no cell that the blank cell shares with has the digit that a solution puts there
used_never : (m : ℕ) (g s : Cells) (cell : ℕ) → IsGrid m g → IsBlank g cell → IsSolution m g s → used m g cell (get_or s cell 0) ≡ true → ⊥
used_never m g s cell grid blank is test =
    let pairs : IsPairwise m s = pairwise_from_solution m g s is in
    let d : ℕ = get_or s cell 0 in
    let at = any_gives (length g) (λ j. shares m cell j && eqb (get_or g j 0) d) test in
    let j : ℕ = at.0 in
    let within : j < length g = at.1 in
    let parts = and_parts (shares m cell j) (eqb (get_or g j 0) d) at.2 in
    let digit : get_or g j 0 ≡ get_or s cell 0 = eqb-true (get_or g j 0) d parts.1 in
    let n : length s ≡ length g = same_length m g s grid is in
    let inside : cell < length g = blank.within in
    let range = pairs.digits cell (omega arith) in
    let some : get_or g j 0 ≢ 0 = λ z. omega (arith, range.0) in
    let same : get_or s j 0 ≡ get_or s cell 0 = is.keeps j within some ∙ digit in
    elim (cases_order cell j) [
      | inl here ↦ absurd (some (ap (λ k. get_or g k 0) (sym here) ∙ blank.blank))
      | inr w ↦ elim w [
        | inl less ↦ pairs.once j cell less (omega arith) (shares_sym m j cell ∙ parts.0) same
        | inr more ↦ pairs.once cell j more (omega arith) parts.0 (sym same)
      ]
    ]

-- a solution has a digit at a blank cell
pub digit_there : (m : ℕ) (g s : Cells) (cell : ℕ) → IsGrid m g → IsBlank g cell → IsSolution m g s
    → (1 ≤ get_or s cell 0) × (get_or s cell 0 ≤ side m)
digit_there m g s cell grid blank is =
    is.digits cell (let n : length s ≡ length g = same_length m g s grid is in let w : cell < length g = blank.within in omega arith)

-- the solution's digit is a candidate
pub its_digit : (m : ℕ) (g s : Cells) (cell : ℕ) → IsGrid m g → IsBlank g cell → IsSolution m g s
    → Contains (candidates m g cell) (get_or s cell 0)
its_digit m g s cell grid blank is =
    let range = digit_there m g s cell grid blank is in
    unused_is_candidate m g cell (get_or s cell 0) range.0 range.1
    (false_from_ne_true (used m g cell (get_or s cell 0)) (λ there. used_never m g s cell grid blank is there))

-- a blank cell without candidates leaves no solution
pub none_without_candidates : (m : ℕ) (g s : Cells) (cell : ℕ) → IsGrid m g → IsBlank g cell → candidates m g cell ≡ []
    → IsSolution m g s → ⊥
none_without_candidates m g s cell grid blank none is =
    none_there (get_or s cell 0) (subst (λ ds. Contains ds (get_or s cell 0)) none (its_digit m g s cell grid blank is))

-- with the solution's digit at the cell it is a solution still
pub set_solution : (m : ℕ) (g s : Cells) (cell d : ℕ) → cell < length g → IsSolution m g s → d ≡ get_or s cell 0
    → IsSolution m (set g cell d) s
set_solution m g s cell d within is same =
    let n : length (set g cell d) ≡ length g = length-set g cell d in
    record {
      long = is.long;
      keeps = λ i inside given. elim (cases_eq i cell) [
        | inl here ↦ rw here (sym (get_or-set_same g cell d 0 within ∙ same))
        | inr differs ↦
            let e : get_or (set g cell d) i 0 ≡ get_or g i 0 = get_or-set_other g cell i d 0 differs in
            is.keeps i (omega arith) (λ z. given (e ∙ z)) ∙ sym e
      ];
      digits = is.digits;
      rows = is.rows;
      columns = is.columns;
      boxes = is.boxes;
    }

-- the subtrees of a grid have each of its solutions, if no node is over
abbrev pub GivesAll : ℕ → (ℕ → Cells → Tree) → ℕ → Type 0
GivesAll m rec b = (x s : Cells) → IsGrid m x → IsSolution m x s → is_over (rec b x) ≡ false → Contains (solutions (rec b x)) s

branches_complete : (m : ℕ) (rec : ℕ → Cells → Tree) (budget k share : ℕ) (g s : Cells) (cell : ℕ) (ds : List ℕ) → GivesAll m rec share
    → IsGrid m g → IsBlank g cell → IsSolution m g s → Contains ds (get_or s cell 0)
    → is_over (branches rec budget k share g cell ds) ≡ false → Contains (solutions (branches rec budget k share g cell ds)) s
unfolding branches
branches_complete m rec budget k share g s cell [] gives grid blank is there fine = absurd (none_there (get_or s cell 0) there)
branches_complete m rec budget k share g s cell (d ∷ ds) gives grid blank is there fine =
    let overs = or_parts (is_over (rec share (set g cell d))) (is_over (branches rec budget k share g cell ds)) fine in
    elim (head_cases d (get_or s cell 0) ds there) [
      | inl same ↦
          let small : d ≤ side m = subst (λ z. z ≤ side m) (sym same) (digit_there m g s cell grid blank is).1 in
          Contains-append_left (solutions (rec share (set g cell d))) (solutions (branches rec budget k share g cell ds)) s
          (gives (set g cell d) s (set_grid m g cell d grid small) (set_solution m g s cell d blank.within is same) overs.0)
      | inr later ↦ Contains-append_right (solutions (rec share (set g cell d))) (solutions (branches rec budget k share g cell ds)) s
          (branches_complete m rec budget k share g s cell ds gives grid blank is later overs.1)
    ]

-- a full grid is its only solution
pub full_same : (m : ℕ) (g s : Cells) → IsGrid m g → IsSolution m g s → fewest m g ≡ None → s ≡ g
full_same m g s grid is full =
    let n : length s ≡ length g = same_length m g s grid is in
    ext_get_or 0 s g n (λ i below. let inside : i < length g = omega arith in is.keeps i inside (fewest_is_none m g i full inside))

cell_complete : (m : ℕ) (rec : ℕ → Cells → Tree) (budget : ℕ) (g s : Cells) → ((b : ℕ) → b < budget → GivesAll m rec b) → IsGrid m g
    → IsSolution m g s → (o : Option ℕ) → fewest m g ≡ o → is_over (at_cell m rec budget g o) ≡ false
    → Contains (solutions (at_cell m rec budget g o)) s
unfolding at_cell
cell_complete m rec budget g s gives grid is None full fine = rw (full_same m g s grid is full) (Contains-head g [])
cell_complete m rec zero g s gives grid is (Some cell) chosen fine = absurd (cc)
cell_complete m rec (suc rest) g s gives grid is (Some cell) chosen fine =
    let ds : List ℕ = candidates m g cell in
    let share : ℕ = rest / length ds in
    let le : share ≤ rest = share_falls rest (length ds) in
    let blank : IsBlank g cell = fewest_is_blank m g cell chosen in
    branches_complete m rec (suc rest) (length ds) share g s cell ds (gives share (omega arith)) grid blank is
    (its_digit m g s cell grid blank is) fine

-- at each depth above the budget
pub grown_complete : (m depth b : ℕ) → b < depth → GivesAll m (grown m depth) b
unfolding grown
grown_complete m zero b under x s grid is fine = absurd (omega arith)
grown_complete m (suc depth) b under x s grid is fine =
    let rec : ℕ → Cells → Tree = λ k h. grown m depth k h in
    let same : cond (conflict m x) end (at_cell m rec b x (fewest m x)) ≡ at_cell m rec b x (fewest m x) =
    cond-false _ _ _ (no_conflict m x s grid is) in
    let fine' : is_over (at_cell m rec b x (fewest m x)) ≡ false = ap (λ t. is_over t) (sym same) ∙ fine in
    subst (λ t. Contains (solutions t) s) (sym same)
    (cell_complete m rec b x s (λ k less. grown_complete m depth k (omega arith)) grid is (fewest m x) refl fine')

-- where no node is over every solution is a solution node
pub tree_complete : (m b : ℕ) (g s : Cells) → IsGrid m g → IsSolution m g s → is_over (tree m b g) ≡ false
    → Contains (solutions (tree m b g)) s
tree_complete m b g s grid is fine = grown_complete m (suc b) b (omega arith) g s grid is fine
