-- Each solution node of a tree is a solution.
use Rattle.std.proofs.Common.{◌≡◌, ◌≢◌, ◌<◌, ◌≤◌, ℕ, zero, suc, ◌/◌, true, false, List, [], ◌∷◌, length, set, get_or, Option, Some, None}
use Rattle.std.proofs.Common.{refl, sym, ap, ◌∙◌, arith, eqb, inl, inr, Contains, subst}
use Rattle.std.proofs.lemmas.List.{get_or-set_same, get_or-set_other, length-set}
use Rattle.std.proofs.lemmas.List.Elements.{Contains-append_cases}
use Rattle.std.proofs.lemmas.Bool.{cases_eq, eq-eqb, ne_eqb, cond_both}
use Rattle.sudoku_law.specs.Grid.{Cells, side, IsGrid, IsSolution, IsBlank, conflict, clash, shares, candidates, fewest, any_below}
use Rattle.sudoku_law.specs.Tree.{Tree, end, branches, at_cell, grown, tree, solutions}
use Rattle.sudoku_law.specs.Pairs.{IsPairwise}
use Rattle.sudoku_law.proofs.Pairwise.{solution_from_pairwise}
use Rattle.sudoku_law.proofs.Below.{none_of, fewest_is_blank, fewest_is_none}
use Rattle.sudoku_law.proofs.Elements.{only, none_there}
use Rattle.sudoku_law.proofs.Digits.{AreAtMost, candidates_at_most}

-- a solution with a digit at a blank cell is a solution without it
pub unset : (m : ℕ) (g s : Cells) (cell d : ℕ) → IsBlank g cell → IsSolution m (set g cell d) s → IsSolution m g s
unset m g s cell d blank is =
    let n : length (set g cell d) ≡ length g = length-set g cell d in
    record {
      long = is.long;
      keeps = λ i within given.
          elim (cases_eq i cell) [
            | inl same ↦ absurd (given (ap (λ k. get_or g k 0) same ∙ blank.blank))
            | inr differs ↦
                let e : get_or (set g cell d) i 0 ≡ get_or g i 0 = get_or-set_other g cell i d 0 differs in
                is.keeps i (omega arith) (λ z. given (sym e ∙ z)) ∙ e
          ];
      digits = is.digits;
      rows = is.rows;
      columns = is.columns;
      boxes = is.boxes;
    }

-- no two cells that share have one digit in a grid without conflict
pub no_clash : (m : ℕ) (g : Cells) (i j : ℕ) → conflict m g ≡ false → get_or g i 0 ≢ 0 → j < i → i < length g → shares m i j ≡ true
    → get_or g i 0 ≡ get_or g j 0 → ⊥
no_clash m g i j fine some before within share same =
    let row : any_below i (λ k. clash m g i k) ≡ false = none_of (length g) (λ k. any_below k (λ l. clash m g k l)) i fine within in
    let pair : clash m g i j ≡ false = none_of i (λ k. clash m g i k) j row before in
    let test : eqb (get_or g i 0) (get_or g j 0) ≡ true = eq-eqb (get_or g i 0) (get_or g j 0) same in
    let is_some : eqb (get_or g i 0) 0 ≡ false = ne_eqb (get_or g i 0) 0 some in
    let yes_all : clash m g i j ≡ true = rw (share, test, is_some) refl in
    let clashes : true ≡ false = sym yes_all ∙ pair in cc

-- a full grid without a conflict is its own solution
pub full_is : (m : ℕ) (g : Cells) → IsGrid m g → conflict m g ≡ false → fewest m g ≡ None → IsSolution m g g
full_is m g grid fine full =
    let is : IsPairwise m g = record {
      digits = λ i within. let some : get_or g i 0 ≢ 0 = fewest_is_none m g i full within in (omega arith, grid.digits i within);
      once = λ i j before within share same. no_clash m g i j fine (fewest_is_none m g i full within) before within share same;
    } in
    solution_from_pairwise m g g grid.long (λ i within given. refl) is

-- a digit put at a cell leaves a grid
pub set_grid : (m : ℕ) (g : Cells) (cell d : ℕ) → IsGrid m g → d ≤ side m → IsGrid m (set g cell d)
set_grid m g cell d grid small = record {
  long = length-set g cell d ∙ grid.long;
  digits = λ i within.
      let n : length (set g cell d) ≡ length g = length-set g cell d in
      let inside : i < length g = omega arith in
      elim (cases_eq i cell) [
        | inl same ↦
            let e : get_or (set g cell d) i 0 ≡ d = rw same (get_or-set_same g cell d 0 (let k : cell < length g = omega arith in k)) in
            subst (λ x. x ≤ side m) (sym e) small
        | inr differs ↦ subst (λ x. x ≤ side m) (sym (get_or-set_other g cell i d 0 differs)) (grid.digits i inside)
      ];
}

-- what the trees of children must have
abbrev pub GivesSolutions : ℕ → (ℕ → Cells → Tree) → Type 0
GivesSolutions m rec = (b : ℕ) (x s : Cells) → IsGrid m x → Contains (solutions (rec b x)) s → IsSolution m x s

branches_sound : (m : ℕ) (rec : ℕ → Cells → Tree) (budget k share : ℕ) (g s : Cells) (cell : ℕ) (ds : List ℕ) → GivesSolutions m rec
    → IsGrid m g → IsBlank g cell → AreAtMost (side m) ds → Contains (solutions (branches rec budget k share g cell ds)) s
    → IsSolution m g s
unfolding branches
branches_sound m rec budget k share g s cell [] gives grid blank small there = absurd (none_there s there)
branches_sound m rec budget k share g s cell (d ∷ ds) gives grid blank small there =
    elim (Contains-append_cases (solutions (rec share (set g cell d))) (solutions (branches rec budget k share g cell ds)) s there) [
      | inl here ↦ unset m g s cell d blank (gives share (set g cell d) s (set_grid m g cell d grid small.0) here)
      | inr later ↦ branches_sound m rec budget k share g s cell ds gives grid blank small.1 later
    ]

cell_sound : (m : ℕ) (rec : ℕ → Cells → Tree) (budget : ℕ) (g s : Cells) → GivesSolutions m rec → IsGrid m g → conflict m g ≡ false
    → (o : Option ℕ) → fewest m g ≡ o → Contains (solutions (at_cell m rec budget g o)) s → IsSolution m g s
unfolding at_cell
cell_sound m rec budget g s gives grid fine None full there =
    let is : g ≡ s = only g s there in subst (λ x. IsSolution m g x) is (full_is m g grid fine full)
cell_sound m rec zero g s gives grid fine (Some cell) chosen there = absurd (none_there s there)
cell_sound m rec (suc rest) g s gives grid fine (Some cell) chosen there =
    let ds : List ℕ = candidates m g cell in
    branches_sound m rec (suc rest) (length ds) (rest / length ds) g s cell ds gives grid (fewest_is_blank m g cell chosen)
    (candidates_at_most m g cell) there

-- at each depth
pub grown_sound : (m depth : ℕ) → GivesSolutions m (grown m depth)
unfolding grown
grown_sound m zero b x s grid there = absurd (none_there s there)
grown_sound m (suc depth) b x s grid there =
    let P : Tree → Type 0 = λ t. Contains (solutions t) s → IsSolution m x s in
    let rec : ℕ → Cells → Tree = λ k h. grown m depth k h in
    cond_both (conflict m x) end (at_cell m rec b x (fewest m x)) P
    (λ t there. absurd (none_there s there))
    (λ fine there. cell_sound m rec b x s (grown_sound m depth) grid fine (fewest m x) refl there)
    there

-- each solution node of a tree is a solution
pub tree_sound : (m b : ℕ) (g s : Cells) → IsGrid m g → Contains (solutions (tree m b g)) s → IsSolution m g s
tree_sound m b g s grid there = grown_sound m (suc b) b g s grid there
