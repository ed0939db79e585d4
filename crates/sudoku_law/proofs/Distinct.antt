-- A tree meets no solution twice: distinct children share none.
use Rattle.std.proofs.Common.{◌≡◌, ◌<◌, ℕ, zero, suc, ◌/◌, List, [], ◌∷◌, length, set, get_or, Option, Some, None, refl, sym, ◌∙◌, arith}
use Rattle.std.proofs.Common.{inl, inr, Contains, subst}
use Rattle.std.proofs.lemmas.List.{get_or-set_same, length-set}
use Rattle.std.proofs.lemmas.List.Elements.{Contains-append_cases}
use Rattle.std.proofs.lemmas.Bool.{cond_both}
use Rattle.sudoku_law.specs.Grid.{Cells, side, IsGrid, IsSolution, IsBlank, conflict, candidates, fewest}
use Rattle.sudoku_law.specs.Tree.{Tree, end, branches, at_cell, grown, tree, solutions}
use Rattle.sudoku_law.proofs.Below.{fewest_is_blank}
use Rattle.sudoku_law.proofs.Digits.{AreAtMost, IsRising, rising_above, candidates_at_most, candidates_rising}
use Rattle.sudoku_law.proofs.Elements.{IsDistinct, distinct_append, Contains-head, Contains-later, none_there}
use Rattle.sudoku_law.proofs.Sound.{GivesSolutions, set_grid, grown_sound}

-- the solutions of a child have its digit at the cell
pub has_digit : (m : ℕ) (g s : Cells) (cell d : ℕ) → cell < length g → 0 < d → IsSolution m (set g cell d) s → get_or s cell 0 ≡ d
has_digit m g s cell d within some is =
    let n : length (set g cell d) ≡ length g = length-set g cell d in
    let e : get_or (set g cell d) cell 0 ≡ d = get_or-set_same g cell d 0 within in
    is.keeps cell (omega arith) (λ z. let q : d ≡ 0 = sym e ∙ z in omega arith) ∙ e

-- distinct children share no solution
pub children_apart : (m : ℕ) (g s : Cells) (cell d e : ℕ) → cell < length g → 0 < d → 0 < e → IsSolution m (set g cell d) s
    → IsSolution m (set g cell e) s → d ≡ e
children_apart m g s cell d e within d_some e_some at_d at_e = sym (has_digit m g s cell d within d_some at_d)
    ∙ has_digit m g s cell e within e_some at_e

branches_digit : (m : ℕ) (rec : ℕ → Cells → Tree) (budget k share : ℕ) (g s : Cells) (cell low : ℕ) (ds : List ℕ) → GivesSolutions m rec
    → IsGrid m g → cell < length g → IsRising low ds → AreAtMost (side m) ds
    → Contains (solutions (branches rec budget k share g cell ds)) s → Contains ds (get_or s cell 0)
unfolding branches
branches_digit m rec budget k share g s cell low [] gives grid within up small there = absurd (none_there s there)
branches_digit m rec budget k share g s cell low (d ∷ ds) gives grid within up small there =
    elim (Contains-append_cases (solutions (rec share (set g cell d))) (solutions (branches rec budget k share g cell ds)) s there) [
      | inl here ↦
          let e : get_or s cell 0 ≡ d = has_digit m g s cell d within (omega (arith, up.0))
          (gives share (set g cell d) s (set_grid m g cell d grid small.0) here) in
          subst (λ z. Contains (d ∷ ds) z) (sym e) (Contains-head d ds)
      | inr later ↦
          Contains-later d (get_or s cell 0) ds (branches_digit m rec budget k share g s cell d ds gives grid within up.1 small.1 later)
    ]

-- the subtrees of a grid have no solution node twice
abbrev pub GivesDistinct : ℕ → (ℕ → Cells → Tree) → Type 0
GivesDistinct m rec = (b : ℕ) (x : Cells) → IsGrid m x → IsDistinct (solutions (rec b x))

branches_distinct : (m : ℕ) (rec : ℕ → Cells → Tree) (budget k share : ℕ) (g : Cells) (cell low : ℕ) (ds : List ℕ) → GivesSolutions m rec
    → GivesDistinct m rec → IsGrid m g → cell < length g → IsRising low ds → AreAtMost (side m) ds
    → IsDistinct (solutions (branches rec budget k share g cell ds))
unfolding branches
branches_distinct m rec budget k share g cell low [] gives once grid within up small = tt
branches_distinct m rec budget k share g cell low (d ∷ ds) gives once grid within up small =
    distinct_append (solutions (rec share (set g cell d))) (solutions (branches rec budget k share g cell ds))
    (once share (set g cell d) (set_grid m g cell d grid small.0))
    (branches_distinct m rec budget k share g cell d ds gives once grid within up.1 small.1)
    (λ s here later.
    let e : get_or s cell 0 ≡ d =
    has_digit m g s cell d within (omega (arith, up.0)) (gives share (set g cell d) s (set_grid m g cell d grid small.0) here) in
    let more : d < get_or s cell 0 =
    rising_above d (get_or s cell 0) ds up.1 (branches_digit m rec budget k share g s cell d ds gives grid within up.1 small.1 later) in
    omega arith)

cell_distinct : (m : ℕ) (rec : ℕ → Cells → Tree) (budget : ℕ) (g : Cells) → GivesSolutions m rec → GivesDistinct m rec → IsGrid m g
    → (o : Option ℕ) → fewest m g ≡ o → IsDistinct (solutions (at_cell m rec budget g o))
unfolding at_cell
cell_distinct m rec budget g gives once grid None full = (λ there. none_there g there, tt)
cell_distinct m rec zero g gives once grid (Some cell) chosen = tt
cell_distinct m rec (suc rest) g gives once grid (Some cell) chosen =
    let ds : List ℕ = candidates m g cell in
    let blank : IsBlank g cell = fewest_is_blank m g cell chosen in
    branches_distinct m rec (suc rest) (length ds) (rest / length ds) g cell 0 ds gives once grid blank.within (candidates_rising m g cell)
    (candidates_at_most m g cell)

-- at each depth
pub grown_distinct : (m depth : ℕ) → GivesDistinct m (grown m depth)
unfolding grown
grown_distinct m zero b x grid = tt
grown_distinct m (suc depth) b x grid =
    let P : Tree → Type 0 = λ t. IsDistinct (solutions t) in
    let rec : ℕ → Cells → Tree = λ k h. grown m depth k h in
    cond_both (conflict m x) end (at_cell m rec b x (fewest m x)) P
    (λ t. tt)
    (λ fine. cell_distinct m rec b x (grown_sound m depth) (grown_distinct m depth) grid (fewest m x) refl)

-- no solution node is there twice
pub tree_distinct : (m b : ℕ) (g : Cells) → IsGrid m g → IsDistinct (solutions (tree m b g))
tree_distinct m b g grid = grown_distinct m (suc b) b g grid
