-- Each node of a grid's tree is a grid, and its budget is below the tree's.
use Rattle.std.proofs.Common.{◌<◌, ◌≤◌, ℕ, zero, suc, ◌/◌, List, [], ◌∷◌, length, set, Option, Some, None, arith, All}
use Rattle.std.proofs.lemmas.Bool.{cond_both}
use Rattle.std.proofs.lemmas.List.Elements.{All-nil, All-cons, All-append}
use Rattle.sudoku_law.specs.Grid.{Cells, side, IsGrid, conflict, candidates, fewest}
use Rattle.sudoku_law.specs.Tree.{Tree, end, solution, over, child, branches, at_cell, grown, tree, walk}
use Rattle.sudoku_law.proofs.Depth.{share_falls}
use Rattle.sudoku_law.proofs.Digits.{AreAtMost, candidates_at_most}
use Rattle.sudoku_law.proofs.Handed.{met_at, met_cases}
use Rattle.sudoku_law.proofs.Sound.{set_grid}

-- each node is a grid, and each below the root has a budget below b
abbrev AreGrids : ℕ → ℕ → Tree → Type 0
AreGrids m b end = Unit
AreGrids m b (solution g) = IsGrid m g
AreGrids m b over = Unit
AreGrids m b (child budget k share g below others) = IsGrid m g × (share < b) × AreGrids m b below × AreGrids m b others

abbrev Rec : Type 0
Rec = ℕ → Cells → Tree

branches_grids : (m : ℕ) (rec : Rec) (b budget k share : ℕ) (g : Cells) (cell : ℕ) (ds : List ℕ) → IsGrid m g → share < b
    → AreAtMost (side m) ds → ((x : Cells) → IsGrid m x → AreGrids m b (rec share x)) → AreGrids m b (branches rec budget k share g cell ds)
unfolding branches
branches_grids m rec b budget k share g cell [] grid less few is = tt
branches_grids m rec b budget k share g cell (d ∷ ds) grid less few is =
    let next : IsGrid m (set g cell d) = set_grid m g cell d grid few.0 in
    (next, less, is (set g cell d) next, branches_grids m rec b budget k share g cell ds grid less few.1 is)

cell_grids : (m : ℕ) (rec : Rec) (b budget : ℕ) (g : Cells) (o : Option ℕ) → IsGrid m g → budget ≤ b
    → ((c : ℕ) (x : Cells) → c < budget → IsGrid m x → AreGrids m b (rec c x)) → AreGrids m b (at_cell m rec budget g o)
unfolding at_cell
cell_grids m rec b budget g None grid within is = grid
cell_grids m rec b zero g (Some cell) grid within is = tt
cell_grids m rec b (suc rest) g (Some cell) grid within is =
    let ds : List ℕ = candidates m g cell in
    let share : ℕ = rest / length ds in
    let less : share < suc rest = let le : share ≤ rest = share_falls rest (length ds) in omega arith in
    branches_grids m rec b (suc rest) (length ds) share g cell ds grid (omega arith) (candidates_at_most m g cell) (λ x. is share x less)

grown_grids : (m b depth budget : ℕ) (g : Cells) → IsGrid m g → budget ≤ b → AreGrids m b (grown m depth budget g)
unfolding grown
grown_grids m b zero budget g grid within = tt
grown_grids m b (suc depth) budget g grid within =
    cond_both (conflict m g) end (at_cell m (λ k h. grown m depth k h) budget g (fewest m g)) (λ t. AreGrids m b t)
    (λ yes. tt)
    (λ no. cell_grids m (λ k h. grown m depth k h) b budget g (fewest m g) grid within
    (λ c x less next. grown_grids m b depth c x next (omega arith)))

abbrev IsBelow : ℕ → ℕ → ℕ × Cells → Type 0
IsBelow m b c = IsGrid m c.1 × (c.0 < b)

child_children : (m b grain budget k share : ℕ) (g : Cells) (below : Tree) → IsGrid m g → share < b
    → All (IsBelow m b) (walk grain below).children → All (IsBelow m b) (met_at grain budget k share g below).children
child_children m b grain budget k share g below grid less is =
    met_cases grain budget k share g below (λ met. All (IsBelow m b) met.children)
    (All-cons (IsBelow m b) (share, g) [] (grid, less) (All-nil (IsBelow m b)))
    is

walk_children : (m b grain : ℕ) (t : Tree) → AreGrids m b t → All (IsBelow m b) (walk grain t).children
walk_children m b grain end is = All-nil (IsBelow m b)
walk_children m b grain (solution g) is = All-nil (IsBelow m b)
walk_children m b grain over is = All-nil (IsBelow m b)
walk_children m b grain (child budget k share g below others) is =
    All-append (IsBelow m b) (met_at grain budget k share g below).children (walk grain others).children
    (child_children m b grain budget k share g below is.0 is.1 (walk_children m b grain below is.2))
    (walk_children m b grain others is.3)

-- each board that a walk hands out is a grid with a lower budget
pub children_below : (m grain b : ℕ) (g : Cells) → IsGrid m g → All (λ c. IsGrid m c.1 × (c.0 < b)) (walk grain (tree m b g)).children
children_below m grain b g grid = walk_children m b grain (tree m b g) (grown_grids m b (suc b) b g grid (omega arith))

walk_grids : (m b grain : ℕ) (t : Tree) → AreGrids m b t → All (IsGrid m) (walk grain t).solutions
walk_grids m b grain end is = All-nil (IsGrid m)
walk_grids m b grain (solution g) is = All-cons (IsGrid m) g [] is (All-nil (IsGrid m))
walk_grids m b grain over is = All-nil (IsGrid m)
walk_grids m b grain (child budget k share g below others) is =
    All-append (IsGrid m) (met_at grain budget k share g below).solutions (walk grain others).solutions
    (met_cases grain budget k share g below (λ met. All (IsGrid m) met.solutions) (All-nil (IsGrid m)) (walk_grids m b grain below is.2))
    (walk_grids m b grain others is.3)

-- the solution nodes that a walk meets are grids
pub solutions_grids : (m grain b : ℕ) (g : Cells) → IsGrid m g → All (λ s. IsGrid m s) (walk grain (tree m b g)).solutions
solutions_grids m grain b g grid = walk_grids m b grain (tree m b g) (grown_grids m b (suc b) b g grid (omega arith))
