-- The search tree of a grid of any of the three sides: the boards that its walk hands out are of the same side.
use Rattle.std.proofs.Common.{◌≡◌, ◌<◌, ℕ, zero, suc, ◌/◌, ◌||◌, List, [], ◌∷◌, ◌++◌, length, set, Option, Some, None, refl, sym, ap, ◌∙◌}
use Rattle.std.proofs.Common.{subst, arith, All, sum_by, IsPermutation}
use Rattle.std.specs.List.{flat_map, list_any}
use Rattle.std.proofs.lemmas.Bool.{cond_both}
use Rattle.std.proofs.lemmas.List.{length-set}
use Rattle.std.proofs.lemmas.List.Elements.{All-nil, All-cons, All-append, All-head, All-tail, All-weaker}
use Rattle.std.proofs.lemmas.List.Sums.{sum_by-cons}
use Rattle.sudoku_law.specs.Grid.{Cells, IsGrid, conflict, candidates, fewest}
use Rattle.sudoku_law.specs.Tree.{Tree, end, solution, over, child, branches, at_cell, grown, tree, walk, solutions, is_over, handed}
use Rattle.sudoku_law.specs.Tree.{boards}
use Rattle.sudoku_law.proofs.Handed.{met_at, met_cases, boards_add, over_adds, solutions_add}
use Rattle.sudoku_law.proofs.Nodes.{children_below, solutions_grids}
use Rattle.sudoku_rules.specs.Sides.{IsSudoku, box_for, box_side, tree_of}
use Rattle.sudoku_rules.proofs.Sides.{box_low, box_high, grid_sudoku}

-- each child's grid has n cells
abbrev AreLong : ℕ → Tree → Type 0
AreLong n end = Unit
AreLong n (solution g) = Unit
AreLong n over = Unit
AreLong n (child budget k share g below others) = (length g ≡ n) × AreLong n below × AreLong n others

abbrev Rec : Type 0
Rec = ℕ → Cells → Tree

branches_long : (n : ℕ) (rec : Rec) (budget k share : ℕ) (g : Cells) (cell : ℕ) (ds : List ℕ) → length g ≡ n
    → ((x : Cells) → length x ≡ n → AreLong n (rec share x)) → AreLong n (branches rec budget k share g cell ds)
unfolding branches
branches_long n rec budget k share g cell [] long is = tt
branches_long n rec budget k share g cell (d ∷ ds) long is =
    let next : length (set g cell d) ≡ n = length-set g cell d ∙ long in
    (next, is (set g cell d) next, branches_long n rec budget k share g cell ds long is)

cell_long : (m n : ℕ) (rec : Rec) (budget : ℕ) (g : Cells) (o : Option ℕ) → length g ≡ n
    → ((b : ℕ) (x : Cells) → length x ≡ n → AreLong n (rec b x)) → AreLong n (at_cell m rec budget g o)
unfolding at_cell
cell_long m n rec budget g None long is = tt
cell_long m n rec zero g (Some cell) long is = tt
cell_long m n rec (suc rest) g (Some cell) long is =
    let k : ℕ = length (candidates m g cell) in
    branches_long n rec (suc rest) k (rest / k) g cell (candidates m g cell) long (is (rest / k))

grown_long : (m n depth budget : ℕ) (g : Cells) → length g ≡ n → AreLong n (grown m depth budget g)
unfolding grown
grown_long m n zero budget g long = tt
grown_long m n (suc depth) budget g long =
    cond_both (conflict m g) end (at_cell m (λ k h. grown m depth k h) budget g (fewest m g)) (λ t. AreLong n t)
    (λ yes. tt)
    (λ no. cell_long m n (λ k h. grown m depth k h) budget g (fewest m g) long (λ c x next. grown_long m n depth c x next))

abbrev IsLong : ℕ → ℕ × Cells → Type 0
IsLong n c = length c.1 ≡ n

walk_long : (n grain : ℕ) (t : Tree) → AreLong n t → All (IsLong n) (walk grain t).children
walk_long n grain end is = All-nil (IsLong n)
walk_long n grain (solution g) is = All-nil (IsLong n)
walk_long n grain over is = All-nil (IsLong n)
walk_long n grain (child budget k share g below others) is =
    All-append (IsLong n) (met_at grain budget k share g below).children (walk grain others).children
    (met_cases grain budget k share g below (λ met. All (IsLong n) met.children)
    (All-cons (IsLong n) (share, g) [] is.0 (All-nil (IsLong n))) (walk_long n grain below is.1))
    (walk_long n grain others is.2)

abbrev Boards : Type 0
Boards = List (ℕ × Cells)

-- the boards that a walk hands out have trees of the same side
abbrev SameTree : ℕ → ℕ × Cells → Type 0
SameTree m c = tree m c.0 c.1 ≡ tree_of c.0 c.1

same_trees : (grain b : ℕ) (g : Cells) → All (SameTree (box_side g)) (walk grain (tree_of b g)).children
same_trees grain b g =
    All-weaker (IsLong (length g)) (SameTree (box_side g)) (λ c long. ap (λ n. tree (box_for n) c.0 c.1) (sym long))
    (walk grain (tree_of b g)).children
    (walk_long (length g) grain (tree_of b g) (grown_long (box_side g) (length g) (suc b) b g refl))

nodes_same : (m : ℕ) (cs : Boards) → All (SameTree m) cs
    → flat_map (λ c. solutions (tree m c.0 c.1)) cs ≡ flat_map (λ c. solutions (tree_of c.0 c.1)) cs
nodes_same m [] same = refl
nodes_same m (c ∷ cs) same =
    ap (λ t. solutions t ++ flat_map (λ d. solutions (tree m d.0 d.1)) cs) (All-head (SameTree m) c cs same)
    ∙ ap (λ xs. solutions (tree_of c.0 c.1) ++ xs) (nodes_same m cs (All-tail (SameTree m) c cs same))

boards_same : (m grain : ℕ) (cs : Boards) → All (SameTree m) cs
    → sum_by (λ c. boards grain (tree m c.0 c.1)) cs ≡ sum_by (λ c. boards grain (tree_of c.0 c.1)) cs
boards_same m grain [] same = refl
boards_same m grain (c ∷ cs) same =
    let here : boards grain (tree m c.0 c.1) ≡ boards grain (tree_of c.0 c.1) =
    ap (λ t. boards grain t) (All-head (SameTree m) c cs same) in
    omega (
      arith,
      here,
      boards_same m grain cs (All-tail (SameTree m) c cs same),
      sum_by-cons (λ (d : ℕ × Cells). boards grain (tree m d.0 d.1)) c cs,
      sum_by-cons
          (λ (d : ℕ × Cells). boards grain (tree_of d.0 d.1)) c cs,
    )

over_same : (m : ℕ) (cs : Boards) → All (SameTree m) cs
    → list_any (λ c. is_over (tree m c.0 c.1)) cs ≡ list_any (λ c. is_over (tree_of c.0 c.1)) cs
over_same m [] same = refl
over_same m (c ∷ cs) same =
    ap (λ t. is_over t || list_any (λ d. is_over (tree m d.0 d.1)) cs) (All-head (SameTree m) c cs same)
    ∙ ap (λ o. is_over (tree_of c.0 c.1) || o) (over_same m cs (All-tail (SameTree m) c cs same))

-- The laws of what one unit takes of a tree, at the side of each grid.

-- a tree's solutions are those of its walk and of the boards that the walk hands out
pub nodes_add : (grain b : ℕ) (g : Cells)
    → IsPermutation (solutions (tree_of b g))
    ((walk grain (tree_of b g)).solutions ++ flat_map (λ c. solutions (tree_of c.0 c.1)) (walk grain (tree_of b g)).children)
nodes_add grain b g =
    let cs : Boards = (walk grain (tree_of b g)).children in
    subst (λ xs. IsPermutation (solutions (tree_of b g)) ((walk grain (tree_of b g)).solutions ++ xs))
    (nodes_same (box_side g) cs (same_trees grain b g)) (solutions_add (box_side g) grain b g)

-- the boards handed out are counted over those that the walk hands out
pub handed_add : (grain b : ℕ) (g : Cells)
    → handed grain (tree_of b g) ≡ sum_by (λ c. boards grain (tree_of c.0 c.1)) (walk grain (tree_of b g)).children
handed_add grain b g =
    boards_add (box_side g) grain b g ∙ boards_same (box_side g) grain (walk grain (tree_of b g)).children (same_trees grain b g)

-- a tree is over if its walk is, or if that of a board handed out is
pub over_add : (grain b : ℕ) (g : Cells)
    → is_over (tree_of b g) ≡
    ((walk grain (tree_of b g)).over || list_any (λ c. is_over (tree_of c.0 c.1)) (walk grain (tree_of b g)).children)
over_add grain b g =
    over_adds (box_side g) grain b g
    ∙ ap (λ o. (walk grain (tree_of b g)).over || o) (over_same (box_side g) (walk grain (tree_of b g)).children (same_trees grain b g))

-- the boards that a walk hands out, and the solution nodes that it meets, are grids
pub children_sudoku : (grain b : ℕ) (g : Cells) → IsSudoku g → All (λ c. IsSudoku c.1 × (c.0 < b)) (walk grain (tree_of b g)).children
children_sudoku grain b g is =
    All-weaker (λ c. IsGrid (box_side g) c.1 × (c.0 < b)) (λ c. IsSudoku c.1 × (c.0 < b))
    (λ c below. (grid_sudoku (box_side g) (box_low (length g)) (box_high (length g)) c.1 below.0, below.1))
    (walk grain (tree_of b g)).children (children_below (box_side g) grain b g is)

-- each solution of a walk is a grid of a sudoku
pub nodes_sudoku : (grain b : ℕ) (g : Cells) → IsSudoku g → All IsSudoku (walk grain (tree_of b g)).solutions
nodes_sudoku grain b g is =
    All-weaker (λ s. IsGrid (box_side g) s) IsSudoku (λ s grid. grid_sudoku (box_side g) (box_low (length g)) (box_high (length g)) s grid)
    (walk grain (tree_of b g)).solutions (solutions_grids (box_side g) grain b g is)
