-- The search tree of a grid with a budget, and what is read off it.
use Rattle.std.specs.Prelude.{ℕ, ◌+◌, zero, suc, ◌/◌, nat_lt, Bool, true, false, ◌&&◌, ◌||◌, List, [], ◌∷◌, ◌++◌, length, slice_set, Option}
use Rattle.std.specs.Prelude.{Some, None, if◌then◌else◌}
use Rattle.sudoku_law.specs.Grid.{Cells, conflict, candidates, fewest}

-- what is at and below a node, or at a node's children from one on
pub data Tree : Type 0 where
  -- nothing: the node is dead, or there is no further child
  end : Tree
  -- the node is a full grid without conflict
  solution : Cells → Tree
  -- the budget is used up
  over : Tree
  -- a child of a node with this budget and number of children: the child's budget, its grid and its tree; then the node's other children
  child : ℕ → ℕ → ℕ → Cells → Tree → Tree → Tree

-- a child for each digit at the cell, in order; rec is the tree of each
unfoldable pub branches : (ℕ → Cells → Tree) → ℕ → ℕ → ℕ → Cells → ℕ → List ℕ → Tree
branches rec budget k share g cell [] = end
branches rec budget k share g cell (d ∷ ds) =
    child budget k share (slice_set g cell d) (rec share (slice_set g cell d)) (branches rec budget k share g cell ds)

-- a node without conflict, by its blank cell with the fewest candidates, if any
unfoldable pub at_cell : ℕ → (ℕ → Cells → Tree) → ℕ → Cells → Option ℕ → Tree
at_cell m rec budget g None = solution g
at_cell m rec zero g (Some cell) = over
at_cell m rec (suc rest) g (Some cell) =
    let k = length (candidates m g cell) in
    branches rec (suc rest) k (rest / k) g cell (candidates m g cell)

-- one node, over what is known of its children
abbrev pub node : ℕ → (ℕ → Cells → Tree) → ℕ → Cells → Tree
node m rec budget g = if conflict m g then end else at_cell m rec budget g (fewest m g)

-- the nodes down to a depth
unfoldable pub grown : ℕ → ℕ → ℕ → Cells → Tree
grown m zero budget g = end
grown m (suc depth) budget g = node m (λ b h. grown m depth b h) budget g

-- the search tree: a child's budget is below its parent's, so no path is longer than the budget.
-- It is its own node: tree m budget g ≡ node m (tree m) budget g
abbrev pub tree : ℕ → ℕ → Cells → Tree
tree m budget g = grown m (suc budget) budget g

-- the solution nodes, in the order of the tree
abbrev pub solutions : Tree → List Cells
solutions (solution g) = g ∷ []
solutions (child budget k share g below others) = solutions below ++ solutions others
solutions _ = []

-- some node is over
abbrev pub is_over : Tree → Bool
is_over over = true
is_over (child budget k share g below others) = is_over below || is_over others
is_over _ = false

-- a node with this budget and number of children hands them out as units of their own
abbrev pub hands_out : ℕ → ℕ → ℕ → Bool
hands_out grain budget k = nat_lt grain budget && nat_lt 1 k

-- how many nodes below the root are handed out
abbrev pub handed : ℕ → Tree → ℕ
handed grain (child budget k share g below others) =
    (if hands_out grain budget k then 1 else 0) + handed grain below + handed grain others
handed grain _ = 0

-- the boards made of a puzzle: the root, and each node whose parent has two or more candidates and a budget above the grain
abbrev pub boards : ℕ → Tree → ℕ
boards grain t = 1 + handed grain t

-- what one unit's work meets: solution nodes, boards that it hands out, and whether a node is over
pub record Met : Type 0 where
  pub solutions : List Cells
  pub children : List (ℕ × Cells)
  pub over : Bool

-- nothing was met
abbrev pub nothing : Met
nothing = record { solutions = []; children = []; over = false }

-- what was met in two walks, one after the other
abbrev pub both : Met → Met → Met
both a b = record { solutions = a.solutions ++ b.solutions; children = a.children ++ b.children; over = a.over || b.over }

-- the walk of one unit: it works each child, or hands it out
abbrev pub walk : ℕ → Tree → Met
walk grain end = nothing
walk grain (solution g) = record { solutions = g ∷ []; children = []; over = false }
walk grain over = record { solutions = []; children = []; over = true }
walk grain (child budget k share g below others) =
    both (if hands_out grain budget k then record { solutions = []; children = (share, g) ∷ []; over = false } else walk grain below)
    (walk grain others)
