-- The depth of a tree does not matter once it is above the budget, and so the tree is its own node.
use Rattle.std.proofs.Common.{◌≡◌, ◌<◌, ◌≤◌, ℕ, zero, suc, ◌/◌, cond, List, [], ◌∷◌, length, set, Option, Some, None, refl, ap, arith}
use Rattle.sudoku_law.specs.Grid.{Cells, conflict, candidates, fewest}
use Rattle.sudoku_law.specs.Tree.{Tree, end, branches, at_cell, node, grown, tree}

abbrev Rec : Type 0
Rec = ℕ → Cells → Tree

branches_same : (f h : Rec) (budget k share : ℕ) (g : Cells) (cell : ℕ) (ds : List ℕ) → ((x : Cells) → f share x ≡ h share x)
    → branches f budget k share g cell ds ≡ branches h budget k share g cell ds
unfolding branches
branches_same f h budget k share g cell [] same = refl
branches_same f h budget k share g cell (d ∷ ds) same = rw (same (set g cell d), branches_same f h budget k share g cell ds same) refl

-- a child's share is below its parent's budget
pub share_falls : (rest k : ℕ) → rest / k ≤ rest
share_falls rest k = grind arith

cell_same : (m : ℕ) (f h : Rec) (budget : ℕ) (g : Cells) (o : Option ℕ) → ((b : ℕ) (x : Cells) → b < budget → f b x ≡ h b x)
    → at_cell m f budget g o ≡ at_cell m h budget g o
unfolding at_cell
cell_same m f h budget g None same = refl
cell_same m f h zero g (Some cell) same = refl
cell_same m f h (suc rest) g (Some cell) same =
    let ds : List ℕ = candidates m g cell in
    let share : ℕ = rest / length ds in
    let less : share < suc rest = let le : share ≤ rest = share_falls rest (length ds) in omega arith in
    branches_same f h (suc rest) (length ds) share g cell ds (λ x. same share x less)

node_same : (m : ℕ) (f h : Rec) (budget : ℕ) (g : Cells) → ((b : ℕ) (x : Cells) → b < budget → f b x ≡ h b x)
    → node m f budget g ≡ node m h budget g
node_same m f h budget g same = ap (λ (t : Tree). cond (conflict m g) end t) (cell_same m f h budget g (fewest m g) same)

-- trees of two depths above the budget are one
pub depth_same : (m p q budget : ℕ) (g : Cells) → budget < p → budget < q → grown m p budget g ≡ grown m q budget g
unfolding grown
depth_same m zero q budget g under_p under_q = absurd (omega arith)
depth_same m (suc p) zero budget g under_p under_q = absurd (omega arith)
depth_same m (suc p) (suc q) budget g under_p under_q =
    node_same m (λ b x. grown m p b x) (λ b x. grown m q b x) budget g (λ b x less. depth_same m p q b x (omega arith) (omega arith))

-- the equation of the tree: one node, over the trees of its children
pub tree_is_node : (m b : ℕ) (g : Cells) → tree m b g ≡ node m (λ k h. tree m k h) b g
unfolding grown
tree_is_node m b g = node_same m (λ k x. grown m b k x) (λ k x. tree m k x) b g (λ k x less. depth_same m b (suc k) k x less (omega arith))
