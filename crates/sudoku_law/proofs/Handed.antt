-- What one unit's walk meets, and what the trees of its children have, are together the whole tree's.
use Rattle.std.proofs.Common.{◌≡◌, ◌<◌, ◌≤◌, ℕ, zero, suc, ◌+◌, ◌/◌, Bool, true, false, cond, ◌||◌, List, [], ◌∷◌, ◌++◌, length, set}
use Rattle.std.proofs.Common.{Option, Some, None, refl, sym, ap, ◌∙◌, arith, subst, sum_by, IsPermutation, append_assoc, append-nil}
use Rattle.std.specs.List.{flat_map, list_any}
use Rattle.std.proofs.lemmas.Bool.{cond_both}
use Rattle.std.proofs.lemmas.List.Concat.{flat_map-append}
use Rattle.std.proofs.lemmas.List.Folds.{list_any-append}
use Rattle.std.proofs.lemmas.List.Sorted.{IsPermutation-refl, IsPermutation-append, IsPermutation-append_left, IsPermutation-append_right}
use Rattle.std.proofs.lemmas.List.Sorted.{IsPermutation-append_comm, IsPermutation-trans}
use Rattle.std.proofs.lemmas.List.Sums.{sum_by-append, sum_by-cons}
use Rattle.sudoku_law.specs.Grid.{Cells, conflict, candidates, fewest}
use Rattle.sudoku_law.specs.Tree.{Tree, end, solution, over, child, Met, branches, at_cell, grown, tree, solutions, is_over, hands_out}
use Rattle.sudoku_law.specs.Tree.{handed, boards, walk}
use Rattle.sudoku_law.proofs.Depth.{share_falls, depth_same}

-- each child's tree is the tree of its grid with its budget
abbrev IsGrown : ℕ → Tree → Type 0
IsGrown m end = Unit
IsGrown m (solution g) = Unit
IsGrown m over = Unit
IsGrown m (child budget k share g below others) = (below ≡ tree m share g) × IsGrown m below × IsGrown m others

abbrev Rec : Type 0
Rec = ℕ → Cells → Tree

branches_grown : (m : ℕ) (rec : Rec) (budget k share : ℕ) (g : Cells) (cell : ℕ) (ds : List ℕ)
    → ((x : Cells) → rec share x ≡ tree m share x) → ((x : Cells) → IsGrown m (rec share x))
    → IsGrown m (branches rec budget k share g cell ds)
unfolding branches
branches_grown m rec budget k share g cell [] same is = tt
branches_grown m rec budget k share g cell (d ∷ ds) same is =
    (same (set g cell d), is (set g cell d), branches_grown m rec budget k share g cell ds same is)

cell_grown : (m : ℕ) (rec : Rec) (budget : ℕ) (g : Cells) (o : Option ℕ) → ((b : ℕ) (x : Cells) → b < budget → rec b x ≡ tree m b x)
    → ((b : ℕ) (x : Cells) → b < budget → IsGrown m (rec b x)) → IsGrown m (at_cell m rec budget g o)
unfolding at_cell
cell_grown m rec budget g None same is = tt
cell_grown m rec zero g (Some cell) same is = tt
cell_grown m rec (suc rest) g (Some cell) same is =
    let ds : List ℕ = candidates m g cell in
    let share : ℕ = rest / length ds in
    let less : share < suc rest = let le : share ≤ rest = share_falls rest (length ds) in omega arith in
    branches_grown m rec (suc rest) (length ds) share g cell ds (λ x. same share x less) (λ x. is share x less)

grown_is : (m depth b : ℕ) (g : Cells) → b < depth → IsGrown m (grown m depth b g)
unfolding grown
grown_is m zero b g under = absurd (omega arith)
grown_is m (suc depth) b g under =
    cond_both (conflict m g) end (at_cell m (λ k h. grown m depth k h) b g (fewest m g)) (λ t. IsGrown m t)
    (λ yes. tt)
    (λ no. cell_grown m (λ k h. grown m depth k h) b g (fewest m g)
    (λ k x less. depth_same m depth (suc k) k x (omega arith) (omega arith))
    (λ k x less. grown_is m depth k x (omega arith)))

tree_grown : (m b : ℕ) (g : Cells) → IsGrown m (tree m b g)
tree_grown m b g = grown_is m (suc b) b g (omega arith)

-- a board that is handed out
abbrev pub handed_out : ℕ → Cells → Met
handed_out share g = record { solutions = []; children = (share, g) ∷ []; over = false }

-- what a child adds to a walk: itself where it is handed out, and else what its own tree's walk meets
abbrev pub met_at : ℕ → ℕ → ℕ → ℕ → Cells → Tree → Met
met_at grain budget k share g below = cond (hands_out grain budget k) (handed_out share g) (walk grain below)

-- a child is handed out, or its tree is walked on
pub met_cases : (grain budget k share : ℕ) (g : Cells) (below : Tree) (P : Met → Type 0) → P (handed_out share g) → P (walk grain below)
    → P (met_at grain budget k share g below)
met_cases grain budget k share g below P out worked =
    cond_both (hands_out grain budget k) (handed_out share g) (walk grain below) P (λ yes. out) (λ no. worked)

-- the solution nodes of these boards' trees
abbrev below_all : ℕ → List (ℕ × Cells) → List Cells
below_all m cs = flat_map (λ c. solutions (tree m c.0 c.1)) cs

permutation_is : (xs ys : List Cells) → xs ≡ ys → IsPermutation xs ys
permutation_is xs ys e = subst (λ zs. IsPermutation xs zs) e (IsPermutation-refl xs)

-- two parts each in another order, put together
regroup : (a b p q u v : List Cells) → IsPermutation a (p ++ u) → IsPermutation b (q ++ v) → IsPermutation (a ++ b) ((p ++ q) ++ (u ++ v))
regroup a b p q u v first second =
    IsPermutation-trans (a ++ b) ((p ++ u) ++ (q ++ v)) ((p ++ q) ++ (u ++ v))
    (IsPermutation-append a (p ++ u) b (q ++ v) first second)
    (IsPermutation-trans ((p ++ u) ++ (q ++ v)) (p ++ ((u ++ q) ++ v)) ((p ++ q) ++ (u ++ v))
    (permutation_is ((p ++ u) ++ (q ++ v)) (p ++ ((u ++ q) ++ v)) (simp append_assoc))
    (IsPermutation-trans (p ++ ((u ++ q) ++ v)) (p ++ ((q ++ u) ++ v)) ((p ++ q) ++ (u ++ v))
    (IsPermutation-append_right p ((u ++ q) ++ v) ((q ++ u) ++ v)
    (IsPermutation-append_left v (u ++ q) (q ++ u) (IsPermutation-append_comm u q)))
    (permutation_is (p ++ ((q ++ u) ++ v)) ((p ++ q) ++ (u ++ v)) (simp append_assoc))))

abbrev AddsUp : ℕ → Tree → Met → Type 0
AddsUp m t met = IsPermutation (solutions t) (met.solutions ++ below_all m met.children)

child_adds : (m grain budget k share : ℕ) (g : Cells) (below : Tree) → below ≡ tree m share g → AddsUp m below (walk grain below)
    → AddsUp m below (met_at grain budget k share g below)
child_adds m grain budget k share g below same adds =
    met_cases grain budget k share g below (λ met. AddsUp m below met)
    (permutation_is (solutions below) (solutions (tree m share g) ++ [])
    (ap solutions same ∙ sym (append-nil (solutions (tree m share g)))))
    adds

walk_adds : (m grain : ℕ) (t : Tree) → IsGrown m t → AddsUp m t (walk grain t)
walk_adds m grain end is = IsPermutation-refl []
walk_adds m grain (solution g) is = IsPermutation-refl (g ∷ [])
walk_adds m grain over is = IsPermutation-refl []
walk_adds m grain (child budget k share g below others) is =
    let met : Met = met_at grain budget k share g below in
    let rest : Met = walk grain others in
    subst (λ zs. IsPermutation (solutions below ++ solutions others) ((met.solutions ++ rest.solutions) ++ zs))
    (sym (flat_map-append (λ c. solutions (tree m c.0 c.1)) met.children rest.children))
    (regroup (solutions below) (solutions others) met.solutions rest.solutions (below_all m met.children) (below_all m rest.children)
    (child_adds m grain budget k share g below is.0 (walk_adds m grain below is.1))
    (walk_adds m grain others is.2))

-- the solution nodes of a tree are those of the walk and those of the children's trees
pub solutions_add : (m grain b : ℕ) (g : Cells) → IsPermutation (solutions (tree m b g))
    ((walk grain (tree m b g)).solutions ++ flat_map (λ c. solutions (tree m c.0 c.1)) (walk grain (tree m b g)).children)
solutions_add m grain b g = walk_adds m grain (tree m b g) (tree_grown m b g)

-- the boards of these boards' trees
abbrev boards_of : ℕ → ℕ → List (ℕ × Cells) → ℕ
boards_of m grain cs = sum_by (λ c. boards grain (tree m c.0 c.1)) cs

child_boards : (m grain budget k share : ℕ) (g : Cells) (below : Tree) → below ≡ tree m share g
    → handed grain below ≡ boards_of m grain (walk grain below).children → cond (hands_out grain budget k) 1 0 + handed grain below
    ≡ boards_of m grain (met_at grain budget k share g below).children
child_boards m grain budget k share g below same adds = at (hands_out grain budget k)
  where
    at : (b : Bool) → cond b 1 0 + handed grain below ≡ boards_of m grain (cond b (handed_out share g) (walk grain below)).children
    at true =
        let e : handed grain below ≡ handed grain (tree m share g) = ap (handed grain) same in
        omega (arith, e, sum_by-cons (λ (c : ℕ × Cells). boards grain (tree m c.0 c.1)) (share, g) [])
    at false = omega (arith, adds)

walk_boards : (m grain : ℕ) (t : Tree) → IsGrown m t → handed grain t ≡ boards_of m grain (walk grain t).children
walk_boards m grain end is = refl
walk_boards m grain (solution g) is = refl
walk_boards m grain over is = refl
walk_boards m grain (child budget k share g below others) is =
    let met : Met = met_at grain budget k share g below in
    let rest : Met = walk grain others in
    let here : cond (hands_out grain budget k) 1 0 + handed grain below ≡ boards_of m grain met.children =
    child_boards m grain budget k share g below is.0 (walk_boards m grain below is.1) in
    let later : handed grain others ≡ boards_of m grain rest.children = walk_boards m grain others is.2 in
    let all = sum_by-append (λ (c : ℕ × Cells). boards grain (tree m c.0 c.1)) met.children rest.children in
    omega (arith, here, later, all)

-- the boards handed out in a tree are the children of the walk, and those handed out in their trees
pub boards_add : (m grain b : ℕ) (g : Cells)
    → handed grain (tree m b g) ≡ sum_by (λ c. boards grain (tree m c.0 c.1)) (walk grain (tree m b g)).children
boards_add m grain b g = walk_boards m grain (tree m b g) (tree_grown m b g)

abbrev over_in : ℕ → List (ℕ × Cells) → Bool
over_in m cs = list_any (λ c. is_over (tree m c.0 c.1)) cs

abbrev IsOver : ℕ → Tree → Met → Type 0
IsOver m t met = is_over t ≡ (met.over || over_in m met.children)

either : (a b p q u v : Bool) → a ≡ (p || u) → b ≡ (q || v) → (a || b) ≡ ((p || q) || (u || v))
either a b p q u v e f = ap (λ x. x || b) e ∙ ap (λ y. (p || u) || y) f ∙ turned p q u v
  where
    turned : (p q u v : Bool) → ((p || u) || (q || v)) ≡ ((p || q) || (u || v))
    turned true q u v = refl
    turned false true true v = refl
    turned false true false v = refl
    turned false false u v = refl

or_false : (a : Bool) → a ≡ (a || false)
or_false true = refl
or_false false = refl

child_over : (m grain budget k share : ℕ) (g : Cells) (below : Tree) → below ≡ tree m share g → IsOver m below (walk grain below)
    → IsOver m below (met_at grain budget k share g below)
child_over m grain budget k share g below same adds =
    met_cases grain budget k share g below (λ met. IsOver m below met)
    (ap is_over same ∙ or_false (is_over (tree m share g)))
    adds

walk_over : (m grain : ℕ) (t : Tree) → IsGrown m t → IsOver m t (walk grain t)
walk_over m grain end is = refl
walk_over m grain (solution g) is = refl
walk_over m grain over is = refl
walk_over m grain (child budget k share g below others) is =
    let met : Met = met_at grain budget k share g below in
    let rest : Met = walk grain others in
    either (is_over below) (is_over others) met.over rest.over (over_in m met.children) (over_in m rest.children)
    (child_over m grain budget k share g below is.0 (walk_over m grain below is.1))
    (walk_over m grain others is.2)
    ∙ ap (λ z. (met.over || rest.over) || z)
    (sym (list_any-append (λ (c : ℕ × Cells). is_over (tree m c.0 c.1)) met.children rest.children))

-- a tree has a node that is over where the walk meets one or a child's tree has one
pub over_adds : (m grain b : ℕ) (g : Cells)
    → is_over (tree m b g) ≡ ((walk grain (tree m b g)).over || list_any (λ c. is_over (tree m c.0 c.1)) (walk grain (tree m b g)).children)
over_adds m grain b g = walk_over m grain (tree m b g) (tree_grown m b g)
