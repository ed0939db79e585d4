-- What a unit weighs, against what its work leaves and what it makes: a board by its tree, a job by its answer.
use Rattle.std.proofs.Common.{◌≡◌, ◌≤◌, ◌+◌, ◌==◌, ℕ, Bool, true, false, cond, ◌||◌, ◌&&◌, List, [], ◌∷◌, ◌++◌, length, refl, sym, ap, ◌∙◌}
use Rattle.std.proofs.Common.{arith, count_by, sum_by}
use Rattle.std.specs.List.{flat_map, list_any}
use Rattle.std.proofs.lemmas.Bool.{or_parts}
use Rattle.std.proofs.lemmas.List.{length-append}
use Rattle.std.proofs.lemmas.List.Concat.{length-flat_map}
use Rattle.std.proofs.lemmas.List.Sorted.{length_permutation, sum_by-IsPermutation}
use Rattle.std.proofs.lemmas.List.Sums.{sum_by-append, sum_by-cons}
use Rattle.sudoku_law.specs.Grid.{Cells}
use Rattle.sudoku_law.specs.Tree.{boards, handed, is_over, solutions}
use Rattle.sudoku_rules.specs.Sides.{tree_of}
use Rattle.sudoku_rules.proofs.Trees.{handed_add, nodes_add, over_add}
use Rattle.job_units.specs.Puts.{is_kind}
use Rattle.job_units.specs.Works.{made_by, walk_of}
use Rattle.job_units.specs.declared.boards.Board.{Board}
use Rattle.job_units.specs.declared.units.Made.{Made}
use Rattle.job_units.specs.declared.units.Made.TheVariants as made
use Rattle.job_units.proofs.Counts.{boards_by, no_answers_by, no_jobs_by, solutions_by}
use Rattle.puzzle_app.specs.Arrivals.{is_over_at, makes}
use Rattle.puzzle_law.proofs.Pieces.{over, pieces}
use Rattle.puzzle_law.proofs.Sums.{at_most_one, none_if, one_if, sum_flat, sum_none, sum_one_more}
use Rattle.puzzle_law.proofs.Weights.{answer_weight, job_weight, kept_weight, made_sum, made_weighs, told_weight, weight}

-- Of a board with this budget and grid: its tree's solution nodes, how many of them pass a test, and how many boards the tree hands out.
-- Whether some node is over is 0 or 1, or 0 or the number of its boards.
abbrev pub nodes : ℕ → Cells → List Cells
nodes budget g = solutions (tree_of budget g)

-- how many solution nodes of a board's tree pass a test
abbrev pub passing : (Cells → Bool) → ℕ → Cells → ℕ
passing p budget g = count_by p (nodes budget g)

-- how many solution nodes a board's tree has
abbrev pub found : ℕ → Cells → ℕ
found budget g = length (nodes budget g)

-- how many boards a board's tree hands out
abbrev pub handed_out : ℕ → ℕ → Cells → ℕ
handed_out grain budget g = handed grain (tree_of budget g)

-- whether some node of a board's tree is over, as 0 or 1
abbrev pub over_one : ℕ → Cells → ℕ
over_one budget g = cond (is_over (tree_of budget g)) 1 0

-- if some node of a board's tree is over, how many boards it has, and otherwise 0
abbrev pub over_all : ℕ → ℕ → Cells → ℕ
over_all grain budget g = cond (is_over (tree_of budget g)) (boards grain (tree_of budget g)) 0

-- the puzzle is the one of this number
abbrev pub is_of : ℕ → ℕ → Bool
is_of n k = k == n

-- any puzzle
abbrev pub any_puzzle : ℕ → Bool
any_puzzle k = true

-- a solution weighs nothing
abbrev pub no_weight : Cells → ℕ
no_weight g = 0

abbrev Trees : Type 0
Trees = List (ℕ × Cells)

-- the sum over boards that are handed out
abbrev over_trees : (ℕ → Cells → ℕ) → Trees → ℕ
over_trees f cs = sum_by (λ c. f c.0 c.1) cs

-- Solution nodes.

-- those of the tree are those of the walk and those of the children's trees
nodes_below : ℕ → Board → List Cells
nodes_below grain b = flat_map (λ c. nodes c.0 c.1) (walk_of grain b).children

passing_adds : (grain : ℕ) (p : Cells → Bool) (b : Board) →
    passing p b.budget b.grid ≡ over_trees (passing p) (walk_of grain b).children + count_by p (walk_of grain b).solutions
unfolding nodes_below
passing_adds grain p b =
    let met : List Cells = (walk_of grain b).solutions in
    let all : count_by p (met ++ nodes_below grain b) ≡ passing p b.budget b.grid =
    sum_by-IsPermutation (one_if p) (nodes b.budget b.grid) (met ++ nodes_below grain b) (nodes_add grain b.budget b.grid) in
    omega (
      arith,
      all,
      sum_flat (one_if p) (λ (c : ℕ × Cells). nodes c.0 c.1) (walk_of grain b).children,
      sum_by-append (one_if p) met (nodes_below grain b),
    )

passing_board : (grain n : ℕ) (p : Cells → Bool) (b : Board) →
    cond (b.puzzle == n) (passing p b.budget b.grid) 0 ≡ sum_by (weight (is_of n) (passing p) (one_if p)) (pieces (made_by grain b))
passing_board grain n p b =
    let of_puzzle : ℕ → ℕ = λ m. cond (b.puzzle == n) m 0 in
    ap of_puzzle (passing_adds grain p b) ∙ sym (made_weighs (is_of n) (passing p) (one_if p) grain b)

-- work on a board leaves no such unit, and a solution stays
pub passing_law : (grain n : ℕ) (p : Cells → Bool) (common : List ℕ) (unit : Made) →
    weight (is_of n) (passing p) (one_if p) (over common unit)
    ≡ kept_weight (is_of n) (one_if p) (over common unit)
    + sum_by (weight (is_of n) (passing p) (one_if p)) (pieces (makes grain (over common unit)))
passing_law grain n p common (made.Board b) = omega (arith, passing_board grain n p b)
passing_law grain n p common (made.Solution s) = omega arith
passing_law grain n p common (made.Job j) = omega arith
passing_law grain n p common (made.Answer a) = omega arith

found_adds : (grain : ℕ) (b : Board) →
    found b.budget b.grid ≡ length (walk_of grain b).solutions + over_trees found (walk_of grain b).children
unfolding nodes_below
found_adds grain b =
    let met : List Cells = (walk_of grain b).solutions in
    let all : length (met ++ nodes_below grain b) ≡ found b.budget b.grid =
    length_permutation (nodes b.budget b.grid) (met ++ nodes_below grain b) (nodes_add grain b.budget b.grid) in
    omega (
      arith,
      all,
      length-append met (nodes_below grain b),
      length-flat_map (λ (c : ℕ × Cells). nodes c.0 c.1) (walk_of grain b).children,
    )

-- as many solutions are made
pub found_law : (grain : ℕ) (common : List ℕ) (unit : Made) →
    weight any_puzzle found no_weight (over common unit)
    ≡ count_by (is_kind 1) (makes grain (over common unit))
    + sum_by (weight any_puzzle found no_weight) (pieces (makes grain (over common unit)))
found_law grain common (made.Board b) =
    omega (
      arith,
      found_adds grain b,
      solutions_by grain b,
      sum_none (walk_of grain b).solutions,
      made_weighs any_puzzle found no_weight grain b,
    )
found_law grain common (made.Solution s) = refl
found_law grain common (made.Job j) = refl
found_law grain common (made.Answer a) = refl

-- Boards.

-- as many boards are made
pub handed_law : (grain : ℕ) (common : List ℕ) (unit : Made) →
    weight any_puzzle (handed_out grain) no_weight (over common unit)
    ≡ count_by (is_kind 0) (makes grain (over common unit))
    + sum_by (weight any_puzzle (handed_out grain) no_weight) (pieces (makes grain (over common unit)))
handed_law grain common (made.Board b) =
    let cs : Trees = (walk_of grain b).children in
    omega (
      arith,
      boards_by grain b,
      handed_add grain b.budget b.grid,
      sum_one_more (λ (c : ℕ × Cells). handed_out grain c.0 c.1) cs,
      sum_none (walk_of grain b).solutions,
      made_weighs any_puzzle (handed_out grain) no_weight grain b,
    )
handed_law grain common (made.Solution s) = refl
handed_law grain common (made.Job j) = refl
handed_law grain common (made.Answer a) = refl

-- Over nodes.

abbrev any_over : Trees → Bool
any_over cs = list_any (λ c. is_over (tree_of c.0 c.1)) cs

some_over : (cs : Trees) → cond (any_over cs) 1 0 ≤ over_trees over_one cs
some_over [] = omega arith
some_over (c ∷ cs) =
    omega (
      arith,
      sum_by-cons (λ (d : ℕ × Cells). over_one d.0 d.1) c cs,
      either (is_over (tree_of c.0 c.1)) (any_over cs),
      some_over cs,
    )
  where
    either : (a b : Bool) → cond (a || b) 1 0 ≤ cond a 1 0 + cond b 1 0
    either true b = omega arith
    either false b = omega arith

none_over : (grain : ℕ) (cs : Trees) → any_over cs ≡ false → over_trees (over_all grain) cs ≡ 0
none_over grain [] none = refl
none_over grain (c ∷ cs) none =
    let parts = or_parts (is_over (tree_of c.0 c.1)) (any_over cs) none in
    let this : Bool → ℕ = λ o. cond o (boards grain (tree_of c.0 c.1)) 0 in
    let here : over_all grain c.0 c.1 ≡ 0 = ap this parts.0 in
    omega (arith, here, none_over grain cs parts.1, sum_by-cons (λ (d : ℕ × Cells). over_all grain d.0 d.1) c cs)

over_few : (grain : ℕ) (cs : Trees) → over_trees (over_all grain) cs ≤ sum_by (λ c. boards grain (tree_of c.0 c.1)) cs
over_few grain [] = omega arith
over_few grain (c ∷ cs) =
    omega (
      arith,
      at_most (is_over (tree_of c.0 c.1)) (boards grain (tree_of c.0 c.1)),
      over_few grain cs,
      sum_by-cons (λ (d : ℕ × Cells). over_all grain d.0 d.1) c cs,
      sum_by-cons (λ (d : ℕ × Cells). boards grain (tree_of d.0 d.1)) c cs,
    )
  where
    at_most : (b : Bool) (n : ℕ) → cond b n 0 ≤ n
    at_most true n = omega arith
    at_most false n = omega arith

-- the tree of a board is over where its walk meets an over node, or the tree of a child is
over_one_board : (grain n : ℕ) (b : Board) →
    cond (b.puzzle == n) (over_one b.budget b.grid) 0
    ≤ cond ((b.puzzle == n) && (walk_of grain b).over) 1 0 + sum_by (weight (is_of n) over_one no_weight) (pieces (made_by grain b))
over_one_board grain n b =
    let cs : Trees = (walk_of grain b).children in
    let met : Bool = (walk_of grain b).over in
    let is : over_one b.budget b.grid ≤ cond met 1 0 + over_trees over_one cs =
    joined (is_over (tree_of b.budget b.grid)) met (any_over cs) (over_trees over_one cs) (over_add grain b.budget b.grid)
    (some_over cs) in
    omega (
      arith,
      made_weighs (is_of n) over_one no_weight grain b,
      of_puzzle (b.puzzle == n) met (over_one b.budget b.grid) (over_trees over_one cs) (sum_by no_weight (walk_of grain b).solutions) is,
    )
  where
    joined : (a met below : Bool) (m : ℕ) → a ≡ (met || below) → cond below 1 0 ≤ m → cond a 1 0 ≤ cond met 1 0 + m
    joined a true below m e h = omega (arith, at_most_one a)
    joined a false below m e h =
        let one : Bool → ℕ = λ x. cond x 1 0 in let same : cond {A = ℕ} a 1 0 ≡ cond below 1 0 = ap one e in omega arith

    of_puzzle : (t met : Bool) (a m k : ℕ) → a ≤ cond met 1 0 + m → cond t a 0 ≤ cond (t && met) 1 0 + cond t (m + k) 0
    of_puzzle true met a m k h = omega arith
    of_puzzle false met a m k h = omega arith

-- a board weighs at most whether its work met a node without budget, and what it makes
pub over_one_law : (grain n : ℕ) (common : List ℕ) (unit : Made) →
    weight (is_of n) over_one no_weight (over common unit)
    ≤ one_if (is_over_at grain n) (over common unit)
    + sum_by (weight (is_of n) over_one no_weight) (pieces (makes grain (over common unit)))
over_one_law grain n common (made.Board b) = over_one_board grain n b
over_one_law grain n common (made.Solution s) = omega (arith, none_if (s.puzzle == n))
over_one_law grain n common (made.Job j) = omega arith
over_one_law grain n common (made.Answer a) = omega arith

over_all_board : (grain n : ℕ) (b : Board) →
    cond ((b.puzzle == n) && (walk_of grain b).over) 1 0 + sum_by (weight (is_of n) (over_all grain) no_weight) (pieces (made_by grain b))
    ≤ cond (b.puzzle == n) (over_all grain b.budget b.grid) 0
over_all_board grain n b =
    let cs : Trees = (walk_of grain b).children in
    let met : Bool = (walk_of grain b).over in
    let below : ℕ = over_trees (over_all grain) cs in
    let few : 1 + below ≤ boards grain (tree_of b.budget b.grid) = omega (arith, over_few grain cs, handed_add grain b.budget b.grid) in
    let is : cond met 1 0 + below ≤ over_all grain b.budget b.grid =
    joined (is_over (tree_of b.budget b.grid)) met (any_over cs) (boards grain (tree_of b.budget b.grid)) below
    (over_add grain b.budget b.grid) few (none_over grain cs) in
    omega (
      arith,
      made_weighs (is_of n) (over_all grain) no_weight grain b,
      of_puzzle (b.puzzle == n) met (over_all grain b.budget b.grid) below (sum_by no_weight (walk_of grain b).solutions)
          (sum_none (walk_of grain b).solutions) is,
    )
  where
    joined : (a met below : Bool) (all m : ℕ) → a ≡ (met || below) → 1 + m ≤ all → (below ≡ false → m ≡ 0) → cond met 1 0 + m ≤ cond a all 0
    joined true met below all m e h none = omega (arith, at_most_one met)
    joined false true below all m e h none = absurd (cc)
    joined false false below all m e h none = omega (arith, none (sym e))

    of_puzzle : (t met : Bool) (a m k : ℕ) → k ≡ 0 → cond met 1 0 + m ≤ a → cond (t && met) 1 0 + cond t (m + k) 0 ≤ cond t a 0
    of_puzzle true met a m k e h = omega arith
    of_puzzle false met a m k e h = omega arith

-- whether a board's work met a node without budget, and what it makes, weigh at most what it weighs
pub over_all_law : (grain n : ℕ) (common : List ℕ) (unit : Made) →
    one_if (is_over_at grain n) (over common unit)
    + sum_by (weight (is_of n) (over_all grain) no_weight) (pieces (makes grain (over common unit)))
    ≤ weight (is_of n) (over_all grain) no_weight (over common unit)
over_all_law grain n common (made.Board b) = over_all_board grain n b
over_all_law grain n common (made.Solution s) = omega (arith, none_if (s.puzzle == n))
over_all_law grain n common (made.Job j) = omega arith
over_all_law grain n common (made.Answer a) = omega arith

-- Jobs and answers.

-- an answer is made of a job alone, and stays
pub answer_law : (w : ℕ × ℕ × ℕ → ℕ) (grain : ℕ) (common : List ℕ) (unit : Made) →
    answer_weight w (over common unit)
    ≡ told_weight w (over common unit) + sum_by (answer_weight w) (pieces (makes grain (over common unit)))
answer_law w grain common (made.Board b) =
    omega (
      arith,
      made_sum (answer_weight w) grain b,
      sum_none (walk_of grain b).children,
      sum_none (walk_of grain b).solutions,
    )
answer_law w grain common (made.Solution s) = refl
answer_law w grain common (made.Job j) = omega arith
answer_law w grain common (made.Answer a) = omega arith

-- no job is made, and of each job one answer
pub no_jobs_made : (grain : ℕ) (common : List ℕ) (unit : Made) → count_by (is_kind 2) (makes grain (over common unit)) ≡ 0
no_jobs_made grain common (made.Board b) = no_jobs_by grain b
no_jobs_made grain common (made.Solution s) = refl
no_jobs_made grain common (made.Job j) = refl
no_jobs_made grain common (made.Answer a) = refl

-- a job weighs the answer that its work makes
pub answers_law : (grain : ℕ) (common : List ℕ) (unit : Made) →
    job_weight (over common unit)
    ≡ count_by (is_kind 3) (makes grain (over common unit)) + sum_by job_weight (pieces (makes grain (over common unit)))
answers_law grain common (made.Board b) =
    omega (
      arith,
      made_sum job_weight grain b,
      no_answers_by grain b,
      sum_none (walk_of grain b).children,
      sum_none (walk_of grain b).solutions,
    )
answers_law grain common (made.Solution s) = refl
answers_law grain common (made.Job j) = refl
answers_law grain common (made.Answer a) = refl
