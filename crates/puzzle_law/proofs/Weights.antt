-- Weights of units, and what is conserved of them. Where each unit weighs what its work leaves and what it makes, all that was left by the
-- work on all units that came is what was made first weighs.
use Rattle.std.proofs.Common.{◌≡◌, ◌≤◌, ◌+◌, ℕ, Bool, cond, List, [], ◌∷◌, ◌++◌, map, sym, ap, ◌∙◌, arith, count_by, sum_by, IsPermutation}
use Rattle.std.specs.List.{flat_map}
use Rattle.std.proofs.lemmas.List.{map-append}
use Rattle.std.proofs.lemmas.List.Sorted.{sum_by-IsPermutation}
use Rattle.std.proofs.lemmas.List.Sums.{sum_by-append, sum_by-cons}
use Rattle.sudoku_law.specs.Grid.{Cells}
use Rattle.job_units.specs.Works.{answer_of, child_of, made_by, solution_at, walk_of}
use Rattle.job_units.specs.declared.boards.Board.{Board}
use Rattle.job_units.specs.declared.units.Made.{Made}
use Rattle.job_units.specs.declared.units.Made.TheVariants as made
use Rattle.puzzle_app.specs.Arrivals.{Arrival, arrival, makes}
use Rattle.puzzle_law.proofs.Counting.{pieces_by_counts}
use Rattle.puzzle_law.proofs.Pieces.{Test, all_by, pieces}
use Rattle.puzzle_law.proofs.Sums.{add_if, sum_if, sum_map}

-- What is conserved.

-- what the work on a unit and on the others makes
all_of : (grain : ℕ) (v : Arrival → ℕ) (a : Arrival) (came : List Arrival) →
    sum_by v (all_by grain (a ∷ came)) ≡ sum_by v (pieces (makes grain a)) + sum_by v (all_by grain came)
all_of grain v a came =
    let split : sum_by v (all_by grain (a ∷ came)) ≡ sum_by v (pieces (makes grain a) ++ all_by grain came) =
    ap (sum_by v) (map-append (arrival []) (makes grain a) (flat_map (makes grain) came)) in
    omega (arith, split, sum_by-append v (pieces (makes grain a)) (all_by grain came))

most_left : (grain : ℕ) (v f : Arrival → ℕ) (came : List Arrival) → ((a : Arrival) → v a ≤ f a + sum_by v (pieces (makes grain a))) →
    sum_by v came ≤ sum_by f came + sum_by v (all_by grain came)
most_left grain v f [] each = omega arith
most_left grain v f (a ∷ came) each =
    omega (arith, each a, most_left grain v f came each, sum_by-cons v a came, sum_by-cons f a came, all_of grain v a came)

least_left : (grain : ℕ) (v f : Arrival → ℕ) (came : List Arrival) → ((a : Arrival) → f a + sum_by v (pieces (makes grain a)) ≤ v a) →
    sum_by f came + sum_by v (all_by grain came) ≤ sum_by v came
least_left grain v f [] each = omega arith
least_left grain v f (a ∷ came) each =
    omega (arith, each a, least_left grain v f came each, sum_by-cons v a came, sum_by-cons f a came, all_of grain v a came)

-- these units were made first, and these came; v weighs units, and f what the work on a unit leaves
module _ (grain : ℕ) (first came : List Arrival) (same : (q : Test) → count_by q came ≡ count_by q (first ++ all_by grain came))
    (v f : Arrival → ℕ)
  where
    all_weighs : sum_by v came ≡ sum_by v first + sum_by v (all_by grain came)
    all_weighs =
        let order : IsPermutation (first ++ all_by grain came) came =
        pieces_by_counts (first ++ all_by grain came) came (λ q. sym (same q)) in
        omega (arith, sum_by-IsPermutation v (first ++ all_by grain came) came order, sum_by-append v first (all_by grain came))

    -- where each unit weighs at most what its work leaves and makes
    pub at_most : ((a : Arrival) → v a ≤ f a + sum_by v (pieces (makes grain a))) → sum_by v first ≤ sum_by f came
    at_most each = omega (arith, all_weighs, most_left grain v f came each)

    -- where it weighs at least that
    pub at_least : ((a : Arrival) → f a + sum_by v (pieces (makes grain a)) ≤ v a) → sum_by f came ≤ sum_by v first
    at_least each = omega (arith, all_weighs, least_left grain v f came each)

    -- where it weighs just that
    pub just : ((a : Arrival) → v a ≡ f a + sum_by v (pieces (makes grain a))) → sum_by f came ≡ sum_by v first
    just each = omega (arith, at_most (λ a. omega (arith, each a)), at_least (λ a. omega (arith, each a)))

-- Weights by the number of the puzzle.

-- where the number passes, a board weighs by its budget and grid, and a solution by its grid; jobs and answers weigh nothing
abbrev weighs : (ℕ → Bool) → (ℕ → Cells → ℕ) → (Cells → ℕ) → Made → ℕ
weighs t board solution (made.Board b) = cond (t b.puzzle) (board b.budget b.grid) 0
weighs t board solution (made.Solution s) = cond (t s.puzzle) (solution s.grid) 0
weighs t board solution (made.Job j) = 0
weighs t board solution (made.Answer a) = 0

-- what a unit weighs: a board by its tree, a solution by its grid
abbrev pub weight : (ℕ → Bool) → (ℕ → Cells → ℕ) → (Cells → ℕ) → Arrival → ℕ
weight t board solution a = weighs t board solution a.unit

-- what the work on a board makes
pub made_sum : (v : Arrival → ℕ) (grain : ℕ) (b : Board) →
    sum_by v (pieces (made_by grain b))
    ≡ sum_by (λ c. v (arrival [] (child_of b.puzzle c))) (walk_of grain b).children
    + sum_by (λ g. v (arrival [] (solution_at b.puzzle g))) (walk_of grain b).solutions
made_sum v grain b =
    let cs : List (ℕ × Cells) = (walk_of grain b).children in
    let gs : List Cells = (walk_of grain b).solutions in
    let u : Made → ℕ = λ unit. v (arrival [] unit) in
    omega (
      arith,
      sum_map v (arrival []) (made_by grain b),
      sum_by-append u (map (child_of b.puzzle) cs) (map (solution_at b.puzzle) gs),
      sum_map u (child_of b.puzzle) cs,
      sum_map u (solution_at b.puzzle) gs,
    )

-- it has the board's puzzle's number
pub made_weighs : (t : ℕ → Bool) (board : ℕ → Cells → ℕ) (solution : Cells → ℕ) (grain : ℕ) (b : Board) →
    sum_by (weight t board solution) (pieces (made_by grain b))
    ≡ cond (t b.puzzle) (sum_by (λ c. board c.0 c.1) (walk_of grain b).children + sum_by solution (walk_of grain b).solutions) 0
made_weighs t board solution grain b =
    let cs : List (ℕ × Cells) = (walk_of grain b).children in
    let gs : List Cells = (walk_of grain b).solutions in
    let at : ℕ × Cells → ℕ = λ c. board c.0 c.1 in
    made_sum (weight t board solution) grain b
    ∙ ap (λ n. n + sum_by (λ g. cond (t b.puzzle) (solution g) 0) gs) (sum_if (t b.puzzle) at cs)
    ∙ ap (λ n. cond (t b.puzzle) (sum_by at cs) 0 + n) (sum_if (t b.puzzle) solution gs)
    ∙ add_if (t b.puzzle) (sum_by at cs) (sum_by solution gs)

-- the solutions alone
abbrev keeps : (ℕ → Bool) → (Cells → ℕ) → Made → ℕ
keeps t solution (made.Solution s) = cond (t s.puzzle) (solution s.grid) 0
keeps t solution _ = 0

-- what a unit weighs if it stays with its rank
abbrev pub kept_weight : (ℕ → Bool) → (Cells → ℕ) → Arrival → ℕ
kept_weight t solution a = keeps t solution a.unit

-- Weights by the batch and the item.

-- a job weighs what its answer weighs
abbrev answer_weighs : (ℕ × ℕ × ℕ → ℕ) → List ℕ → Made → ℕ
answer_weighs w common (made.Job j) = w (j.batch, j.number, (answer_of common j).value)
answer_weighs w common (made.Answer a) = w (a.batch, a.number, a.value)
answer_weighs w common _ = 0

-- a job weighs what its answer weighs
abbrev pub answer_weight : (ℕ × ℕ × ℕ → ℕ) → Arrival → ℕ
answer_weight w a = answer_weighs w a.common a.unit

-- the answers alone
abbrev tells : (ℕ × ℕ × ℕ → ℕ) → Made → ℕ
tells w (made.Answer a) = w (a.batch, a.number, a.value)
tells w _ = 0

-- the answers alone weigh
abbrev pub told_weight : (ℕ × ℕ × ℕ → ℕ) → Arrival → ℕ
told_weight w a = tells w a.unit

-- a job weighs 1
abbrev is_job : Made → ℕ
is_job (made.Job j) = 1
is_job _ = 0

-- a job weighs 1
abbrev pub job_weight : Arrival → ℕ
job_weight a = is_job a.unit
