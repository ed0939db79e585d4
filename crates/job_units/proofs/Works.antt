-- What the work on a unit makes has the form of units.
use Rattle.std.proofs.Common.{ℕ, ◌*◌, ◌^◌, ◌<◌, ◌≤◌, List, [], ◌∷◌, length, map, sum, arith, All}
use Rattle.std.proofs.lemmas.List.Elements.{All-append, All-head, All-map, All-tail, All-weaker}
use Rattle.std.proofs.lemmas.List.Sums.{count_by-le-length, length-filter, sum_by-le}
use Rattle.sudoku_rules.specs.Sides.{IsSudoku}
use Rattle.sudoku_rules.proofs.Trees.{children_sudoku, nodes_sudoku}
use Rattle.job_text.specs.declared.items.Item.{Item}
use Rattle.job_text.specs.declared.items.Item.TheVariants.{Count, Sum, Max}
use Rattle.lane_bytes.specs.Answers.{greatest, is_from}
use Rattle.job_units.specs.Forms.{IsAnswer, IsBoard, IsJob, IsUnit}
use Rattle.job_units.specs.Items.{answer_to}
use Rattle.job_units.specs.Works.{answer_of, child_of, made_by, solution_at, walk_of}
use Rattle.job_units.specs.declared.boards.Board.{Board}
use Rattle.job_units.specs.declared.jobs.Job.{Job}

-- the boards that the work on a board hands out, and its solutions
pub made_fits : (grain : ℕ) (b : Board) → IsBoard b → All IsUnit (made_by grain b)
made_fits grain b fits =
    let below : All (λ c. IsSudoku c.1 × (c.0 < b.budget)) (walk_of grain b).children = children_sudoku grain b.budget b.grid fits.grid in
    let found : All IsSudoku (walk_of grain b).solutions = nodes_sudoku grain b.budget b.grid fits.grid in
    All-append IsUnit (map (child_of b.puzzle) (walk_of grain b).children) (map (solution_at b.puzzle) (walk_of grain b).solutions)
    (All-map IsUnit (child_of b.puzzle) (walk_of grain b).children
    (All-weaker (λ c. IsSudoku c.1 × (c.0 < b.budget)) (λ c. IsUnit (child_of b.puzzle c))
    (λ c below. let less : c.0 < b.budget = below.1 in
    record { puzzle = fits.puzzle; budget = omega (arith, fits.budget, less); grid = below.0 })
    (walk_of grain b).children below))
    (All-map IsUnit (solution_at b.puzzle) (walk_of grain b).solutions
    (All-weaker IsSudoku (λ g. IsUnit (solution_at b.puzzle g)) (λ g grid. record { puzzle = fits.puzzle; grid = grid })
    (walk_of grain b).solutions found))

-- of bytes, the sum is at most 255 for each, and the greatest is at most 255
sum_few : (bytes : List ℕ) → All (λ byte. byte < 256) bytes → sum bytes ≤ 255 * length bytes
sum_few bytes all =
    let each : All (λ byte. byte ≤ 255) bytes =
    All-weaker (λ byte. byte < 256) (λ byte. byte ≤ 255) (λ byte small. omega arith) bytes all in
    omega (arith, sum_by-le (λ byte. byte) 255 bytes each)

greatest_few : (bytes : List ℕ) → All (λ byte. byte < 256) bytes → greatest bytes < 256
greatest_few [] all = omega arith
greatest_few (x ∷ xs) all =
    let here : x < 256 = All-head (λ byte. byte < 256) x xs all in
    omega (arith, here, greatest_few xs (All-tail (λ byte. byte < 256) x xs all))

value_few : (item : Item) (common : List ℕ) → All (λ byte. byte < 256) common → length common < 2 ^ 56 → answer_to item common < 2 ^ 64
value_few (Count lo hi) common bytes few =
    omega (arith, few, length-filter (is_from lo hi) common, count_by-le-length (is_from lo hi) common)
value_few Sum common bytes few = omega (arith, few, sum_few common bytes)
value_few Max common bytes few = omega (arith, greatest_few common bytes)

-- the answer of a job over bytes, of which there are fewer than 2^56
pub job_answer_fits : (common : List ℕ) (j : Job) → IsJob j → All (λ byte. byte < 256) common → length common < 2 ^ 56
    → IsAnswer (answer_of common j)
job_answer_fits common j fits bytes few = record { batch = fits.batch; number = fits.number; value = value_few j.item common bytes few }
