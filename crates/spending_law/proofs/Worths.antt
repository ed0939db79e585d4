-- What a unit is worth: its put, the reserve and the fetch that bring it to a rank, and as much for each unit that is made of it.
use Rattle.std.proofs.Common.{◌≡◌, ◌≤◌, ◌+◌, ◌*◌, ℕ, List, [], ◌∷◌, map, length, None, refl, arith, count_by, sum_by}
use Rattle.std.proofs.lemmas.List.{length-append, length-map}
use Rattle.std.proofs.lemmas.List.Sums.{sum_by-cons}
use Rattle.job_report.specs.Jobs.{all_items, item_count, puzzles}
use Rattle.job_text.specs.declared.items.Item.{Item}
use Rattle.job_text.specs.declared.jobs.Job.{Job}
use Rattle.job_text.specs.declared.jobs.Job.TheVariants.{Batch, Puzzle}
use Rattle.job_units.specs.Puts.{is_kind}
use Rattle.job_units.specs.declared.units.Made.{Made}
use Rattle.job_units.specs.declared.units.Made.TheVariants as made
use Rattle.puzzle_app.specs.Arrivals.{Arrival, arrival, makes}
use Rattle.puzzle_app.specs.Tasks.{as_units, jobs_from, tasks_from}
use Rattle.puzzle_law.proofs.First.{all_roots, boards_weigh, jobs_begun}
use Rattle.puzzle_law.proofs.Pieces.{pieces, waits}
use Rattle.puzzle_law.proofs.Sums.{one_if, sum_one_more}
use Rattle.puzzle_law.proofs.Trees.{answers_law, any_puzzle, found, found_law, handed_law, handed_out, no_jobs_made, no_weight}
use Rattle.puzzle_law.proofs.Weights.{job_weight, weight}
use Rattle.spending_law.specs.Most.{batches, is_batch, units_made}
use Rattle.spending_law.proofs.Spending.{begins}

-- each unit is of one of the four work types
one_kind : (unit : Made)
    → 1 ≡ one_if (is_kind 0) unit + one_if (is_kind 1) unit + one_if (is_kind 2) unit + one_if (is_kind 3) unit
one_kind (made.Board b) = refl
one_kind (made.Solution s) = refl
one_kind (made.Job j) = refl
one_kind (made.Answer a) = refl

all_kinds : (units : List Made)
    → length units ≡ count_by (is_kind 0) units + count_by (is_kind 1) units + count_by (is_kind 2) units + count_by (is_kind 3) units
all_kinds [] = refl
all_kinds (unit ∷ units) =
    omega (
      arith,
      one_kind unit,
      all_kinds units,
      sum_by-cons (one_if (is_kind 0)) unit units,
      sum_by-cons (one_if (is_kind 1)) unit units,
      sum_by-cons (one_if (is_kind 2)) unit units,
      sum_by-cons (one_if (is_kind 3)) unit units,
    )

sum_three : (f g h : Arrival → ℕ) (xs : List Arrival) → sum_by (λ a. f a + g a + h a) xs ≡ sum_by f xs + sum_by g xs + sum_by h xs
sum_three f g h [] = refl
sum_three f g h (x ∷ xs) =
    omega (
      arith,
      sum_three f g h xs,
      sum_by-cons (λ a. f a + g a + h a) x xs,
      sum_by-cons f x xs,
      sum_by-cons g x xs,
      sum_by-cons h x xs,
    )

sum_worths : (f : Arrival → ℕ) (xs : List Arrival) → sum_by (λ a. 3 + 3 * f a) xs ≡ 3 * length xs + 3 * sum_by f xs
sum_worths f [] = refl
sum_worths f (x ∷ xs) = omega (arith, sum_worths f xs, sum_by-cons (λ a. 3 + 3 * f a) x xs, sum_by-cons f x xs)

-- how many units are made of one, by its own work and by that on what it makes
abbrev pub offspring : ℕ → Arrival → ℕ
offspring grain a = weight any_puzzle (handed_out grain) no_weight a + weight any_puzzle found no_weight a + job_weight a

-- what a unit is worth
abbrev pub worth_of : ℕ → Arrival → ℕ
worth_of grain a = 3 + 3 * offspring grain a

sum_offspring : (grain : ℕ) (xs : List Arrival)
    → sum_by (offspring grain) xs
    ≡ sum_by (weight any_puzzle (handed_out grain) no_weight) xs + sum_by (weight any_puzzle found no_weight) xs + sum_by job_weight xs
sum_offspring grain xs =
    sum_three (weight any_puzzle (handed_out grain) no_weight) (weight any_puzzle found no_weight) job_weight xs

-- what is made of a unit is what its work makes, and what is made of that
offspring_law : (grain : ℕ) (a : Arrival)
    → offspring grain a ≡ length (makes grain a) + sum_by (offspring grain) (pieces (makes grain a))
offspring_law grain a =
    omega (
      arith,
      handed_law grain a.common a.unit,
      found_law grain a.common a.unit,
      answers_law grain a.common a.unit,
      no_jobs_made grain a.common a.unit,
      all_kinds (makes grain a),
      sum_offspring grain (pieces (makes grain a)),
    )

-- a unit is worth three calls and what its work makes
pub worth_law : (grain : ℕ) (a : Arrival) → 3 + sum_by (worth_of grain) (pieces (makes grain a)) ≤ worth_of grain a
worth_law grain a =
    omega (
      arith,
      offspring_law grain a,
      sum_worths (offspring grain) (pieces (makes grain a)),
      length-map (makes grain a) (arrival []),
    )

-- What the tasks of the jobs are worth.

items_long : (b n : ℕ) (common : List ℕ) (items : List Item)
    → length (map (arrival common) (as_units (jobs_from b n items))) ≡ length items
unfolding jobs_from
items_long b n common [] = refl
items_long b n common (item ∷ items) = let more = items_long b (n + 1) common items in omega (arith, more)

waits_long : (budget p b : ℕ) (jobs : List Job) → length (waits None (tasks_from budget p b jobs)) ≡ length (puzzles jobs) + all_items jobs
unfolding waits tasks_from puzzles
waits_long budget p b [] = refl
waits_long budget p b (Puzzle g ∷ jobs) =
    omega (arith, waits_long budget (p + 1) b jobs, sum_by-cons item_count (Puzzle g) jobs)
waits_long budget p b (Batch common items ∷ jobs) =
    omega (
      arith,
      waits_long budget p (b + 1) jobs,
      sum_by-cons item_count (Batch common items) jobs,
      items_long b 1 common items,
      length-append (map (arrival common) (as_units (jobs_from b 1 items))) (waits None (tasks_from budget p (b + 1) jobs)),
    )

-- the tasks of the jobs are worth three calls a unit
pub tasks_worth : (budget grain : ℕ) (jobs : List Job)
    → sum_by (worth_of grain) (waits None (tasks_from budget 1 1 jobs)) ≡ 3 * units_made budget grain jobs
tasks_worth budget grain jobs =
    let first : List Arrival = waits None (tasks_from budget 1 1 jobs) in
    omega (
      arith,
      sum_worths (offspring grain) first,
      sum_offspring grain first,
      waits_long budget 1 1 jobs,
      boards_weigh any_puzzle (handed_out grain) no_weight budget 1 1 jobs,
      all_roots (handed_out grain) budget 1 (puzzles jobs),
      boards_weigh any_puzzle found no_weight budget 1 1 jobs,
      all_roots found budget 1 (puzzles jobs),
      jobs_begun budget 1 1 jobs,
      sum_one_more (λ g. handed_out grain budget g) (puzzles jobs),
    )

-- each batch is begun
pub batches_begun : (budget p b : ℕ) (jobs : List Job) → begins (tasks_from budget p b jobs) ≡ batches jobs
unfolding tasks_from begins
batches_begun budget p b [] = refl
batches_begun budget p b (Puzzle g ∷ jobs) =
    omega (arith, batches_begun budget (p + 1) b jobs, sum_by-cons (one_if is_batch) (Puzzle g) jobs)
batches_begun budget p b (Batch common items ∷ jobs) =
    omega (arith, batches_begun budget p (b + 1) jobs, sum_by-cons (one_if is_batch) (Batch common items) jobs)
