-- What the tasks of the jobs weigh, and how many units of each work type they make.
use Rattle.std.proofs.Common.{◌≡◌, ◌<◌, ◌+◌, ◌==◌, ℕ, Bool, cond, List, [], ◌∷◌, ◌++◌, map, length, None, refl, sym, ap, ◌∙◌, arith}
use Rattle.std.proofs.Common.{count_by, sum_by}
use Rattle.std.proofs.lemmas.Bool.{eq-eqb, ne_eqb}
use Rattle.std.proofs.lemmas.List.Sums.{sum_by-append, sum_by-cons}
use Rattle.sudoku_law.specs.Grid.{Cells}
use Rattle.job_report.specs.Jobs.{all_items, item_count, puzzles}
use Rattle.job_text.specs.declared.items.Item.{Item}
use Rattle.job_text.specs.declared.jobs.Job.{Job}
use Rattle.job_text.specs.declared.jobs.Job.TheVariants.{Batch, Puzzle}
use Rattle.job_units.specs.Items.{answer_to}
use Rattle.job_units.specs.Puts.{is_kind}
use Rattle.job_units.specs.Works.{child_of}
use Rattle.job_units.specs.declared.jobs.Job as units
use Rattle.job_units.specs.declared.units.Made.TheVariants as made
use Rattle.puzzle_app.specs.Arrivals.{Arrival, arrival}
use Rattle.puzzle_app.specs.Tasks.{all_units, as_units, jobs_from, tasks_from}
use Rattle.puzzle_law.proofs.Pieces.{waits}
use Rattle.puzzle_law.proofs.Sums.{add_if, none_if, one_if}
use Rattle.puzzle_law.proofs.Trees.{any_puzzle, is_of}
use Rattle.puzzle_law.proofs.Weights.{answer_weight, job_weight, weight}

-- Puzzles.

-- what the boards of these puzzles weigh, of which the first has the number p
unfoldable pub roots_weigh : (ℕ → Bool) → (ℕ → Cells → ℕ) → ℕ → ℕ → List Cells → ℕ
roots_weigh t f budget p [] = 0
roots_weigh t f budget p (g ∷ gs) = cond (t p) (f budget g) 0 + roots_weigh t f budget (p + 1) gs

module _ (t : ℕ → Bool) (f : ℕ → Cells → ℕ) (h : Cells → ℕ) (budget : ℕ) where
  jobs_weigh_nothing : (common : List ℕ) (jobs : List units.Job) → sum_by (weight t f h) (map (arrival common) (as_units jobs)) ≡ 0
  jobs_weigh_nothing common [] = refl
  jobs_weigh_nothing common (j ∷ jobs) =
      omega (
        arith,
        sum_by-cons (weight t f h) (arrival common (made.Job j)) (map (arrival common) (as_units jobs)),
        jobs_weigh_nothing common jobs,
      )

  -- all tasks weigh what the boards of the puzzles weigh
  pub boards_weigh : (p b : ℕ) (jobs : List Job) →
      sum_by (weight t f h) (waits None (tasks_from budget p b jobs)) ≡ roots_weigh t f budget p (puzzles jobs)
  unfolding waits tasks_from puzzles roots_weigh
  boards_weigh p b [] = refl
  boards_weigh p b (Puzzle g ∷ jobs) =
      omega (
        arith,
        sum_by-cons (weight t f h) (arrival [] (child_of p (budget, g))) (waits None (tasks_from budget (p + 1) b jobs)),
        boards_weigh (p + 1) b jobs,
      )
  boards_weigh p b (Batch common items ∷ jobs) =
      let its : List Arrival = map (arrival common) (as_units (jobs_from b 1 items)) in
      omega (
        arith,
        sum_by-append (weight t f h) its (waits None (tasks_from budget p (b + 1) jobs)),
        jobs_weigh_nothing common (jobs_from b 1 items),
        boards_weigh p (b + 1) jobs,
      )

-- in a weight by one puzzle, its board alone has weight
module _ (f : ℕ → Cells → ℕ) (budget : ℕ) where
  -- the roots of other puzzles weigh nothing
  pub other_root : (n m : ℕ) (g : Cells) (gs : List Cells) → (m ≡ n → ⊥) →
      roots_weigh (is_of n) f budget m (g ∷ gs) ≡ roots_weigh (is_of n) f budget (m + 1) gs
  unfolding roots_weigh
  other_root n m g gs other =
      let rest : ℕ = roots_weigh (is_of n) f budget (m + 1) gs in
      let this : Bool → ℕ = λ b. cond b (f budget g) 0 + rest in
      let here : cond (m == n) (f budget g) 0 + rest ≡ 0 + rest = ap this (ne_eqb m n other) in
      omega (arith, here)

  later_roots : (n m : ℕ) (gs : List Cells) → n < m → roots_weigh (is_of n) f budget m gs ≡ 0
  unfolding roots_weigh
  later_roots n m [] less = refl
  later_roots n m (g ∷ gs) less = other_root n m g gs (λ e. omega arith) ∙ later_roots n (m + 1) gs (omega arith)

  -- the root of a puzzle weighs what its grid does
  pub its_root : (n : ℕ) (g : Cells) (gs : List Cells) → roots_weigh (is_of n) f budget n (g ∷ gs) ≡ f budget g
  unfolding roots_weigh
  its_root n g gs =
      let rest : ℕ = roots_weigh (is_of n) f budget (n + 1) gs in
      let this : Bool → ℕ = λ b. cond b (f budget g) 0 + rest in
      let here : cond (n == n) (f budget g) 0 + rest ≡ f budget g + rest = ap this (eq-eqb n n refl) in
      omega (arith, here, later_roots n (n + 1) gs (omega arith))

  -- in a weight by all, each
  pub all_roots : (p : ℕ) (gs : List Cells) → roots_weigh any_puzzle f budget p gs ≡ sum_by (λ g. f budget g) gs
  unfolding roots_weigh
  all_roots p [] = refl
  all_roots p (g ∷ gs) = omega (arith, sum_by-cons (λ x. f budget x) g gs, all_roots (p + 1) gs)

-- Items.

-- the answers to these items of batch b, the first with the number n: the batch, the number of the item and the value
unfoldable pub item_answers : ℕ → ℕ → List ℕ → List Item → List (ℕ × ℕ × ℕ)
item_answers b n common [] = []
item_answers b n common (item ∷ items) = (b, n, answer_to item common) ∷ item_answers b (n + 1) common items

-- the answers to all items of these jobs, where the next batch has the number b
unfoldable pub job_answers : ℕ → List Job → List (ℕ × ℕ × ℕ)
job_answers b [] = []
job_answers b (Puzzle g ∷ jobs) = job_answers b jobs
job_answers b (Batch common items ∷ jobs) = item_answers b 1 common items ++ job_answers (b + 1) jobs

module _ (w : ℕ × ℕ × ℕ → ℕ) where
  items_weigh : (b n : ℕ) (common : List ℕ) (items : List Item) →
      sum_by (answer_weight w) (map (arrival common) (as_units (jobs_from b n items))) ≡ sum_by w (item_answers b n common items)
  unfolding jobs_from item_answers
  items_weigh b n common [] = refl
  items_weigh b n common (item ∷ items) =
      let job : units.Job = record { batch = b; number = n; item = item } in
      omega (
        arith,
        sum_by-cons (answer_weight w) (arrival common (made.Job job)) (map (arrival common) (as_units (jobs_from b (n + 1) items))),
        sum_by-cons w (b, n, answer_to item common) (item_answers b (n + 1) common items),
        items_weigh b (n + 1) common items,
      )

  -- all tasks weigh what the answers of the jobs weigh
  pub answers_weigh : (budget p b : ℕ) (jobs : List Job) →
      sum_by (answer_weight w) (waits None (tasks_from budget p b jobs)) ≡ sum_by w (job_answers b jobs)
  unfolding waits tasks_from job_answers
  answers_weigh budget p b [] = refl
  answers_weigh budget p b (Puzzle g ∷ jobs) =
      omega (
        arith,
        sum_by-cons (answer_weight w) (arrival [] (child_of p (budget, g))) (waits None (tasks_from budget (p + 1) b jobs)),
        answers_weigh budget (p + 1) b jobs,
      )
  answers_weigh budget p b (Batch common items ∷ jobs) =
      let its : List Arrival = map (arrival common) (as_units (jobs_from b 1 items)) in
      omega (
        arith,
        sum_by-append (answer_weight w) its (waits None (tasks_from budget p (b + 1) jobs)),
        sum_by-append w (item_answers b 1 common items) (job_answers (b + 1) jobs),
        items_weigh b 1 common items,
        answers_weigh budget p (b + 1) jobs,
      )

-- a job is begun of each item

items_begun : (b n : ℕ) (common : List ℕ) (items : List Item) →
    sum_by job_weight (map (arrival common) (as_units (jobs_from b n items))) ≡ length items
unfolding jobs_from
items_begun b n common [] = refl
items_begun b n common (item ∷ items) =
    let job : units.Job = record { batch = b; number = n; item = item } in
    omega (
      arith,
      sum_by-cons job_weight (arrival common (made.Job job)) (map (arrival common) (as_units (jobs_from b (n + 1) items))),
      items_begun b (n + 1) common items,
    )

-- the jobs of an input weigh as many as there are items
pub jobs_begun : (budget p b : ℕ) (jobs : List Job) → sum_by job_weight (waits None (tasks_from budget p b jobs)) ≡ all_items jobs
unfolding waits tasks_from
jobs_begun budget p b [] = refl
jobs_begun budget p b (Puzzle g ∷ jobs) =
    omega (
      arith,
      sum_by-cons job_weight (arrival [] (child_of p (budget, g))) (waits None (tasks_from budget (p + 1) b jobs)),
      sum_by-cons item_count (Puzzle g) jobs,
      jobs_begun budget (p + 1) b jobs,
    )
jobs_begun budget p b (Batch common items ∷ jobs) =
    let its : List Arrival = map (arrival common) (as_units (jobs_from b 1 items)) in
    omega (
      arith,
      sum_by-append job_weight its (waits None (tasks_from budget p (b + 1) jobs)),
      sum_by-cons item_count (Batch common items) jobs,
      items_begun b 1 common items,
      jobs_begun budget p (b + 1) jobs,
    )

-- How many units there are of a work type.

items_counted : (kind b n : ℕ) (items : List Item) →
    count_by (is_kind kind) (as_units (jobs_from b n items)) ≡ cond (2 == kind) (length items) 0
unfolding jobs_from
items_counted kind b n [] = sym (none_if (2 == kind))
items_counted kind b n (item ∷ items) =
    let job : units.Job = record { batch = b; number = n; item = item } in
    let more : length (item ∷ items) ≡ 1 + length items = omega arith in
    omega (
      arith,
      ap (λ m. cond (2 == kind) m 0) more,
      sum_by-cons (one_if (is_kind kind)) (made.Job job) (as_units (jobs_from b (n + 1) items)),
      add_if (2 == kind) 1 (length items),
      items_counted kind b (n + 1) items,
    )

-- a board of each puzzle, and a job of each item
pub tasks_counted : (kind budget p b : ℕ) (jobs : List Job) →
    count_by (is_kind kind) (all_units (tasks_from budget p b jobs))
    ≡ cond (0 == kind) (length (puzzles jobs)) 0 + cond (2 == kind) (all_items jobs) 0
unfolding tasks_from puzzles
tasks_counted kind budget p b [] = omega (arith, none_if (0 == kind), none_if (2 == kind))
tasks_counted kind budget p b (Puzzle g ∷ jobs) =
    let same : all_items (Puzzle g ∷ jobs) ≡ all_items jobs = omega (arith, sum_by-cons item_count (Puzzle g) jobs) in
    let more : length (puzzles (Puzzle g ∷ jobs)) ≡ 1 + length (puzzles jobs) = omega arith in
    omega (
      arith,
      ap (λ n. cond (0 == kind) n 0) more,
      ap (λ n. cond (2 == kind) n 0) same,
      sum_by-cons (one_if (is_kind kind)) (child_of p (budget, g)) (all_units (tasks_from budget (p + 1) b jobs)),
      add_if (0 == kind) 1 (length (puzzles jobs)),
      tasks_counted kind budget (p + 1) b jobs,
    )
tasks_counted kind budget p b (Batch common items ∷ jobs) =
    let items_are : cond (2 == kind) (all_items (Batch common items ∷ jobs)) 0 ≡ cond (2 == kind) (length items + all_items jobs) 0 =
    ap (λ n. cond (2 == kind) n 0) (sum_by-cons item_count (Batch common items) jobs) in
    omega (
      arith,
      sum_by-append (one_if (is_kind kind)) (as_units (jobs_from b 1 items)) (all_units (tasks_from budget p (b + 1) jobs)),
      items_counted kind b 1 items,
      add_if (2 == kind) (length items) (all_items jobs),
      items_are,
      tasks_counted kind budget p (b + 1) jobs,
    )
