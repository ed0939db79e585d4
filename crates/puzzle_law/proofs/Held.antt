-- The outcomes of a run hold what each job is to give.
use Rattle.std.proofs.Common.{◌≡◌, ◌≤◌, ◌+◌, ◌==◌, ℕ, Bool, true, false, cond, List, [], ◌∷◌, ◌++◌, None, refl, sym, ap, ◌∙◌, arith}
use Rattle.std.proofs.Common.{count_by, sum_by, All, IsPermutation}
use Rattle.std.specs.List.{list_any}
use Rattle.std.proofs.lemmas.List.Elements.{All-head, All-tail}
use Rattle.std.proofs.lemmas.List.Sums.{sum_by-cons}
use Rattle.sudoku_law.specs.Grid.{Cells}
use Rattle.sudoku_law.specs.Tree.{boards, is_over, solutions}
use Rattle.sudoku_rules.specs.Sides.{IsSudoku, tree_of}
use Rattle.job_report.specs.Jobs.{puzzles}
use Rattle.job_report.specs.Whole.{AreAnswered, AreHeld, answers_in, answers_of, found, found_in, told_over}
use Rattle.job_report.specs.declared.outcomes.Outcome.{Outcome}
use Rattle.job_text.specs.declared.items.Item.{Item}
use Rattle.job_text.specs.declared.jobs.Job.{Job}
use Rattle.job_text.specs.declared.jobs.Job.TheVariants.{Batch, Puzzle}
use Rattle.job_units.specs.Items.{answer_to}
use Rattle.job_units.specs.declared.units.Made.{Made}
use Rattle.job_units.specs.declared.units.Made.TheVariants as made
use Rattle.puzzle_app.specs.Arrivals.{Arrival, is_over_at, solutions_in}
use Rattle.puzzle_app.specs.Tasks.{tasks_from}
use Rattle.puzzle_law.proofs.Answered.{answer_passes, answers_are, answers_pass, first_batch, first_item, next_batches, next_items}
use Rattle.puzzle_law.proofs.Answered.{told_weighs}
use Rattle.puzzle_law.proofs.Counting.{grids_by_counts, one_by_counts}
use Rattle.puzzle_law.proofs.First.{answers_weigh, boards_weigh, item_answers, its_root, job_answers, other_root, roots_weigh}
use Rattle.puzzle_law.proofs.Pieces.{over, waits}
use Rattle.puzzle_law.proofs.Ranks.{AreTogether, answered_in, kept_in}
use Rattle.puzzle_law.proofs.Sums.{none_counted, one_if, some_counted}
use Rattle.puzzle_law.proofs.Trees.{answer_law, is_of, no_weight, over_all, over_all_law, over_one, over_one_law, passing, passing_law}
use Rattle.puzzle_law.proofs.Weights.{answer_weight, at_least, at_most, just, kept_weight, told_weight, weight}

-- The solutions that stay.

found_in-append : (n : ℕ) (xs ys : List (ℕ × Cells)) → found_in n (xs ++ ys) ≡ found_in n xs ++ found_in n ys
unfolding found_in
found_in-append n [] ys = refl
found_in-append n (x ∷ xs) ys = here (x.0 == n) (found_in-append n xs ys)
  where
    here : (b : Bool) → found_in n (xs ++ ys) ≡ found_in n xs ++ found_in n ys →
        cond b (x.1 ∷ found_in n (xs ++ ys)) (found_in n (xs ++ ys)) ≡ cond b (x.1 ∷ found_in n xs) (found_in n xs) ++ found_in n ys
    here true later = ap (λ l. x.1 ∷ l) later
    here false later = later

-- those of a puzzle in all outcomes
found_is : (n : ℕ) (outcomes : List Outcome) → found n outcomes ≡ found_in n (kept_in outcomes)
unfolding found_in
found_is n [] = refl
found_is n (o ∷ outcomes) = ap (λ l. found_in n o.solutions.items ++ l) (found_is n outcomes)
    ∙ sym (found_in-append n o.solutions.items (kept_in outcomes))

-- they weigh as many as pass
kept_passing : (n : ℕ) (p : Cells → Bool) (came : List Arrival) →
    sum_by (kept_weight (is_of n) (one_if p)) came ≡ count_by p (found_in n (solutions_in came))
unfolding found_in
kept_passing n p [] = refl
kept_passing n p (a ∷ came) =
    omega (arith, sum_by-cons (kept_weight (is_of n) (one_if p)) a came, one_kept a.common a.unit, kept_passing n p came)
  where
    here : (g : Cells) (b : Bool) →
        count_by p (cond b (g ∷ found_in n (solutions_in came)) (found_in n (solutions_in came)))
        ≡ cond b (one_if p g) 0 + count_by p (found_in n (solutions_in came))
    here g true = sum_by-cons (one_if p) g (found_in n (solutions_in came))
    here g false = omega arith

    one_kept : (common : List ℕ) (unit : Made) →
        count_by p (found_in n (solutions_in (over common unit ∷ came)))
        ≡ kept_weight (is_of n) (one_if p) (over common unit) + count_by p (found_in n (solutions_in came))
    one_kept common (made.Board b) = omega arith
    one_kept common (made.Solution s) = here s.grid (s.puzzle == n)
    one_kept common (made.Job j) = omega arith
    one_kept common (made.Answer x) = omega arith

-- Each puzzle.

-- these are the puzzles from number n on: in a weight by one of them, all puzzles weigh what these weigh
abbrev AreLast : ℕ → List Cells → ℕ → List Cells → Type 0
AreLast budget all n gs =
    (k : ℕ) (f : ℕ → Cells → ℕ) → n ≤ k → roots_weigh (is_of k) f budget 1 all ≡ roots_weigh (is_of k) f budget n gs

-- two tests are one where a count is positive just where the one holds, and just where the other does
by_count : (a o : Bool) (count all : ℕ) → (a ≡ true → 1 ≤ count) → (a ≡ false → count ≡ 0) → cond o 1 0 ≤ count → count ≤ cond o all 0 →
    a ≡ o
by_count true true count all some none low high = refl
by_count true false count all some none low high = absurd (omega (arith, some refl))
by_count false true count all some none low high = absurd (omega (arith, none refl))
by_count false false count all some none low high = refl

module _ (budget grain : ℕ) (all : List Job) (outcomes : List Outcome) (are : AreTogether budget grain all outcomes) where
  abbrev first : List Arrival
  first = waits None (tasks_from budget 1 1 all)

  -- what a puzzle weighs
  its_weight : (n : ℕ) (g : Cells) (gs : List Cells) (f : ℕ → Cells → ℕ) (h : Cells → ℕ) → AreLast budget (puzzles all) n (g ∷ gs) →
      sum_by (weight (is_of n) f h) first ≡ f budget g
  its_weight n g gs f h last = boards_weigh (is_of n) f h budget 1 1 all ∙ last n f (omega arith) ∙ its_root f budget n g gs

  -- its solution nodes are found, each once
  nodes_held : (n : ℕ) (g : Cells) (gs : List Cells) → AreLast budget (puzzles all) n (g ∷ gs) →
      IsPermutation (solutions (tree_of budget g)) (found n outcomes)
  nodes_held n g gs last = grids_by_counts (solutions (tree_of budget g)) (found n outcomes) (λ p.
      let v : Arrival → ℕ = weight (is_of n) (passing p) (one_if p) in
      let left : sum_by (kept_weight (is_of n) (one_if p)) are.came ≡ sum_by v first =
      just grain first are.came are.same v (kept_weight (is_of n) (one_if p)) (λ a. passing_law grain n p a.common a.unit) in
      let found_are : found n outcomes ≡ found_in n (solutions_in are.came) = found_is n outcomes ∙ ap (found_in n) are.solutions in
      omega (
        arith,
        left,
        its_weight n g gs (passing p) (one_if p) last,
        kept_passing n p are.came,
        ap (count_by p) found_are,
      ))

  -- it is told to be over just where it is
  over_held : (n : ℕ) (g : Cells) (gs : List Cells) → AreLast budget (puzzles all) n (g ∷ gs) →
      told_over n outcomes ≡ is_over (tree_of budget g)
  over_held n g gs last =
      let count : ℕ = count_by (is_over_at grain n) are.came in
      let low : sum_by (weight (is_of n) over_one no_weight) first ≤ count =
      at_most grain first are.came are.same (weight (is_of n) over_one no_weight) (one_if (is_over_at grain n))
      (λ a. over_one_law grain n a.common a.unit) in
      let high : count ≤ sum_by (weight (is_of n) (over_all grain) no_weight) first =
      at_least grain first are.came are.same (weight (is_of n) (over_all grain) no_weight) (one_if (is_over_at grain n))
      (λ a. over_all_law grain n a.common a.unit) in
      are.overs n
      ∙ by_count (list_any (is_over_at grain n) are.came) (is_over (tree_of budget g)) count (boards grain (tree_of budget g))
      (some_counted (is_over_at grain n) are.came) (none_counted (is_over_at grain n) are.came)
      (omega (arith, low, its_weight n g gs over_one no_weight last))
      (omega (arith, high, its_weight n g gs (over_all grain) no_weight last))

  -- Each batch.

  -- all outcomes hold the answers of the jobs, in some order
  answers_held : (b n value : ℕ) → answers_in b n (job_answers 1 all) ≡ value ∷ [] → answers_of b n outcomes ≡ value ∷ []
  answers_held b n value one = one_by_counts (answers_of b n outcomes) value (λ p.
      let w : ℕ × ℕ × ℕ → ℕ = answer_passes b n p in
      let left : sum_by (told_weight w) are.came ≡ sum_by (answer_weight w) first =
      just grain first are.came are.same (answer_weight w) (told_weight w) (λ a. answer_law w grain a.common a.unit) in
      let told : sum_by w (answered_in outcomes) ≡ sum_by (told_weight w) are.came =
      ap (sum_by w) are.answers ∙ sym (told_weighs w are.came) in
      omega (
        arith,
        left,
        told,
        answers_weigh w budget 1 1 all,
        answers_pass b n p (answered_in outcomes),
        answers_pass b n p (job_answers 1 all),
        ap (count_by p) (answers_are b n outcomes),
        ap (count_by p) one,
      ))

  -- of the items of batch b from number n on, all answers are those of that batch
  abbrev AreLastItems : ℕ → ℕ → List ℕ → List Item → Type 0
  AreLastItems b n common items = (m : ℕ) → n ≤ m → answers_in b m (job_answers 1 all) ≡ answers_in b m (item_answers b n common items)

  answered_from : (b n : ℕ) (common : List ℕ) (items : List Item) → AreLastItems b n common items → AreAnswered b n common items outcomes
  answered_from b n common [] last = tt
  answered_from b n common (item ∷ items) last = (
    answers_held b n (answer_to item common) (last n (omega arith) ∙ first_item b n common item items),
    answered_from b (n + 1) common items (λ m behind. last m (omega arith) ∙ next_items b n m common item items (omega arith)),
  )

  -- of the items of the batches from number b on, all answers are those of these jobs
  abbrev AreLastBatches : ℕ → List Job → Type 0
  AreLastBatches b jobs = (c n : ℕ) → b ≤ c → answers_in c n (job_answers 1 all) ≡ answers_in c n (job_answers b jobs)

  -- Each job.

  held_from : (p b : ℕ) (jobs : List Job) → All IsSudoku (puzzles jobs) → AreLast budget (puzzles all) p (puzzles jobs) →
      AreLastBatches b jobs → AreHeld budget p b jobs outcomes
  unfolding puzzles job_answers
  held_from p b [] grids last told = tt
  held_from p b (Puzzle g ∷ jobs) grids last told =
      let gs : List Cells = puzzles jobs in (
        record { grid = All-head IsSudoku g gs grids; nodes = nodes_held p g gs last; over = over_held p g gs last },
        held_from (p + 1) b jobs (All-tail IsSudoku g gs grids)
            (λ k f behind. last k f (omega arith) ∙ other_root f budget k p g gs (λ e. omega arith)) told,
      )
  held_from p b (Batch common items ∷ jobs) grids last told = (
    answered_from b 1 common items (λ m behind. told b m (omega arith) ∙ first_batch b m common items jobs),
    held_from p (b + 1) jobs grids last (λ c n behind. told c n (omega arith) ∙ next_batches b c n common items jobs (omega arith)),
  )

  pub all_held : All IsSudoku (puzzles all) → AreHeld budget 1 1 all outcomes
  all_held grids = held_from 1 1 all grids (λ k f behind. refl) (λ c n behind. refl)
