-- What was counted of jobs.
use Rattle.std.proofs.Common.{◌≡◌, ℕ, ◌+◌, ◌*◌, ◌<◌, ◌≤◌, ◌^◌, Bool, true, false, cond, List, [], ◌∷◌, ◌++◌, length, drop, get_or}
use Rattle.std.proofs.Common.{count_by, sum_by, refl, sym, ap, ◌∙◌, arith, subst}
use Rattle.std.specs.Prelude.{if◌then◌else◌}
use Rattle.std.proofs.lemmas.List.{drop_all}
use Rattle.std.proofs.lemmas.List.Sorted.{length_permutation}
use Rattle.std.proofs.lemmas.List.Sums.{sum_by-cons}
use Rattle.sudoku_law.specs.Grid.{Cells}
use Rattle.sudoku_law.specs.Tree.{solutions}
use Rattle.sudoku_rules.specs.Sides.{tree_of}
use Rattle.job_text.specs.declared.items.Item.{Item}
use Rattle.job_text.specs.declared.jobs.Job.{Job}
use Rattle.job_text.specs.declared.jobs.Job.TheVariants.{Puzzle, Batch}
use Rattle.job_report.specs.inside.{grids_at, is_over_at, over_count_at, overs_from, solution_count_at, solutions_from}
use Rattle.job_report.specs.Jobs.{all_boards, all_items, all_solutions, item_count, puzzles}
use Rattle.job_report.specs.Report.{totals}
use Rattle.job_report.specs.Summary.{batches_line, is_batch, is_over_puzzle, puzzles_line, solutions_reported}
use Rattle.job_report.specs.Whole.{AreHeld, AreWhole, IsHeld, found, made_in, told_over}
use Rattle.job_report.specs.declared.found.Found.{Found}
use Rattle.job_report.specs.declared.outcomes.Outcome.{Outcome}
use Rattle.job_report.specs.declared.summaries.Counts.{Counts}
use Rattle.job_report.proofs.Parts.{begins, totals_are}

-- The look-up has what all outcomes tell.
module _ (budget : ℕ) (f : Found) (outcomes : List Outcome) (grids : (n : ℕ) → grids_at f n ≡ found n outcomes)
    (overs : (n : ℕ) → is_over_at f n ≡ told_over n outcomes) where
  over_is : (n : ℕ) (g : Cells) → IsHeld budget n g outcomes → is_over_at f n ≡ is_over_puzzle budget g
  over_is n g held = overs n ∙ held.over

  -- as many puzzles are told to be over as are
  pub overs_are : (p b : ℕ) (jobs : List Job) → AreHeld budget p b jobs outcomes →
      overs_from f p (puzzles jobs) ≡ count_by (is_over_puzzle budget) (puzzles jobs)
  unfolding puzzles
  overs_are p b [] held = refl
  overs_are p b (Batch common items ∷ jobs) held = overs_are p (b + 1) jobs held.1
  overs_are p b (Puzzle g ∷ jobs) held =
      let one : ℕ → Bool → ℕ = λ rest over. (if over then 1 else 0) + rest in
      ap (one (overs_from f (p + 1) (puzzles jobs))) (over_is p g held.0)
      ∙ ap (λ rest. one rest (is_over_puzzle budget g)) (overs_are (p + 1) b jobs held.1)
      ∙ sym (sum_by-cons (λ x. cond (is_over_puzzle budget x) 1 0) g (puzzles jobs))

  -- the others are told as many solutions as they have
  pub solutions_are : (p b : ℕ) (jobs : List Job) → AreHeld budget p b jobs outcomes →
      solutions_from f p (puzzles jobs) ≡ sum_by (solutions_reported budget) (puzzles jobs)
  unfolding puzzles
  solutions_are p b [] held = refl
  solutions_are p b (Batch common items ∷ jobs) held = solutions_are p (b + 1) jobs held.1
  solutions_are p b (Puzzle g ∷ jobs) held =
      let count : Bool → ℕ → ℕ → ℕ = λ over solved rest. (if over then 0 else solved) + rest in
      let told : length (grids_at f p) ≡ length (solutions (tree_of budget g)) =
      ap length (grids p) ∙ length_permutation (solutions (tree_of budget g)) (found p outcomes) held.0.nodes in
      let rest : ℕ = solutions_from f (p + 1) (puzzles jobs) in
      ap (λ over. count over (length (grids_at f p)) rest) (over_is p g held.0)
      ∙ ap (λ solved. count (is_over_puzzle budget g) solved rest) told
      ∙ ap (count (is_over_puzzle budget g) (length (solutions (tree_of budget g)))) (solutions_are (p + 1) b jobs held.1)
      ∙ sym (sum_by-cons (solutions_reported budget) g (puzzles jobs))

-- the counts with what the jobs that are left are counted as are those of all jobs
pub record IsCounting (f : Found) (all left : List Job) (counts : Counts) : Type 0 where
  pub puzzles_so_far : counts.puzzles + length (puzzles left) ≡ length (puzzles all)
  pub overs_so_far : counts.overs + overs_from f (counts.puzzles + 1) (puzzles left) ≡ overs_from f 1 (puzzles all)
  pub solutions_so_far : counts.solutions + solutions_from f (counts.puzzles + 1) (puzzles left) ≡ solutions_from f 1 (puzzles all)
  pub batches_so_far : counts.batches + count_by is_batch left ≡ count_by is_batch all
  pub items_so_far : counts.items + all_items left ≡ all_items all

-- the counts of this many jobs have room for one more
pub record AreSmall (jobs : ℕ) (counts : Counts) : Type 0 where
  pub puzzles : counts.puzzles ≤ jobs
  pub overs : counts.overs ≤ jobs
  pub solutions : counts.solutions ≤ jobs * 2 ^ 64
  pub batches : counts.batches ≤ jobs
  pub items : counts.items ≤ jobs * 2 ^ 24

-- a puzzle counts as over once at most
pub one_at_most : (f : Found) (n : ℕ) → over_count_at f n ≤ 1
one_at_most f n = either (is_over_at f n)
  where
    either : (over : Bool) → (if over then 1 else 0) ≤ 1
    either true = omega arith
    either false = omega arith

-- one more puzzle is counted
pub counted_puzzle : (f : Found) (all left : List Job) (g : Cells) (old new : Counts) → IsCounting f all (Puzzle g ∷ left) old →
    new.puzzles ≡ old.puzzles + 1 → new.overs ≡ old.overs + over_count_at f (old.puzzles + 1) →
    new.solutions ≡ old.solutions + solution_count_at f (old.puzzles + 1) → new.batches ≡ old.batches → new.items ≡ old.items →
    IsCounting f all left new
unfolding puzzles
counted_puzzle f all left g old new so_far e1 e2 e3 e4 e5 = record {
  puzzles_so_far = omega (arith, so_far.puzzles_so_far, e1);
  overs_so_far = omega (arith, so_far.overs_so_far, e2, ap (λ p. overs_from f (p + 1) (puzzles left)) e1);
  solutions_so_far = omega (arith, so_far.solutions_so_far, e3, ap (λ p. solutions_from f (p + 1) (puzzles left)) e1);
  batches_so_far = ap (λ n. n + count_by is_batch left) e4 ∙ so_far.batches_so_far;
  items_so_far = ap (λ n. n + all_items left) e5 ∙ so_far.items_so_far;
}

-- one more batch is counted
pub counted_batch : (f : Found) (all left : List Job) (common : List ℕ) (items : List Item) (old new : Counts) →
    IsCounting f all (Batch common items ∷ left) old → new.batches ≡ old.batches + 1 → new.items ≡ old.items + length items →
    new.puzzles ≡ old.puzzles → new.overs ≡ old.overs → new.solutions ≡ old.solutions → IsCounting f all left new
unfolding puzzles
counted_batch f all left common items old new so_far e1 e2 e3 e4 e5 = record {
  puzzles_so_far = ap (λ n. n + length (puzzles left)) e3 ∙ so_far.puzzles_so_far;
  overs_so_far = omega (arith, so_far.overs_so_far, e4, ap (λ p. overs_from f (p + 1) (puzzles left)) e3);
  solutions_so_far = omega (arith, so_far.solutions_so_far, e5, ap (λ p. solutions_from f (p + 1) (puzzles left)) e3);
  batches_so_far = omega (arith, so_far.batches_so_far, e1, sum_by-cons (λ j. cond (is_batch j) 1 0) (Batch common items) left);
  items_so_far = omega (arith, so_far.items_so_far, e2, sum_by-cons item_count (Batch common items) left);
}

-- the jobs that are left begin with this one
pub begins_with : (f : Found) (i : ℕ) (jobs : List Job) (job same : Job) (counts : Counts) → i < length jobs →
    job ≡ get_or jobs i job → job ≡ same → IsCounting f jobs (drop i jobs) counts → IsCounting f jobs (same ∷ drop (i + 1) jobs) counts
begins_with f i jobs job same counts within is kind so_far =
    subst (λ left. IsCounting f jobs left counts) (begins i jobs job same within is kind) so_far

-- all jobs are counted
pub all_counted : (f : Found) (i : ℕ) (jobs : List Job) (counts : Counts) → length jobs ≤ i → IsCounting f jobs (drop i jobs) counts →
    IsCounting f jobs [] counts
all_counted f i jobs counts past so_far = subst (λ left. IsCounting f jobs left counts) (drop_all i jobs past) so_far

-- The counts of jobs of which the outcomes hold all, in lines after an empty text, with the totals are the summary.
module _ (budget grain : ℕ) (jobs : List Job) (f : Found) (outcomes : List Outcome) (counts : Counts)
    (whole : AreWhole budget grain jobs outcomes) where
  -- the line on puzzles is that of the summary
  pub puzzles_line_is : ((n : ℕ) → grids_at f n ≡ found n outcomes) → ((n : ℕ) → is_over_at f n ≡ told_over n outcomes) →
      counts.puzzles ≡ length (puzzles jobs) → counts.overs ≡ overs_from f 1 (puzzles jobs) →
      counts.solutions ≡ solutions_from f 1 (puzzles jobs) →
      puzzles_line counts.puzzles counts.overs counts.solutions
      ≡ puzzles_line (length (puzzles jobs)) (count_by (is_over_puzzle budget) (puzzles jobs))
      (sum_by (solutions_reported budget) (puzzles jobs))
  puzzles_line_is grids overs e1 e2 e3 =
      let count : ℕ = length (puzzles jobs) in
      let over : ℕ = count_by (is_over_puzzle budget) (puzzles jobs) in
      ap (λ n. puzzles_line n counts.overs counts.solutions) e1
      ∙ ap (λ n. puzzles_line count n counts.solutions) (e2 ∙ overs_are budget f outcomes grids overs 1 1 jobs whole.held)
      ∙ ap (λ n. puzzles_line count over n) (e3 ∙ solutions_are budget f outcomes grids overs 1 1 jobs whole.held)

  -- the text is the summary
  pub summary_is : (start first second text lines : List ℕ) → start ≡ [] →
      puzzles_line counts.puzzles counts.overs counts.solutions ≡ lines → counts.batches ≡ count_by is_batch jobs →
      counts.items ≡ all_items jobs → first ≡ start ++ puzzles_line counts.puzzles counts.overs counts.solutions →
      second ≡ first ++ batches_line counts.batches counts.items →
      text ≡ second ++ totals (made_in 0 outcomes) (made_in 1 outcomes) (made_in 2 outcomes) (made_in 3 outcomes) →
      text ≡ lines ++ batches_line (count_by is_batch jobs) (all_items jobs)
      ++ totals (all_boards budget grain jobs) (all_solutions budget jobs) (all_items jobs) (all_items jobs)
  summary_is start first second text lines none e1 e2 e3 added more last =
      let made : List ℕ = totals (made_in 0 outcomes) (made_in 1 outcomes) (made_in 2 outcomes) (made_in 3 outcomes) in
      let rows : List ℕ = batches_line (count_by is_batch jobs) (all_items jobs) in
      let batches : batches_line counts.batches counts.items ≡ rows =
      ap (λ n. batches_line n counts.items) e2 ∙ ap (batches_line (count_by is_batch jobs)) e3 in
      let head : first ≡ lines = added ∙ ap (λ t. t ++ puzzles_line counts.puzzles counts.overs counts.solutions) none ∙ e1 in
      last
      ∙ ap (λ t. t ++ made) (more ∙ ap (λ t. t ++ batches_line counts.batches counts.items) head ∙ ap (λ t. lines ++ t) batches)
      ∙ ap (λ t. lines ++ rows ++ t) (totals_are budget grain jobs outcomes whole)
