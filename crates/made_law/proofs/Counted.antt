-- How many jobs, puzzles and items a made text has.
use Rattle.std.proofs.Common.{◌≡◌, ◌∙◌, inl, inr, ◌⊎◌, ℕ, zero, suc, ◌+◌, ◌*◌, ◌/◌, ◌%◌, Bool, true, false, cond, eqb, List, [], ◌∷◌, ◌++◌}
use Rattle.std.proofs.Common.{length, map, refl, length-append, div-add-mod', arith}
use Rattle.std.proofs.lemmas.Bool.{eqb-true, eqb-false}
use Rattle.std.proofs.lemmas.List.Sums.{sum_by-append}
use Rattle.std.proofs.lemmas.Nat.{mod_below}
use Rattle.rand_pcg.specs.Lcg.{Lcg}
use Rattle.sudoku_rules.specs.Reading.{digit_of}
use Rattle.job_text.specs.declared.jobs.Job.{Job}
use Rattle.job_text.specs.declared.jobs.Job.TheVariants.{Batch, Puzzle}
use Rattle.job_report.specs.Jobs.{all_items, item_count, puzzles}
use Rattle.made_jobs.specs.Made.{made, puzzle}
use Rattle.made_law.specs.Jobs.{made_items, made_jobs, puzzle_jobs}

-- the jobs are this many puzzles, and for each eighth of them a batch of three items
pub record AreCounted (jobs : List Job) (count : ℕ) : Type 0 where
  pub each : length (puzzles jobs) ≡ count
  pub all : length jobs ≡ count + count / 8
  pub items : all_items jobs ≡ 3 * (count / 8)

puzzles_join : (front back : List Job) → length (puzzles (front ++ back)) ≡ length (puzzles front) + length (puzzles back)
unfolding puzzles
puzzles_join [] back = omega arith
puzzles_join (Puzzle grid ∷ front) back = omega (arith, puzzles_join front back)
puzzles_join (Batch common items ∷ front) back = puzzles_join front back

-- the jobs of one puzzle more, with as many batches as it adds eighths
counted_on : (count batches : ℕ) (before next : List Job) → AreCounted before count → length (puzzles next) ≡ 1
    → length next ≡ 1 + batches → all_items next ≡ 3 * batches → suc count / 8 ≡ count / 8 + batches
    → AreCounted (before ++ next) (suc count)
counted_on count batches before next counted one all items eighths = record {
  each = puzzles_join before next ∙ omega (arith, counted.each, one);
  all = length-append before next ∙ omega (arith, counted.all, all, eighths);
  items = sum_by-append item_count before next ∙ omega (arith, counted.items, items, eighths);
}

-- a number that is an eighth adds one to the eighths, and no other does
eighths_on : (count added : ℕ) → ((suc count % 8 ≡ 0) × (added ≡ 1)) ⊎ ((suc count % 8 ≡ 0 → ⊥) × (added ≡ 0))
    → suc count / 8 ≡ count / 8 + added
eighths_on count added is =
    let before = mod_below count 8 (omega arith) in
    let after = mod_below (suc count) 8 (omega arith) in
    omega (arith, is, div-add-mod' count 8, div-add-mod' (suc count) 8, before, after)

next_counted : (count : ℕ) (signs : List ℕ) (before : List Job) → AreCounted before count
    → AreCounted (before ++ puzzle_jobs (suc count) signs) (suc count)
unfolding puzzles
next_counted count signs before counted = by_test (eqb (suc count % 8) 0) refl
  where
    by_test : (eighth : Bool) → eqb (suc count % 8) 0 ≡ eighth
        → AreCounted (before ++ Puzzle (map digit_of signs) ∷ cond eighth (Batch signs made_items ∷ []) []) (suc count)
    by_test true is =
        counted_on count 1 before (Puzzle (map digit_of signs) ∷ Batch signs made_items ∷ []) counted refl refl refl
        (eighths_on count 1 (inl (eqb-true (suc count % 8) 0 is, refl)))
    by_test false is =
        counted_on count 0 before (Puzzle (map digit_of signs) ∷ []) counted refl refl refl
        (eighths_on count 0 (inr (eqb-false (suc count % 8) 0 is, refl)))

pub made_are_counted : (count : ℕ) (generator : Lcg) → AreCounted (made_jobs count generator) count
unfolding made_jobs puzzles
made_are_counted zero generator = record { each = refl; all = refl; items = refl }
made_are_counted (suc count) generator =
    next_counted count (puzzle (made count generator).1).0 (made_jobs count generator) (made_are_counted count generator)
