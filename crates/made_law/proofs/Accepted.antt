-- A made text is a front with its jobs.
use Rattle.std.proofs.Common.{◌≡◌, ◌∙◌, ℕ, zero, suc, ◌+◌, ◌%◌, Bool, true, false, cond, eqb, List, [], ◌∷◌, ◌++◌, codes, map, refl, ap}
use Rattle.std.proofs.Common.{append_assoc}
use Rattle.rand_pcg.specs.Lcg.{Lcg}
use Rattle.sudoku_rules.specs.Reading.{digit_of}
use Rattle.job_text.specs.declared.items.Item.{Item}
use Rattle.job_text.specs.declared.jobs.Job.{Job}
use Rattle.job_text.specs.declared.jobs.Job.TheVariants.{Batch, Puzzle}
use Rattle.job_text.specs.Jobs.{first_refused, items_of, jobs_of, kinds}
use Rattle.job_text.specs.Kinds.{puzzle}
use Rattle.made_jobs.specs.Made.{batch_of, lines_of, made}
use Rattle.made_jobs.specs.Made as drawn
use Rattle.made_jobs.specs.Signs.{IsPuzzle}
use Rattle.made_law.specs.Jobs.{made_items, made_jobs, puzzle_jobs}
use Rattle.made_law.proofs.Fronts.{IsFront, first_kind, fronts_join, is_plain, nothing_is_front}
use Rattle.made_law.proofs.MadeLines.{batch_lines, puzzle_line}
use Rattle.made_law.proofs.Signs.{signs_pass}

puzzle_is_front : (signs : List ℕ) → IsPuzzle signs → IsFront (signs ++ codes "\n") (Puzzle (map digit_of signs) ∷ [])
unfolding items_of jobs_of first_refused
puzzle_is_front signs good = record {
  follows = λ back after. record {
    items = ap items_of (read back);
    fine = λ on number. ap (first_refused on number) (read back) ∙ after.fine false (number + 1);
  };
  jobs = λ back after. ap jobs_of (read back);
}
  where
    read : (back : List ℕ) → kinds ((signs ++ codes "\n") ++ back) ≡ puzzle (map digit_of signs) ∷ kinds back
    read back =
        ap (λ text. kinds text) (append_assoc signs (codes "\n") back)
        ∙ first_kind signs back (signs_pass is_plain refl refl signs good)
        ∙ ap (λ kind. kind ∷ kinds back) (puzzle_line signs good)

batch_is_front : (signs : List ℕ) → IsPuzzle signs → IsFront (batch_of signs) (Batch signs made_items ∷ [])
unfolding items_of jobs_of first_refused
batch_is_front signs good = record {
  follows = λ back after. record {
    items = ap items_of (batch_lines signs back good);
    fine = λ on number. ap (first_refused on number) (batch_lines signs back good) ∙ after.fine true (number + 1 + 1 + 1 + 1);
  };
  jobs = λ back after.
      ap jobs_of (batch_lines signs back good)
      ∙ ap (λ (items : List Item). Batch signs (made_items ++ items) ∷ jobs_of (kinds back)) after.items;
}

-- a batch after an eighth puzzle, and nothing after any other
either_is_front : (eighth : Bool) (text : List ℕ) (jobs : List Job) → IsFront text jobs
    → IsFront (cond eighth text []) (cond eighth jobs [])
either_is_front true text jobs front = front
either_is_front false text jobs front = nothing_is_front

lines_are_front : (number : ℕ) (signs : List ℕ) → IsPuzzle signs → IsFront (lines_of number signs) (puzzle_jobs number signs)
unfolding lines_of
lines_are_front number signs good =
    fronts_join (signs ++ codes "\n") (cond (eqb (number % 8) 0) (batch_of signs) []) (Puzzle (map digit_of signs) ∷ [])
    (cond (eqb (number % 8) 0) (Batch signs made_items ∷ []) []) (puzzle_is_front signs good)
    (either_is_front (eqb (number % 8) 0) (batch_of signs) (Batch signs made_items ∷ []) (batch_is_front signs good))

module _ (are_puzzles : (generator : Lcg) → IsPuzzle (drawn.puzzle generator).0) where
  pub made_is_front : (count : ℕ) (generator : Lcg) → IsFront (made count generator).0 (made_jobs count generator)
  unfolding made made_jobs
  made_is_front zero generator = nothing_is_front
  made_is_front (suc count) generator =
      let before : List ℕ × Lcg = made count generator in
      let signs : List ℕ = (drawn.puzzle before.1).0 in
      fronts_join before.0 (lines_of (suc count) signs) (made_jobs count generator) (puzzle_jobs (suc count) signs)
      (made_is_front count generator) (lines_are_front (suc count) signs (are_puzzles before.1))
