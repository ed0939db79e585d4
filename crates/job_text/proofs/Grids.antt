-- Each puzzle of an input is a grid.
use Rattle.std.proofs.Common.{◌≡◌, ◌<◌, ◌∙◌, ℕ, Bool, true, false, cond, ltb, eqb, ◌||◌, List, [], ◌∷◌, length, get_or, map, refl, sym}
use Rattle.std.specs.Prelude.{codes, slice_index}
use Rattle.std.specs.List.{All, before_first, list_all}
use Rattle.std.specs.Str.{bytes_eq}
use Rattle.std.proofs.lemmas.List.Elements.{All-nil, All-cons}
use Rattle.std.proofs.lemmas.List.Folds.{list_all_at}
use Rattle.sudoku_rules.specs.Sides.{IsSudoku, side_for}
use Rattle.sudoku_rules.specs.Reading.{digit_of}
use Rattle.sudoku_rules.proofs.Reading.{signs_give_grid}
use Rattle.job_text.specs.declared.faults.LineWhy.TheVariants.{Long, Length, Character, Word}
use Rattle.job_text.specs.declared.jobs.Job.TheVariants.{Puzzle, Batch}
use Rattle.job_text.specs.Words.{is_blank, first_word, behind_word}
use Rattle.job_text.specs.Kinds.{Kind, skipped, puzzle, batch, item, bad, line_limit, is_size, is_cell_sign, begins_puzzle, is_item_name}
use Rattle.job_text.specs.Kinds.{item_of, puzzle_kind, named_kind, short_kind, kind_of}
use Rattle.job_text.specs.Jobs.{HasGrid, jobs_of, items_of}
use Rattle.job_text.proofs.Puzzles.{is_sign, is_size_of}

IsGridKind : Kind → Type 0
IsGridKind skipped = Unit {0}
IsGridKind (puzzle grid) = IsSudoku grid
IsGridKind (batch bytes) = Unit {0}
IsGridKind (item i) = Unit {0}
IsGridKind (bad reason) = Unit {0}

chosen : (b : Bool) (x y : Kind) → (b ≡ true → IsGridKind x) → IsGridKind y → IsGridKind (cond b x y)
chosen true x y p q = p refl
chosen false x y p q = q

passes_at : (p : ℕ → Bool) (text : List ℕ) → list_all p text ≡ true → (k : ℕ) → k < length text → p (get_or text k 0) ≡ true
passes_at p text all k within = by_test (p (get_or text k 0)) refl
  where
    by_test : (t : Bool) → p (get_or text k 0) ≡ t → p (get_or text k 0) ≡ true
    by_test true is = is
    by_test false is = let none : false ≡ true = sym (list_all_at p text k 0 within is) ∙ all in absurd (cc)

grid_puzzle : (text : List ℕ) → IsGridKind (puzzle_kind text)
unfolding puzzle_kind IsGridKind
grid_puzzle text =
    let n : ℕ = side_for (length text) in
    chosen (is_size (length text)) _ (bad (Length (length text))) (λ size.
    chosen (list_all (is_cell_sign n) text) (puzzle (map digit_of text)) (bad Character)
    (λ all. signs_give_grid text (map digit_of text) (is_size_of (length text) size)
    (λ k within. is_sign n (get_or text k 0) (passes_at (is_cell_sign n) text all k within)) refl) tt) tt

grid_named : (line : List ℕ) → IsGridKind (named_kind line)
unfolding named_kind IsGridKind
grid_named line =
    chosen (bytes_eq (first_word line) (codes "batch")) (batch (behind_word line)) _ (λ e. tt)
    (chosen (is_item_name (first_word line)) (item (item_of line)) (bad Word) (λ e. tt) tt)

grid_kind : (line : List ℕ) → IsGridKind (kind_of line)
unfolding kind_of short_kind IsGridKind
grid_kind line =
    chosen (ltb line_limit (length line)) (bad Long) (short_kind line) (λ e. tt)
    (chosen ((eqb (length line) 0) || (eqb (slice_index line 0) 35)) skipped _ (λ e. tt)
    (chosen (begins_puzzle (slice_index line 0)) (puzzle_kind (before_first is_blank line)) (named_kind line)
    (λ e. grid_puzzle (before_first is_blank line)) (grid_named line)))

job_first : (k : Kind) (kinds : List Kind) → IsGridKind k → All HasGrid (jobs_of kinds) → All HasGrid (jobs_of (k ∷ kinds))
unfolding jobs_of IsGridKind
job_first skipped kinds p all = all
job_first (puzzle grid) kinds p all = All-cons HasGrid (Puzzle grid) (jobs_of kinds) p all
job_first (batch bytes) kinds p all = All-cons HasGrid (Batch bytes (items_of kinds)) (jobs_of kinds) tt all
job_first (item i) kinds p all = all
job_first (bad reason) kinds p all = all

-- each puzzle of an input is a grid
pub have_grids : (lines : List (List ℕ)) → All HasGrid (jobs_of (map kind_of lines))
unfolding jobs_of
have_grids [] = All-nil HasGrid
have_grids (line ∷ lines) = job_first (kind_of line) (map kind_of lines) (grid_kind line) (have_grids lines)
