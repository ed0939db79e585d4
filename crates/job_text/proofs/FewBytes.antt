-- The bytes of a batch are at most those of a line.
use Rattle.std.proofs.Common.{◌≡◌, ◌≤◌, ℕ, ◌+◌, Bool, true, false, cond, ltb, eqb, ◌||◌, List, [], ◌∷◌, length, map, refl, arith}
use Rattle.std.specs.Prelude.{codes, slice_index}
use Rattle.std.specs.List.{All, before_first, list_all, position_or_len}
use Rattle.std.specs.Str.{bytes_eq}
use Rattle.std.proofs.lemmas.Bool.{ltb-false}
use Rattle.std.proofs.lemmas.List.{length-drop}
use Rattle.std.proofs.lemmas.List.Elements.{All-nil, All-cons}
use Rattle.sudoku_rules.specs.Sides.{side_for}
use Rattle.sudoku_rules.specs.Reading.{digit_of}
use Rattle.job_text.specs.declared.faults.LineWhy.TheVariants.{Long, Length, Character, Word}
use Rattle.job_text.specs.declared.jobs.Job.TheVariants.{Puzzle, Batch}
use Rattle.job_text.specs.Words.{is_blank, is_space, first_word, behind_word}
use Rattle.job_text.specs.Kinds.{Kind, skipped, puzzle, batch, item, bad, line_limit, is_size, is_cell_sign, begins_puzzle, is_item_name}
use Rattle.job_text.specs.Kinds.{item_of, puzzle_kind, named_kind, short_kind, kind_of}
use Rattle.job_text.specs.Jobs.{HasFewBytes, jobs_of, items_of}

IsFew : Kind → Type 0
IsFew skipped = Unit {0}
IsFew (puzzle grid) = Unit {0}
IsFew (batch bytes) = length bytes ≤ line_limit
IsFew (item i) = Unit {0}
IsFew (bad reason) = Unit {0}

chosen : (b : Bool) (x y : Kind) → IsFew x → (b ≡ false → IsFew y) → IsFew (cond b x y)
chosen true x y p q = p
chosen false x y p q = q refl

few_puzzle : (text : List ℕ) → IsFew (puzzle_kind text)
unfolding puzzle_kind IsFew
few_puzzle text =
    chosen (is_size (length text)) _ (bad (Length (length text)))
    (chosen (list_all (is_cell_sign (side_for (length text))) text) (puzzle (map digit_of text))
    (bad Character) tt (λ e. tt)) (λ e. tt)

few_named : (line : List ℕ) → length line ≤ line_limit → IsFew (named_kind line)
unfolding named_kind IsFew
few_named line le =
    chosen (bytes_eq (first_word line) (codes "batch")) (batch (behind_word line)) _
    (omega (arith, length-drop (position_or_len is_space line + 1) line))
    (λ e. chosen (is_item_name (first_word line)) (item (item_of line)) (bad Word) tt (λ e. tt))

few_kind : (line : List ℕ) → IsFew (kind_of line)
unfolding kind_of short_kind IsFew
few_kind line =
    chosen (ltb line_limit (length line)) (bad Long) (short_kind line) tt (λ short.
    chosen ((eqb (length line) 0) || (eqb (slice_index line 0) 35)) skipped _ tt (λ e.
    chosen (begins_puzzle (slice_index line 0)) (puzzle_kind (before_first is_blank line)) (named_kind line)
    (few_puzzle (before_first is_blank line)) (λ e. few_named line (ltb-false line_limit (length line) short))))

job_first : (k : Kind) (kinds : List Kind) → IsFew k → All HasFewBytes (jobs_of kinds) → All HasFewBytes (jobs_of (k ∷ kinds))
unfolding jobs_of IsFew
job_first skipped kinds p all = all
job_first (puzzle grid) kinds p all = All-cons HasFewBytes (Puzzle grid) (jobs_of kinds) tt all
job_first (batch bytes) kinds p all = All-cons HasFewBytes (Batch bytes (items_of kinds)) (jobs_of kinds) p all
job_first (item i) kinds p all = all
job_first (bad reason) kinds p all = all

-- each batch of an input has at most the bytes of its lines
pub few_bytes : (lines : List (List ℕ)) → All HasFewBytes (jobs_of (map kind_of lines))
unfolding jobs_of
few_bytes [] = All-nil HasFewBytes
few_bytes (line ∷ lines) = job_first (kind_of line) (map kind_of lines) (few_kind line) (few_bytes lines)
