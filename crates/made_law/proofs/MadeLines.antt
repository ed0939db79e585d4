-- The kinds of the lines of a made puzzle, and of the batch after it.
use Rattle.std.proofs.Common.{◌≡◌, ◌∙◌, ℕ, ◌+◌, Bool, true, false, cond, eqb, ltb, not, ◌&&◌, ◌||◌, List, [], ◌∷◌, ◌++◌, codes, get_or}
use Rattle.std.proofs.Common.{length, map, take, refl, ap, Some, append_assoc, length-append, one-add, arith}
use Rattle.std.specs.Fmt.{digits}
use Rattle.std.specs.List.{before_first, list_all, prefix_len}
use Rattle.std.proofs.lemmas.Bool.{and_parts, cond-false, cond-true, not-true, or_from}
use Rattle.std.proofs.lemmas.List.Sums.{AllPass-from_list_all}
use Rattle.sudoku_rules.specs.Reading.{digit_of}
use Rattle.sudoku_rules.specs.Sides.{box_for, side_for}
use Rattle.job_text.specs.declared.faults.LineWhy.TheVariants.{Character, Length, Long}
use Rattle.job_text.specs.declared.items.Item.TheVariants.{Count, Max, Sum}
use Rattle.job_text.specs.Words.{byte_number, is_blank}
use Rattle.job_text.specs.Kinds.{Kind, bad, batch, begins_puzzle, is_cell_sign, is_size, item, item_of, kind_of, line_limit, named_kind}
use Rattle.job_text.specs.Kinds.{puzzle, puzzle_kind, short_kind, skipped}
use Rattle.job_text.specs.Jobs.{kinds}
use Rattle.made_jobs.specs.Made.{batch_of}
use Rattle.made_jobs.specs.Signs.{IsPuzzle}
use Rattle.made_law.proofs.Fronts.{first_kind, is_plain}
use Rattle.made_law.proofs.Signs.{signs_pass}

-- the byte is no blank
abbrev is_in_word : ℕ → Bool
is_in_word byte = not (is_blank byte)

-- the byte begins a puzzle, and no remark
abbrev begins : ℕ → Bool
begins byte = begins_puzzle byte && not (eqb byte 35)

-- a list each of whose elements passes is its own front of those that pass
all_in_front : (passes : ℕ → Bool) (xs : List ℕ) → list_all passes xs ≡ true → take (prefix_len passes xs) xs ≡ xs
all_in_front passes [] all = refl
all_in_front passes (x ∷ xs) all =
    let parts = and_parts (passes x) (list_all passes xs) all in
    ap (λ b. take (cond b (1 + prefix_len passes xs) 0) (x ∷ xs)) parts.0
    ∙ ap (λ n. take n (x ∷ xs)) (one-add (prefix_len passes xs))
    ∙ ap (λ l. x ∷ l) (all_in_front passes xs parts.1)

-- 81 signs of cells are a puzzle's text
signs_kind : (signs : List ℕ) → length signs ≡ 81 → list_all (is_cell_sign 9) signs ≡ true → puzzle_kind signs ≡ puzzle (map digit_of signs)
unfolding puzzle_kind box_for
signs_kind signs long cells =
    let grid : Kind = puzzle (map digit_of signs) in
    ap (λ n. cond (is_size n) (cond (list_all (is_cell_sign (side_for n)) signs) grid (bad Character)) (bad (Length n))) long
    ∙ cond-true (list_all (is_cell_sign 9) signs) grid (bad Character) cells

-- the line is a puzzle
pub puzzle_line : (signs : List ℕ) → IsPuzzle signs → kind_of signs ≡ puzzle (map digit_of signs)
unfolding kind_of short_kind
puzzle_line signs good =
    let first : ℕ = get_or signs 0 0 in
    let begin : list_all begins signs ≡ true = signs_pass begins refl refl signs good in
    let begun : begins first ≡ true = AllPass-from_list_all begins signs begin 0 0 (omega (arith, good.long)) in
    let parts = and_parts (begins_puzzle first) (not (eqb first 35)) begun in
    cond-false (ltb line_limit (length signs)) (bad Long) (short_kind signs) (ap (λ n. ltb line_limit n) good.long)
    ∙ cond-false (eqb (length signs) 0 || eqb first 35) skipped _
    (or_from (eqb (length signs) 0) (eqb first 35) (ap (λ n. eqb n 0) good.long) (not-true (eqb first 35) parts.1))
    ∙ cond-true (begins_puzzle first) (puzzle_kind (before_first is_blank signs)) (named_kind signs) parts.0
    ∙ ap puzzle_kind (all_in_front is_in_word signs (signs_pass is_in_word refl refl signs good))
    ∙ signs_kind signs good.long (signs_pass (is_cell_sign 9) refl refl signs good)

-- the line is a batch of the signs
batch_line : (signs : List ℕ) → length signs ≡ 81 → kind_of (codes "batch " ++ signs) ≡ batch signs
unfolding kind_of short_kind named_kind
batch_line signs long =
    let line : List ℕ = codes "batch " ++ signs in
    let size : length line ≡ 87 = omega (arith, long, length-append (codes "batch ") signs) in
    cond-false (ltb line_limit (length line)) (bad Long) (short_kind line) (ap (λ n. ltb line_limit n) size)
    ∙ cond-false (eqb (length line) 0 || false) skipped (batch signs) (or_from (eqb (length line) 0) false (ap (λ n. eqb n 0) size) refl)

-- the lines of the items
item_lines : (back : List ℕ)
    → kinds (codes "count 49 53\nsum\nmax\n" ++ back) ≡ item (Some (Count 49 53)) ∷ item (Some Sum) ∷ item (Some Max) ∷ kinds back
unfolding kind_of short_kind named_kind item_of byte_number digits
item_lines back = refl

-- a batch with its items
pub batch_lines : (signs back : List ℕ) → IsPuzzle signs
    → kinds (batch_of signs ++ back) ≡ batch signs ∷ item (Some (Count 49 53)) ∷ item (Some Sum) ∷ item (Some Max) ∷ kinds back
batch_lines signs back good =
    let line : List ℕ = codes "batch " ++ signs in
    ap (λ text. kinds text) (append_assoc line (codes "\ncount 49 53\nsum\nmax\n") back)
    ∙ first_kind line (codes "count 49 53\nsum\nmax\n" ++ back) (signs_pass is_plain refl refl signs good)
    ∙ ap (λ kind. kind ∷ kinds (codes "count 49 53\nsum\nmax\n" ++ back)) (batch_line signs good.long)
    ∙ ap (λ rest. batch signs ∷ rest) (item_lines back)
