-- Worked inputs: what the definitions say of them.
use Rattle.std.proofs.Common.{◌≡◌, ◌<◌, ℕ, ltb, List, [], ◌∷◌, ◌++◌, length, refl, Some, None}
use Rattle.std.specs.Prelude.{codes}
use Rattle.std.specs.Fmt.{digits}
use Rattle.std.proofs.lemmas.Bool.{cond-true, lt-ltb}
use Rattle.sudoku_rules.specs.Sides.{box_for}
use Rattle.job_text.specs.declared.faults.LineWhy.TheVariants.{Long, Length, Character, Item, Number, Word}
use Rattle.job_text.specs.declared.items.Item.TheVariants.{Count, Sum, Max}
use Rattle.job_text.specs.declared.jobs.Job.{Job}
use Rattle.job_text.specs.declared.jobs.Job.TheVariants.{Puzzle, Batch}
use Rattle.job_text.specs.Words.{byte_number}
use Rattle.job_text.specs.Kinds.{kind_of, short_kind, puzzle_kind, named_kind, item_of, bad, line_limit}
use Rattle.job_text.specs.Jobs.{input_jobs, input_refused, items_of, jobs_of, first_refused}

-- the input is read as these jobs, or refused at a line
record IsRead (bytes : List ℕ) (jobs : List Job) : Type 0 where
  fine : input_refused bytes ≡ None
  these : input_jobs bytes ≡ jobs

grid : List ℕ
grid = 1 ∷ 2 ∷ 3 ∷ 4 ∷ 3 ∷ 4 ∷ 1 ∷ 2 ∷ 2 ∷ 1 ∷ 4 ∷ 3 ∷ 4 ∷ 3 ∷ 2 ∷ 1 ∷ []

puzzle_line : List ℕ
puzzle_line = codes "1234341221434321"

empty : IsRead [] []
unfolding first_refused jobs_of kind_of short_kind
empty = record { fine = refl; these = refl }

returns_alone : IsRead (13 ∷ 10 ∷ 13 ∷ []) []
unfolding first_refused jobs_of kind_of short_kind
returns_alone = record { fine = refl; these = refl }

two_returns : input_refused (13 ∷ 13 ∷ []) ≡ Some (1, Word)
unfolding first_refused kind_of short_kind named_kind
two_returns = refl

nul : input_refused (35 ∷ 10 ∷ 0 ∷ 10 ∷ []) ≡ Some (2, Word)
unfolding first_refused kind_of short_kind named_kind
nul = refl

remark : IsRead (35 ∷ 13 ∷ 10 ∷ 13 ∷ 10 ∷ puzzle_line ++ codes " x" ++ 13 ∷ 10 ∷ []) (Puzzle grid ∷ [])
unfolding puzzle_line grid first_refused jobs_of kind_of short_kind puzzle_kind box_for
remark = record { fine = refl; these = refl }

batches : IsRead (codes "batch abcabc" ++ 10 ∷ codes "count 97 98" ++ 10 ∷ 10 ∷ codes "sum" ++ 10 ∷ codes "batch" ++ 10 ∷ codes "max")
    (Batch (codes "abcabc") (Count 97 98 ∷ Sum ∷ []) ∷ Batch [] (Max ∷ []) ∷ [])
unfolding first_refused jobs_of items_of kind_of short_kind named_kind item_of byte_number digits
batches = record { fine = refl; these = refl }

above : IsRead (codes "batch a" ++ 10 ∷ codes "count 5 4") (Batch (codes "a") (Count 5 4 ∷ []) ∷ [])
unfolding first_refused jobs_of items_of kind_of short_kind named_kind item_of byte_number digits
above = record { fine = refl; these = refl }

too_great : input_refused (codes "batch a" ++ 10 ∷ codes "count 256 1") ≡ Some (2, Number)
unfolding first_refused kind_of short_kind named_kind item_of byte_number digits
too_great = refl

leading_zero : input_refused (codes "batch a" ++ 10 ∷ codes "count 01 2") ≡ Some (2, Number)
unfolding first_refused kind_of short_kind named_kind item_of byte_number digits
leading_zero = refl

sum_and_more : input_refused (codes "batch a" ++ 10 ∷ codes "sum x") ≡ Some (2, Number)
unfolding first_refused kind_of short_kind named_kind item_of byte_number digits
sum_and_more = refl

after_puzzle : input_refused (codes "batch a" ++ 10 ∷ puzzle_line ++ 10 ∷ codes "max") ≡ Some (3, Item)
unfolding puzzle_line first_refused kind_of short_kind puzzle_kind named_kind item_of byte_number box_for
after_puzzle = refl

item_alone : input_refused (codes "sum x") ≡ Some (1, Item)
unfolding first_refused kind_of short_kind named_kind item_of byte_number digits
item_alone = refl

one_word : input_refused (codes "batchx") ≡ Some (1, Word)
unfolding first_refused kind_of short_kind named_kind
one_word = refl

space_first : input_refused (32 ∷ puzzle_line) ≡ Some (1, Word)
unfolding puzzle_line first_refused kind_of short_kind named_kind
space_first = refl

no_size : input_refused (codes "ABCD") ≡ Some (1, Length 4)
unfolding first_refused kind_of short_kind puzzle_kind
no_size = refl

no_sign : input_refused (codes "5...............") ≡ Some (1, Character)
unfolding first_refused kind_of short_kind puzzle_kind box_for
no_sign = refl

-- a line past the limit
pub long_line : (line : List ℕ) → line_limit < length line → kind_of line ≡ bad Long
unfolding kind_of
long_line line more = cond-true (ltb line_limit (length line)) (bad Long) (short_kind line) (lt-ltb line_limit (length line) more)
