-- Worked rows, by computation.
use Rattle.std.proofs.Common.{◌≡◌, ℕ, List, [], ◌∷◌, take, Some, None, refl}
use Rattle.job_text.specs.declared.items.Item.TheVariants.{Count, Sum, Max}
use Rattle.job_units.specs.Bodies.{board_body, job_body}
use Rattle.job_units.specs.Items.{answer_to}
use Rattle.job_units.specs.Reading.{job_of_body}

-- `count 97 98` as item 1 of batch 1
abbrev count_body : List ℕ
count_body = 0 ∷ 0 ∷ 0 ∷ 1 ∷ 0 ∷ 0 ∷ 0 ∷ 1 ∷ 1 ∷ 97 ∷ 98 ∷ []

-- an item with these three bytes, in the same place
abbrev item_body : ℕ → ℕ → ℕ → List ℕ
item_body kind lo hi = 0 ∷ 0 ∷ 0 ∷ 1 ∷ 0 ∷ 0 ∷ 0 ∷ 1 ∷ kind ∷ lo ∷ hi ∷ []

count_is_written : job_body (record { batch = 1; number = 1; item = Count 97 98 }) ≡ count_body
unfolding job_body
count_is_written = refl

count_is_read : job_of_body count_body ≡ Some (record { batch = 1; number = 1; item = Count 97 98 })
unfolding job_body job_of_body
count_is_read = refl

-- no job has kind 0 or 4, and a sum or a maximum has no bounds
no_kind_0 : job_of_body (item_body 0 0 0) ≡ None
unfolding job_body job_of_body
no_kind_0 = refl

no_kind_4 : job_of_body (item_body 4 0 0) ≡ None
unfolding job_body job_of_body
no_kind_4 = refl

no_sum_from : job_of_body (item_body 2 1 0) ≡ None
unfolding job_body job_of_body
no_sum_from = refl

no_maximum_to : job_of_body (item_body 3 0 1) ≡ None
unfolding job_body job_of_body
no_maximum_to = refl

-- the board of puzzle 1 with the default budget
board_begins : (grid : List ℕ)
    → take 12 (board_body (record { puzzle = 1; budget = 16777216; grid = grid })) ≡ 0 ∷ 0 ∷ 0 ∷ 1 ∷ 0 ∷ 0 ∷ 0 ∷ 0 ∷ 1 ∷ 0 ∷ 0 ∷ 0 ∷ []
unfolding board_body
board_begins grid = refl

-- items over `abcabc`
abbrev letters : List ℕ
letters = 97 ∷ 98 ∷ 99 ∷ 97 ∷ 98 ∷ 99 ∷ []

items_are_counted : (answer_to (Count 97 98) letters ≡ 4) × (answer_to (Count 98 97) letters ≡ 0) × (answer_to (Count 0 255) [] ≡ 0)
items_are_counted = (refl, refl, refl)

sums_and_maxima : (answer_to Sum letters ≡ 588) × (answer_to Max letters ≡ 99) × (answer_to Sum [] ≡ 0) × (answer_to Max [] ≡ 0)
sums_and_maxima = (refl, refl, refl, refl)
