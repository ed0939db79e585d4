-- Of each item one answer is told.
use Rattle.std.proofs.Common.{◌≡◌, ◌<◌, ◌+◌, ◌==◌, ℕ, Bool, true, false, cond, ◌&&◌, List, [], ◌∷◌, ◌++◌, refl, sym, ap, ◌∙◌, arith}
use Rattle.std.proofs.Common.{append-nil, count_by, sum_by}
use Rattle.std.proofs.lemmas.Bool.{eq-eqb, ne_eqb}
use Rattle.std.proofs.lemmas.List.Sums.{sum_by-cons}
use Rattle.job_text.specs.declared.items.Item.{Item}
use Rattle.job_text.specs.declared.jobs.Job.{Job}
use Rattle.job_text.specs.declared.jobs.Job.TheVariants.{Batch, Puzzle}
use Rattle.job_units.specs.Items.{answer_to}
use Rattle.job_report.specs.Whole.{answers_in, answers_of}
use Rattle.job_report.specs.declared.outcomes.Outcome.{Outcome}
use Rattle.job_units.specs.declared.units.Made.{Made}
use Rattle.job_units.specs.declared.units.Made.TheVariants as made
use Rattle.puzzle_app.specs.Arrivals.{Arrival, answers_in as told_by}
use Rattle.puzzle_law.proofs.First.{item_answers, job_answers}
use Rattle.puzzle_law.proofs.Pieces.{over}
use Rattle.puzzle_law.proofs.Ranks.{answered_in}
use Rattle.puzzle_law.proofs.Sums.{one_if}
use Rattle.puzzle_law.proofs.Weights.{told_weight}

answers_in-append : (b n : ℕ) (xs ys : List (ℕ × ℕ × ℕ)) → answers_in b n (xs ++ ys) ≡ answers_in b n xs ++ answers_in b n ys
unfolding answers_in
answers_in-append b n [] ys = refl
answers_in-append b n (x ∷ xs) ys = here ((x.0 == b) && (x.1 == n)) (answers_in-append b n xs ys)
  where
    here : (t : Bool) → answers_in b n (xs ++ ys) ≡ answers_in b n xs ++ answers_in b n ys →
        cond t (x.2 ∷ answers_in b n (xs ++ ys)) (answers_in b n (xs ++ ys))
        ≡ cond t (x.2 ∷ answers_in b n xs) (answers_in b n xs) ++ answers_in b n ys
    here true later = ap (λ l. x.2 ∷ l) later
    here false later = later

-- the values of an item in all outcomes
pub answers_are : (b n : ℕ) (outcomes : List Outcome) → answers_of b n outcomes ≡ answers_in b n (answered_in outcomes)
unfolding answers_in
answers_are b n [] = refl
answers_are b n (o ∷ outcomes) =
    ap (λ l. answers_in b n o.answers.items ++ l) (answers_are b n outcomes)
    ∙ sym (answers_in-append b n o.answers.items (answered_in outcomes))

-- Answers as weights.

-- an answer to item n of batch b weighs 1 where its value passes
abbrev pub answer_passes : ℕ → ℕ → (ℕ → Bool) → ℕ × ℕ × ℕ → ℕ
answer_passes b n p x = cond ((x.0 == b) && (x.1 == n)) (one_if p x.2) 0

-- answers weigh as many as their values pass
pub answers_pass : (b n : ℕ) (p : ℕ → Bool) (xs : List (ℕ × ℕ × ℕ)) → sum_by (answer_passes b n p) xs ≡ count_by p (answers_in b n xs)
unfolding answers_in
answers_pass b n p [] = refl
answers_pass b n p (x ∷ xs) =
    omega (arith, sum_by-cons (answer_passes b n p) x xs, answers_pass b n p xs, here ((x.0 == b) && (x.1 == n)))
  where
    here : (t : Bool) →
        count_by p (cond t (x.2 ∷ answers_in b n xs) (answers_in b n xs)) ≡ cond t (one_if p x.2) 0 + count_by p (answers_in b n xs)
    here true = sum_by-cons (one_if p) x.2 (answers_in b n xs)
    here false = omega arith

-- the answers that stay weigh as they are told
pub told_weighs : (w : ℕ × ℕ × ℕ → ℕ) (came : List Arrival) → sum_by (told_weight w) came ≡ sum_by w (told_by came)
told_weighs w [] = refl
told_weighs w (a ∷ came) = omega (arith, sum_by-cons (told_weight w) a came, one_told a.common a.unit, told_weighs w came)
  where
    one_told : (common : List ℕ) (unit : Made) →
        sum_by w (told_by (over common unit ∷ came)) ≡ told_weight w (over common unit) + sum_by w (told_by came)
    one_told common (made.Board b) = omega arith
    one_told common (made.Solution s) = omega arith
    one_told common (made.Job j) = omega arith
    one_told common (made.Answer x) = sum_by-cons w (x.batch, x.number, x.value) (told_by came)

-- One batch.

-- the answer to another item is not one of this item
another : (b n c m : ℕ) (common : List ℕ) (item : Item) (items : List Item) → ((c == b) && (m == n)) ≡ false →
    answers_in b n (item_answers c m common (item ∷ items)) ≡ answers_in b n (item_answers c (m + 1) common items)
unfolding answers_in item_answers
another b n c m common item items other =
    let rest : List ℕ = answers_in b n (item_answers c (m + 1) common items) in
    ap (λ t. cond t (answer_to item common ∷ rest) rest) other

no_and : (t : Bool) → (t && false) ≡ false
no_and true = refl
no_and false = refl

other_item : (b n c m : ℕ) → (m ≡ n → ⊥) → ((c == b) && (m == n)) ≡ false
other_item b n c m other = ap (λ t. (c == b) && t) (ne_eqb m n other) ∙ no_and (c == b)

other_batch : (b n c m : ℕ) (common : List ℕ) (items : List Item) → (c ≡ b → ⊥) → answers_in b n (item_answers c m common items) ≡ []
unfolding answers_in item_answers
other_batch b n c m common [] other = refl
other_batch b n c m common (item ∷ items) other =
    another b n c m common item items (ap (λ t. t && (m == n)) (ne_eqb c b other)) ∙ other_batch b n c (m + 1) common items other

later_items : (b n c m : ℕ) (common : List ℕ) (items : List Item) → n < m → answers_in b n (item_answers c m common items) ≡ []
unfolding answers_in item_answers
later_items b n c m common [] less = refl
later_items b n c m common (item ∷ items) less =
    another b n c m common item items (other_item b n c m (λ e. omega arith)) ∙ later_items b n c (m + 1) common items (omega arith)

-- of the first item of these there is its answer alone
pub first_item : (b n : ℕ) (common : List ℕ) (item : Item) (items : List Item) →
    answers_in b n (item_answers b n common (item ∷ items)) ≡ answer_to item common ∷ []
unfolding answers_in item_answers
first_item b n common item items =
    let value : ℕ = answer_to item common in
    let rest : List ℕ = answers_in b n (item_answers b (n + 1) common items) in
    ap (λ t. cond (t && (n == n)) (value ∷ rest) rest) (eq-eqb b b refl)
    ∙ ap (λ t. cond t (value ∷ rest) rest) (eq-eqb n n refl)
    ∙ ap (λ l. value ∷ l) (later_items b n b (n + 1) common items (omega arith))

-- of later items there is what there is without it
pub next_items : (b n m : ℕ) (common : List ℕ) (item : Item) (items : List Item) → n < m →
    answers_in b m (item_answers b n common (item ∷ items)) ≡ answers_in b m (item_answers b (n + 1) common items)
next_items b n m common item items less = another b m b n common item items (other_item b m b n (λ e. omega arith))

-- All batches.

later_batches : (b n c : ℕ) (jobs : List Job) → b < c → answers_in b n (job_answers c jobs) ≡ []
unfolding answers_in job_answers
later_batches b n c [] less = refl
later_batches b n c (Puzzle g ∷ jobs) less = later_batches b n c jobs less
later_batches b n c (Batch common items ∷ jobs) less =
    answers_in-append b n (item_answers c 1 common items) (job_answers (c + 1) jobs)
    ∙ ap (λ l. l ++ answers_in b n (job_answers (c + 1) jobs)) (other_batch b n c 1 common items (λ e. omega arith))
    ∙ later_batches b n (c + 1) jobs (omega arith)

-- of an item of the first batch of these there is what there is in that batch
pub first_batch : (b n : ℕ) (common : List ℕ) (items : List Item) (jobs : List Job) →
    answers_in b n (job_answers b (Batch common items ∷ jobs)) ≡ answers_in b n (item_answers b 1 common items)
unfolding job_answers
first_batch b n common items jobs =
    let its : List ℕ = answers_in b n (item_answers b 1 common items) in
    answers_in-append b n (item_answers b 1 common items) (job_answers (b + 1) jobs)
    ∙ ap (λ l. its ++ l) (later_batches b n (b + 1) jobs (omega arith))
    ∙ append-nil its

-- of items of later batches there is what there is without it
pub next_batches : (b c n : ℕ) (common : List ℕ) (items : List Item) (jobs : List Job) → b < c →
    answers_in c n (job_answers b (Batch common items ∷ jobs)) ≡ answers_in c n (job_answers (b + 1) jobs)
unfolding job_answers
next_batches b c n common items jobs less =
    answers_in-append c n (item_answers b 1 common items) (job_answers (b + 1) jobs)
    ∙ ap (λ l. l ++ answers_in c n (job_answers (b + 1) jobs)) (other_batch c n b 1 common items (λ e. omega arith))
