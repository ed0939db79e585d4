-- The jobs of an input and the items of a batch, one by one.
use Rattle.std.proofs.Common.{◌≡◌, ℕ, ◌+◌, ◌<◌, ◌≤◌, List, [], ◌∷◌, ◌++◌, length, drop, get_or, Option, None, refl, sym, ap, ◌∙◌, subst}
use Rattle.std.proofs.Common.{arith, append-nil, append_assoc}
use Rattle.std.proofs.lemmas.List.{drop_all, drop_more}
use Rattle.std.proofs.lemmas.List.Sums.{sum_by-cons}
use Rattle.bag_ledger.specs.declared.entries.Said.{Said}
use Rattle.job_report.specs.Jobs.{all_items, item_count, puzzles}
use Rattle.job_text.specs.declared.items.Item.{Item}
use Rattle.job_text.specs.declared.jobs.Job.{Job}
use Rattle.job_text.specs.declared.jobs.Job.TheVariants.{Puzzle, Batch}
use Rattle.job_units.specs.declared.answers.Answer.{Answer}
use Rattle.job_units.specs.declared.units.Made.{Made}
use Rattle.job_units.specs.declared.units.Made.TheVariants as made
use Rattle.job_units.specs.Works.{answer_of}
use Rattle.puzzle_app.specs.Desk.{answers_to}
use Rattle.puzzle_app.specs.Tasks.{Task, Put, as_units, jobs_from, put_all, tasks_from}
use Rattle.puzzle_app.specs.Working.{IsGoing, behind, board_count, task_at}
use Rattle.puzzle_app.specs.declared.desk.Desk.{Desk}
use Rattle.puzzle_app.specs.declared.places.Place.{Place}
use Rattle.puzzle_app.specs.declared.program.PuzzleProgram.{PuzzleProgram}

-- Jobs.

-- the jobs from a place on are the one there and those after it
pub next_job : (jobs : List Job) (i : ℕ) (job : Job) → i < length jobs → job ≡ get_or jobs i job → drop i jobs ≡ job ∷ drop (i + 1) jobs
next_job jobs i job within is = drop_more jobs i job within ∙ ap (λ j. j ∷ drop (i + 1) jobs) (sym is)

puzzles_one : (job : Job) (jobs : List Job) → length (puzzles (job ∷ jobs)) ≡ board_count job + length (puzzles jobs)
unfolding puzzles
puzzles_one (Puzzle g) jobs = omega arith
puzzles_one (Batch common items) jobs = omega arith

-- puzzles from a place on, with one job less
pub puzzles_next : (jobs : List Job) (i : ℕ) (job : Job) → i < length jobs → job ≡ get_or jobs i job →
    length (puzzles (drop i jobs)) ≡ board_count job + length (puzzles (drop (i + 1) jobs))
puzzles_next jobs i job within is = ap (λ js. length (puzzles js)) (next_job jobs i job within is) ∙ puzzles_one job (drop (i + 1) jobs)

-- items from a place on, with one job less
pub items_next : (jobs : List Job) (i : ℕ) (job : Job) → i < length jobs → job ≡ get_or jobs i job →
    all_items (drop i jobs) ≡ item_count job + all_items (drop (i + 1) jobs)
items_next jobs i job within is = ap all_items (next_job jobs i job within is) ∙ sum_by-cons item_count job (drop (i + 1) jobs)

-- after the last job there is no puzzle
pub puzzles_end : (jobs : List Job) (i : ℕ) → length jobs ≤ i → length (puzzles (drop i jobs)) ≡ 0
unfolding puzzles
puzzles_end jobs i past = ap (λ js. length (puzzles js)) (drop_all i jobs past)

tasks_one : (budget : ℕ) (at : Place) (job : Job) (jobs : List Job) →
    tasks_from budget at.puzzle at.batch (job ∷ jobs) ≡
    task_at budget at job ∷ tasks_from budget (behind at job).puzzle (behind at job).batch jobs
unfolding tasks_from
tasks_one budget at (Puzzle g) jobs = refl
tasks_one budget at (Batch common items) jobs = refl

-- tasks from a place on are the one there and those after it
pub tasks_next : (budget : ℕ) (at : Place) (jobs : List Job) (i : ℕ) (job : Job) → i < length jobs → job ≡ get_or jobs i job →
    tasks_from budget at.puzzle at.batch (drop i jobs) ≡
    task_at budget at job ∷ tasks_from budget (behind at job).puzzle (behind at job).batch (drop (i + 1) jobs)
tasks_next budget at jobs i job within is =
    ap (λ js. tasks_from budget at.puzzle at.batch js) (next_job jobs i job within is) ∙ tasks_one budget at job (drop (i + 1) jobs)

-- after the last job there is no task
pub tasks_end : (budget : ℕ) (at : Place) (jobs : List Job) (i : ℕ) → length jobs ≤ i →
    tasks_from budget at.puzzle at.batch (drop i jobs) ≡ []
unfolding tasks_from
tasks_end budget at jobs i past = ap (λ js. tasks_from budget at.puzzle at.batch js) (drop_all i jobs past)

-- a job takes the next number of a puzzle or of a batch
pub behind_sum : (at : Place) (job : Job) → (behind at job).puzzle + (behind at job).batch ≡ at.puzzle + at.batch + 1
behind_sum at (Puzzle g) = omega arith
behind_sum at (Batch common items) = omega arith

-- Items.

jobs_one : (b n : ℕ) (item : Item) (items : List Item) →
    jobs_from b n (item ∷ items) ≡ record { batch = b; number = n; item = item } ∷ jobs_from b (n + 1) items
unfolding jobs_from
jobs_one b n item items = refl

-- units of items from a place on are the one there and those after it
pub jobs_next : (b n : ℕ) (items : List Item) (i : ℕ) (item : Item) → i < length items →
    jobs_from b n (drop i items) ≡ record { batch = b; number = n; item = get_or items i item } ∷ jobs_from b (n + 1) (drop (i + 1) items)
jobs_next b n items i item within = ap (jobs_from b n) (drop_more items i item within)
    ∙ jobs_one b n (get_or items i item) (drop (i + 1) items)

-- after the last item there is no unit
pub jobs_end : (b n : ℕ) (items : List Item) (i : ℕ) → length items ≤ i → jobs_from b n (drop i items) ≡ []
unfolding jobs_from
jobs_end b n items i past = ap (jobs_from b n) (drop_all i items past)

-- answers that wait, with those to the items left, are the same after one more
pub answers_next : (common : List ℕ) (b n : ℕ) (items : List Item) (i : ℕ) (item : Item) (waiting next all : List Made) (answer : Answer) →
    i < length items →
    answer ≡ answer_of common (record { batch = b; number = n; item = get_or items i item }) → next ≡ waiting ++ made.Answer answer ∷ [] →
    waiting ++ answers_to common (jobs_from b n (drop i items)) ≡ all →
    next ++ answers_to common (jobs_from b (n + 1) (drop (i + 1) items)) ≡ all
answers_next common b n items i item waiting next all answer within is more so_far =
    let rest : List Made = answers_to common (jobs_from b (n + 1) (drop (i + 1) items)) in
    let here : answers_to common (jobs_from b n (drop i items)) ≡ made.Answer answer ∷ rest =
    ap (answers_to common) (jobs_next b n items i item within) ∙ ap (λ a. made.Answer a ∷ rest) (sym is) in
    ap (λ w. w ++ rest) more ∙ append_assoc waiting (made.Answer answer ∷ []) rest ∙ ap (λ r. waiting ++ r) (sym here) ∙ so_far

-- after the last item the answers that wait are all
pub answers_end : (common : List ℕ) (b n : ℕ) (items : List Item) (i : ℕ) (waiting all : List Made) → length items ≤ i →
    waiting ++ answers_to common (jobs_from b n (drop i items)) ≡ all → waiting ≡ all
answers_end common b n items i waiting all past so_far =
    sym (append-nil waiting) ∙ ap (λ js. waiting ++ answers_to common js) (sym (jobs_end b n items i past)) ∙ so_far

-- what is to be done next, when the books are these
pub job_is_next : (p : PuzzleProgram) (said : List Said) (d : Desk) (b n : ℕ) (items : List Item) (i : ℕ) (item : Item) (rest : List Task)
    (on : Option (List ℕ)) →
    i < length items → IsGoing p said d (put_all (as_units (jobs_from b n (drop i items))) ++ rest) on →
    IsGoing p said d (Put (made.Job (record { batch = b; number = n; item = get_or items i item })) ∷
    (put_all (as_units (jobs_from b (n + 1) (drop (i + 1) items))) ++ rest)) on
job_is_next p said d b n items i item rest on within is =
    subst (λ js. IsGoing p said d (put_all (as_units js) ++ rest) on) (jobs_next b n items i item within) is

-- after the last item a batch has nothing left to put
pub no_job_is_next : (p : PuzzleProgram) (said : List Said) (d : Desk) (b n : ℕ) (items : List Item) (i : ℕ) (rest : List Task)
    (on : Option (List ℕ)) →
    length items ≤ i → IsGoing p said d (put_all (as_units (jobs_from b n (drop i items))) ++ rest) on → IsGoing p said d rest on
no_job_is_next p said d b n items i rest on past is =
    subst (λ js. IsGoing p said d (put_all (as_units js) ++ rest) on) (jobs_end b n items i past) is

-- the next task is that of the next job
pub task_is_next : (p : PuzzleProgram) (said : List Said) (d : Desk) (at : Place) (jobs : List Job) (i : ℕ) (job : Job) → i < length jobs →
    job ≡ get_or jobs i job →
    IsGoing p said d (tasks_from p.settings.budget at.puzzle at.batch (drop i jobs)) None →
    IsGoing p said d (task_at p.settings.budget at job ∷ tasks_from p.settings.budget (behind at job).puzzle (behind at job).batch
    (drop (i + 1) jobs)) None
task_is_next p said d at jobs i job within is going =
    subst (λ ts. IsGoing p said d ts None) (tasks_next p.settings.budget at jobs i job within is) going

-- after the last job no task is left
pub no_task_is_next : (p : PuzzleProgram) (said : List Said) (d : Desk) (at : Place) (jobs : List Job) (i : ℕ) → length jobs ≤ i →
    IsGoing p said d (tasks_from p.settings.budget at.puzzle at.batch (drop i jobs)) None → IsGoing p said d [] None
no_task_is_next p said d at jobs i past going = subst (λ ts. IsGoing p said d ts None) (tasks_end p.settings.budget at jobs i past) going
