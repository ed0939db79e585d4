-- What all ranks together were to put first, sent, got, worked and kept.
use Rattle.std.proofs.Common.{◌≡◌, ◌<◌, ◌≤◌, ◌+◌, ◌==◌, ℕ, zero, suc, Bool, true, false, cond, ◌||◌, List, [], ◌∷◌, ◌++◌, take, Option}
use Rattle.std.proofs.Common.{Some, None, refl, sym, ap, ◌∙◌, subst, arith, count_by, append-nil, slice_index}
use Rattle.std.specs.List.{flat_map, list_any, slice_get}
use Rattle.std.proofs.lemmas.Bool.{lt-ltb, ltb-true, ne_eqb}
use Rattle.std.specs.Prelude.{map, nat_lt}
use Rattle.std.proofs.lemmas.List.{take_all}
use Rattle.std.proofs.lemmas.List.Concat.{flat_map-append}
use Rattle.std.proofs.lemmas.List.Folds.{list_any-append}
use Rattle.std.proofs.lemmas.List.Sums.{sum_by-append, sum_by_push}
use Rattle.adlb_unit.specs.declared.configs.Config.{Config}
use Rattle.adlb_unit.specs.declared.names.Rank.{Rank}
use Rattle.bag_ledger.specs.declared.entries.Entry.{Entry}
use Rattle.bag_ledger.specs.Bag.{Bag}
use Rattle.balance_law.specs.Balanced.{AreOrderly, IsBalanced}
use Rattle.sudoku_law.specs.Grid.{Cells}
use Rattle.job_report.specs.Whole.{made_in, told_over}
use Rattle.job_report.specs.declared.outcomes.Outcome.{Outcome}
use Rattle.job_text.specs.declared.jobs.Job.{Job}
use Rattle.job_units.specs.Puts.{counts, is_kind}
use Rattle.job_units.specs.declared.units.Made.{Made}
use Rattle.puzzle_app.specs.Arrivals.{Arrival, answers_in, arrival, bytes_on, is_over_at, makes, solutions_in}
use Rattle.puzzle_app.specs.Books.{Goes, going, shut}
use Rattle.puzzle_app.specs.Follows.{AreOvers}
use Rattle.puzzle_app.specs.Working.{tasks_of as tasks_in}
use Rattle.puzzle_app.specs.Tasks.{Task, Put, Begin, End, all_units, as_units, tasks, tasks_from, units_of}
use Rattle.puzzle_app.specs.declared.outcomes.Settings.{Settings}
use Rattle.puzzle_app.specs.declared.program.PuzzleProgram.{PuzzleProgram}
use Rattle.puzzle_law.specs.Joined.{IsPuzzleRun, IsRankRun, jobs_of}
use Rattle.puzzle_law.proofs.Pieces.{Test, all_by, waits}
use Rattle.puzzle_law.proofs.Sums.{one_if}
use Rattle.puzzle_law.proofs.Workers.{goes_by, is_work, same_bytes, tasks_of, works}
use Rattle.work_law.specs.Books.{Task as WorkTask}
use Rattle.work_law.specs.Together.{IsWorker, all_came, all_first, waits as work_waits}
use Rattle.work_law.proofs.Together.{together, workers_orderly}

-- the solutions and the answers that the ranks of these outcomes have
abbrev pub kept_in : List Outcome → List (ℕ × Cells)
kept_in outcomes = flat_map (λ (o : Outcome). o.solutions.items) outcomes

-- the answers that all outcomes have
abbrev pub answered_in : List Outcome → List (ℕ × ℕ × ℕ)
answered_in outcomes = flat_map (λ (o : Outcome). o.answers.items) outcomes

-- all that is made by ranks that were to do these tasks, if these units came to them
abbrev pub made_of : ℕ → List Task → List Arrival → List Made
made_of grain first came = all_units first ++ flat_map (makes grain) came

-- what a rank did that was to do these tasks, if these units came to it
record IsBook (grain : ℕ) (first : List Task) (outcomes : List Outcome) (rank : Rank) (came : List Arrival) : Type 0 where
  outcome : Outcome
  there : slice_get outcomes rank.0 ≡ Some outcome
  overs : AreOvers grain came outcome.overs.items
  solutions : outcome.solutions.items ≡ solutions_in came
  answers : outcome.answers.items ≡ answers_in came
  made : outcome.made ≡ counts (made_of grain first came)

-- what ranks with these outcomes did that were to do these tasks, if these units came to them
record AreBooks (grain : ℕ) (first : List Task) (outcomes : List Outcome) (came : List Arrival) : Type 0 where
  overs : (k : ℕ) → told_over k outcomes ≡ list_any (is_over_at grain k) came
  solutions : kept_in outcomes ≡ solutions_in came
  answers : answered_in outcomes ≡ answers_in came
  boards_made : made_in 0 outcomes ≡ count_by (is_kind 0) (made_of grain first came)
  solutions_made : made_in 1 outcomes ≡ count_by (is_kind 1) (made_of grain first came)
  jobs_made : made_in 2 outcomes ≡ count_by (is_kind 2) (made_of grain first came)
  answers_made : made_in 3 outcomes ≡ count_by (is_kind 3) (made_of grain first came)

-- what all ranks did: what came to them is what rank 0 was to put first and what the work on it made
pub record AreTogether (budget grain : ℕ) (all : List Job) (outcomes : List Outcome) : Type 0 where
  pub came : List Arrival
  pub same : (q : Test) → count_by q came ≡ count_by q (waits None (tasks_from budget 1 1 all) ++ all_by grain came)
  pub overs : (k : ℕ) → told_over k outcomes ≡ list_any (is_over_at grain k) came
  pub solutions : kept_in outcomes ≡ solutions_in came
  pub answers : answered_in outcomes ≡ answers_in came
  pub boards_made : made_in 0 outcomes ≡ count_by (is_kind 0) (made_of grain (tasks_from budget 1 1 all) came)
  pub solutions_made : made_in 1 outcomes ≡ count_by (is_kind 1) (made_of grain (tasks_from budget 1 1 all) came)
  pub jobs_made : made_in 2 outcomes ≡ count_by (is_kind 2) (made_of grain (tasks_from budget 1 1 all) came)
  pub answers_made : made_in 3 outcomes ≡ count_by (is_kind 3) (made_of grain (tasks_from budget 1 1 all) came)

-- One rank.

tasks_are : (p : PuzzleProgram) (settings : Settings) (jobs : Option (List Job)) → p.settings ≡ settings → p.jobs ≡ jobs →
    tasks_in p ≡ tasks settings.budget jobs
tasks_are p settings jobs e f = ap (λ (s : Settings). tasks s.budget p.jobs) e ∙ ap (tasks settings.budget) f

module _ (config : Config) (ledger : List Entry) (settings : Settings) (jobs : List Job) (outcomes : List Outcome) (rank : Rank)
    (is : IsRankRun config ledger settings jobs outcomes rank)
  where
    abbrev its : List Arrival
    its = is.follows.came

    abbrev first : List Task
    first = tasks settings.budget (jobs_of jobs rank)

    same_grain : is.program.settings.grain ≡ settings.grain
    same_grain = ap (λ (s : Settings). s.grain) is.settings_are

    same_first : tasks_in is.program ≡ first
    same_first = tasks_are is.program settings (jobs_of jobs rank) is.settings_are is.jobs_are

    book : IsBook settings.grain first outcomes rank its
    book = record {
      outcome = is.outcome;
      there = is.there;
      overs = subst (λ g. AreOvers g its is.outcome.overs.items) same_grain is.follows.overs;
      solutions = is.follows.solutions;
      answers = is.follows.answers;
      made = is.follows.made
          ∙ ap (λ f. counts (made_of is.program.settings.grain f its)) same_first
          ∙ ap (λ g. counts (made_of g first its)) same_grain;
    }

    worker_of : IsWorker (works settings.grain) config ledger (tasks_of first) rank its
    worker_of =
        let goes : Goes settings.grain (going first None []) is.said (shut is.follows.left None its) =
        subst (λ g. Goes g (going first None []) is.said (shut is.follows.left None its)) same_grain
        (subst (λ f. Goes is.program.settings.grain (going f None []) is.said (shut is.follows.left None its)) same_first
        is.follows.goes) in
        let by = goes_by settings.grain first is.said is.follows.left its goes in
        record { said = is.said; left = by.0; calls_are = is.calls_are; goes = by.1 }

-- One rank more.

or_two : (a b c d : Bool) → a ≡ c → b ≡ d → (a || (b || false)) ≡ (c || d)
or_two a b c d e f = ap (λ x. x || (b || false)) e ∙ ap (λ x. c || x) (or_none b ∙ f)
  where
    or_none : (b : Bool) → (b || false) ≡ b
    or_none true = refl
    or_none false = refl

made-append : (kind grain : ℕ) (f g : List Task) (w v : List Arrival) →
    count_by (is_kind kind) (made_of grain (f ++ g) (w ++ v))
    ≡ count_by (is_kind kind) (made_of grain f w) + count_by (is_kind kind) (made_of grain g v)
made-append kind grain f g w v =
    let fs : List Made = all_units f in
    let gs : List Made = all_units g in
    let ws : List Made = flat_map (makes grain) w in
    let vs : List Made = flat_map (makes grain) v in
    let one : Made → ℕ = one_if (is_kind kind) in
    let firsts : count_by (is_kind kind) (all_units (f ++ g)) ≡ count_by (is_kind kind) (fs ++ gs) =
    ap (count_by (is_kind kind)) (flat_map-append units_of f g) in
    let later : count_by (is_kind kind) (flat_map (makes grain) (w ++ v)) ≡ count_by (is_kind kind) (ws ++ vs) =
    ap (count_by (is_kind kind)) (flat_map-append (makes grain) w v) in
    omega (
      arith,
      sum_by-append one (all_units (f ++ g)) (flat_map (makes grain) (w ++ v)),
      firsts,
      later,
      sum_by-append one fs gs,
      sum_by-append one ws vs,
      sum_by-append one fs ws,
      sum_by-append one gs vs,
    )

solutions-append : (w v : List Arrival) → solutions_in (w ++ v) ≡ solutions_in w ++ solutions_in v
solutions-append w v = flat_map-append _ w v

answers-append : (w v : List Arrival) → answers_in (w ++ v) ≡ answers_in w ++ answers_in v
answers-append w v = flat_map-append _ w v

module _ (grain : ℕ) (first more : List Task) (outcomes all : List Outcome) (n : ℕ) (before its : List Arrival) where
  books_more : AreBooks grain first outcomes before → (is : IsBook grain more all (record { 0 = n }) its) →
      AreBooks grain (first ++ more) (outcomes ++ is.outcome ∷ []) (before ++ its)
  books_more are is =
      let o : Outcome = is.outcome in
      let w : List Arrival = before ++ its in
      let made : (k : ℕ) → made_in k (outcomes ++ o ∷ []) ≡ made_in k outcomes + slice_index (counts (made_of grain more its)) k =
      λ k. sum_by_push (λ (x : Outcome). slice_index x.made k) outcomes o ∙ ap (λ l. made_in k outcomes + slice_index l k) is.made in
      record {
        overs = λ k.
            list_any-append (λ (x : Outcome). list_any (λ i. i == k) x.overs.items) outcomes (o ∷ [])
            ∙ or_two (told_over k outcomes) (list_any (λ i. i == k) o.overs.items) (list_any (is_over_at grain k) before)
            (list_any (is_over_at grain k) its) (are.overs k) (is.overs.each k)
            ∙ sym (list_any-append (is_over_at grain k) before its);
        solutions = flat_map-append (λ (x : Outcome). x.solutions.items) outcomes (o ∷ [])
            ∙ ap (λ l. kept_in outcomes ++ l) (append-nil o.solutions.items ∙ is.solutions)
            ∙ ap (λ l. l ++ solutions_in its) are.solutions
            ∙ sym (solutions-append before its);
        answers = flat_map-append (λ (x : Outcome). x.answers.items) outcomes (o ∷ [])
            ∙ ap (λ l. answered_in outcomes ++ l) (append-nil o.answers.items ∙ is.answers)
            ∙ ap (λ l. l ++ answers_in its) are.answers
            ∙ sym (answers-append before its);
        boards_made = omega (arith, made 0, are.boards_made, made-append 0 grain first more before its);
        solutions_made = omega (arith, made 1, are.solutions_made, made-append 1 grain first more before its);
        jobs_made = omega (arith, made 2, are.jobs_made, made-append 2 grain first more before its);
        answers_made = omega (arith, made 3, are.answers_made, made-append 3 grain first more before its);
      }

take_there : {X : Type 0} (xs : List X) (n : ℕ) (x : X) → slice_get xs n ≡ Some x → take (suc n) xs ≡ take n xs ++ x ∷ []
take_there [] n x e = absurd (cc)
take_there (y ∷ ys) zero x e = let same : y ≡ x = cc in ap (λ z. z ∷ []) same
take_there (y ∷ ys) (suc n) x e = ap (λ l. y ∷ l) (take_there ys n x e)

-- what the ranks below n are to do
unfoldable firsts : ℕ → List Job → ℕ → List Task
firsts budget jobs zero = []
firsts budget jobs (suc n) = firsts budget jobs n ++ tasks budget (jobs_of jobs (record { 0 = n }))

-- rank 0 has the tasks of the jobs, and no other has any
firsts_are : (budget : ℕ) (jobs : List Job) (n : ℕ) → firsts budget jobs (suc n) ≡ tasks_from budget 1 1 jobs
unfolding firsts
firsts_are budget jobs zero = refl
firsts_are budget jobs (suc n) =
    let other : (suc n == 0) ≡ false = ne_eqb (suc n) 0 (λ e. omega arith) in
    let first : Bool → List Task = λ has_jobs. firsts budget jobs (suc n) ++ tasks budget (cond has_jobs (Some jobs) None) in
    ap first other ∙ append-nil (firsts budget jobs (suc n)) ∙ firsts_are budget jobs n

-- what is still to be put in the tasks of the work is what is in those of the program
waits_same : (grain : ℕ) (on : Option (List ℕ)) (first : List Task) → work_waits (works grain) on (tasks_of first) ≡ waits on first
unfolding work_waits waits
waits_same grain on [] = refl
waits_same grain on (Put unit ∷ first) =
    ap (λ common. arrival common unit ∷ work_waits (works grain) on (tasks_of first)) (sym (same_bytes on))
    ∙ ap (λ l. arrival (bytes_on on) unit ∷ l) (waits_same grain on first)
waits_same grain on (Begin common jobs ∷ first) = ap (λ l. map (arrival common) (as_units jobs) ++ l) (waits_same grain on first)
waits_same grain on (End ∷ first) = waits_same grain None first

-- what all ranks are to put first are the tasks of the jobs
first_at : ℕ → List Job → Rank → List (WorkTask Made)
first_at budget jobs rank = tasks_of (tasks budget (jobs_of jobs rank))

all_first_are : (budget grain : ℕ) (jobs : List Job) (n : ℕ) →
    all_first (works grain) (first_at budget jobs) (suc n) ≡ waits None (tasks_from budget 1 1 jobs)
unfolding all_first first_at work_waits
all_first_are budget grain jobs zero = waits_same grain None (tasks_from budget 1 1 jobs)
all_first_are budget grain jobs (suc n) =
    let other : (suc n == 0) ≡ false = ne_eqb (suc n) 0 (λ e. omega arith) in
    let its : Bool → List Arrival = λ has_jobs.
    all_first (works grain) (first_at budget jobs) (suc n)
    ++ work_waits (works grain) None (tasks_of (tasks budget (cond has_jobs (Some jobs) None))) in
    ap its other ∙ append-nil (all_first (works grain) (first_at budget jobs) (suc n)) ∙ all_first_are budget grain jobs n

-- All ranks.

module _ (config : Config) (ledger : List Entry) (settings : Settings) (jobs : List Job) (outcomes : List Outcome)
    (run : IsPuzzleRun config ledger settings jobs outcomes)
  where
    -- what came to a rank; nothing to one that is not in the run
    abbrev came_at : (rank : Rank) (b : Bool) → b ≡ nat_lt rank.0 config.ranks → List Arrival
    came_at rank true e = (run.each rank (ltb-true rank.0 config.ranks (sym e))).follows.came
    came_at rank false e = []

    abbrev came : Rank → List Arrival
    came rank = came_at rank (nat_lt rank.0 config.ranks) refl

    -- what holds of what came to each rank of the run
    at_rank : (P : Rank → List Arrival → Type 0) →
        ((rank : Rank) → (is : IsRankRun config ledger settings jobs outcomes rank) → P rank is.follows.came) →
        (rank : Rank) (b : Bool) (e : b ≡ nat_lt rank.0 config.ranks) → b ≡ true → P rank (came_at rank b e)
    at_rank P each rank true e is = each rank (run.each rank (ltb-true rank.0 config.ranks (sym e)))
    at_rank P each rank false e is = absurd (cc)

    worker : (rank : Rank) → rank.0 < config.ranks →
        IsWorker (works settings.grain) config ledger (first_at settings.budget jobs rank) rank (came rank)
    unfolding first_at
    worker rank below =
        at_rank (λ r its. IsWorker (works settings.grain) config ledger (first_at settings.budget jobs r) r its)
        (worker_of config ledger settings jobs outcomes) rank (nat_lt rank.0 config.ranks) refl (lt-ltb rank.0 config.ranks below)

    -- the ranks are orderly
    pub run_is_orderly : 0 < config.ranks → AreOrderly config ledger
    run_is_orderly some =
        workers_orderly (works settings.grain) (is_work settings.grain) config ledger some (first_at settings.budget jobs) came worker

    books : (n : ℕ) → n ≤ config.ranks →
        AreBooks settings.grain (firsts settings.budget jobs n) (take n outcomes) (all_came came n)
    unfolding firsts all_came
    books zero within = record {
      overs = λ k. refl;
      solutions = refl;
      answers = refl;
      boards_made = refl;
      solutions_made = refl;
      jobs_made = refl;
      answers_made = refl;
    }
    books (suc n) within =
        let rank : Rank = record { 0 = n } in
        let below : n < config.ranks = omega arith in
        let first : List Task = firsts settings.budget jobs n in
        let more : List Task = tasks settings.budget (jobs_of jobs rank) in
        let is : IsBook settings.grain more outcomes rank (came rank) =
        at_rank (λ r its. IsBook settings.grain (tasks settings.budget (jobs_of jobs r)) outcomes r its)
        (book config ledger settings jobs outcomes) rank (nat_lt rank.0 config.ranks) refl (lt-ltb rank.0 config.ranks below) in
        subst (λ l. AreBooks settings.grain (first ++ more) l (all_came came n ++ came rank))
        (sym (take_there outcomes n is.outcome is.there))
        (books_more settings.grain first more (take n outcomes) outcomes n (all_came came n) (came rank) (books n (omega arith)) is)

    all_books : (n : ℕ) (w : List Arrival) → 0 < n → take n outcomes ≡ outcomes →
        AreBooks settings.grain (firsts settings.budget jobs n) (take n outcomes) w →
        AreBooks settings.grain (tasks_from settings.budget 1 1 jobs) outcomes w
    all_books zero w some all are = absurd (omega arith)
    all_books (suc n) w some all are =
        subst (λ l. AreBooks settings.grain (tasks_from settings.budget 1 1 jobs) l w) all
        (subst (λ f. AreBooks settings.grain f (take (suc n) outcomes) w) (firsts_are settings.budget jobs n) are)

    first_waits : (n : ℕ) → 0 < n →
        all_first (works settings.grain) (first_at settings.budget jobs) n ≡ waits None (tasks_from settings.budget 1 1 jobs)
    first_waits zero some = absurd (omega arith)
    first_waits (suc n) some = all_first_are settings.budget settings.grain jobs n

    pub run_together : 0 < config.ranks → (last : Bag) → IsBalanced config ledger last →
        AreTogether settings.budget settings.grain jobs outcomes
    run_together some last balanced =
        let whole : take config.ranks outcomes ≡ outcomes = take_all config.ranks outcomes (omega (arith, run.all)) in
        let w : List Arrival = all_came came config.ranks in
        let are : AreBooks settings.grain (tasks_from settings.budget 1 1 jobs) outcomes w =
        all_books config.ranks w some whole (books config.ranks (omega arith)) in
        record {
          came = w;
          same = λ q.
              together (works settings.grain) (is_work settings.grain) config ledger last balanced (first_at settings.budget jobs) came
              worker q
              ∙ ap (λ l. count_by q (l ++ all_by settings.grain w)) (first_waits config.ranks some);
          overs = are.overs;
          solutions = are.solutions;
          answers = are.answers;
          boards_made = are.boards_made;
          solutions_made = are.solutions_made;
          jobs_made = are.jobs_made;
          answers_made = are.answers_made;
        }
