-- What stays and what is counted when more units came.
use Rattle.std.proofs.Common.{◌≡◌, ℕ, ◌+◌, ◌^◌, ◌≤◌, ◌==◌, Bool, true, false, cond, ◌&&◌, ◌||◌, List, [], ◌∷◌, ◌++◌, length, refl, sym, ap}
use Rattle.std.proofs.Common.{◌∙◌, subst, arith, inl, inr, count_by, append-nil, zero-le}
use Rattle.std.specs.List.{flat_map, list_any}
use Rattle.std.proofs.lemmas.Bool.{cases_Bool, eqb-true}
use Rattle.std.proofs.lemmas.List.Concat.{flat_map-append}
use Rattle.std.proofs.lemmas.List.Folds.{list_any-append}
use Rattle.std.proofs.lemmas.List.Sums.{sum_by-append, sum_by-cons, sum_by_push}
use Rattle.job_report.specs.Jobs.{all_items, item_count, puzzles}
use Rattle.job_text.specs.declared.items.Item.{Item}
use Rattle.job_text.specs.declared.jobs.Job.{Job}
use Rattle.job_text.specs.declared.jobs.Job.TheVariants.{Puzzle, Batch}
use Rattle.job_units.specs.declared.boards.Board.{Board}
use Rattle.job_units.specs.declared.jobs.Job as units
use Rattle.job_units.specs.declared.units.Made.{Made}
use Rattle.job_units.specs.declared.units.Made.TheVariants as made
use Rattle.job_units.specs.Puts.{is_kind}
use Rattle.job_units.specs.Works.{answer_of, child_of, walk_of}
use Rattle.job_units.proofs.Counts.{no_jobs_by}
use Rattle.puzzle_app.specs.Arrivals.{Arrival, answer_in, answers_in, is_over_at, makes, makes_of, over_in, solution_in, solutions_in}
use Rattle.puzzle_app.specs.Books.{over_bytes}
use Rattle.puzzle_app.specs.Desk.{Answers, Receives, answers_to, overs_with}
use Rattle.puzzle_app.specs.Follows.{AreOvers}
use Rattle.puzzle_app.specs.Tasks.{all_units, as_units, jobs_from, tasks_from}
use Rattle.puzzle_app.specs.Working.{all_made, IsTally, tasks_of}
use Rattle.puzzle_app.specs.declared.desk.Desk.{Desk}
use Rattle.puzzle_app.specs.declared.program.PuzzleProgram.{PuzzleProgram}

abbrev one_if : {X : Type 0} → (X → Bool) → X → ℕ
one_if p x = cond (p x) 1 0

-- Solutions and answers that stay.

solutions_more : (came more : List Arrival) → solutions_in (came ++ more) ≡ solutions_in came ++ solutions_in more
solutions_more came more = flat_map-append (λ (a : Arrival). solution_in a.unit) came more

answers_more : (came more : List Arrival) → answers_in (came ++ more) ≡ answers_in came ++ answers_in more
answers_more came more = flat_map-append (λ (a : Arrival). answer_in a.unit) came more

no_solutions : (common : List ℕ) (jobs : List units.Job) → solutions_in (over_bytes common jobs) ≡ []
no_solutions common [] = refl
no_solutions common (j ∷ jobs) = no_solutions common jobs

no_answers : (common : List ℕ) (jobs : List units.Job) → answers_in (over_bytes common jobs) ≡ []
no_answers common [] = refl
no_answers common (j ∷ jobs) = no_answers common jobs

-- Counts.

count_more : (q : Made → Bool) (p : PuzzleProgram) (came more : List Arrival) →
    count_by q (all_made p (came ++ more)) ≡ count_by q (all_made p came) + count_by q (flat_map (makes p.settings.grain) more)
count_more q p came more =
    let first : List Made = all_units (tasks_of p) in
    let old : List Made = flat_map (makes p.settings.grain) came in
    let new : List Made = flat_map (makes p.settings.grain) more in
    let both : count_by q (first ++ flat_map (makes p.settings.grain) (came ++ more)) ≡ count_by q (first ++ (old ++ new)) =
    ap (λ w. count_by q (first ++ w)) (flat_map-append (makes p.settings.grain) came more) in
    omega (arith, both, sum_by-append (one_if q) first (old ++ new), sum_by-append (one_if q) old new, sum_by-append (one_if q) first old)

count_one : (q : Made → Bool) (p : PuzzleProgram) (came : List Arrival) (a : Arrival) →
    count_by q (all_made p (came ++ a ∷ [])) ≡ count_by q (all_made p came) + count_by q (makes p.settings.grain a)
count_one q p came a =
    let own : count_by q (flat_map (makes p.settings.grain) (a ∷ [])) ≡ count_by q (makes p.settings.grain a) =
    ap (count_by q) (append-nil (makes p.settings.grain a)) in
    omega (arith, count_more q p came (a ∷ []), own)

-- what a refused batch makes is the answers to its jobs
pub made_over : (grain : ℕ) (common : List ℕ) (jobs : List units.Job) →
    flat_map (makes grain) (over_bytes common jobs) ≡ answers_to common jobs
made_over grain common [] = refl
made_over grain common (j ∷ jobs) = ap (λ us. made.Answer (answer_of common j) ∷ us) (made_over grain common jobs)

answers_kind : (k : ℕ) (common : List ℕ) (jobs : List units.Job) → (3 == k) ≡ false → count_by (is_kind k) (answers_to common jobs) ≡ 0
answers_kind k common [] other = refl
answers_kind k common (j ∷ jobs) other =
    let one : Bool → ℕ = λ b. cond b 1 0 in
    let here : one_if (is_kind k) (made.Answer (answer_of common j)) ≡ 0 = ap one other in
    omega (
      arith,
      sum_by-cons (one_if (is_kind k)) (made.Answer (answer_of common j))
          (answers_to common jobs),
      here,
      answers_kind k common jobs other,
    )

answers_all : (common : List ℕ) (jobs : List units.Job) → count_by (is_kind 3) (answers_to common jobs) ≡ length jobs
answers_all common [] = refl
answers_all common (j ∷ jobs) =
    omega (arith, sum_by-cons (one_if (is_kind 3)) (made.Answer (answer_of common j)) (answers_to common jobs), answers_all common jobs)

-- a batch has one unit for each item
pub jobs_many : (b n : ℕ) (items : List Item) → length (jobs_from b n items) ≡ length items
unfolding jobs_from
jobs_many b n [] = refl
jobs_many b n (item ∷ items) = omega (arith, jobs_many b (n + 1) items)

count_over : (k : ℕ) (p : PuzzleProgram) (came : List Arrival) (common : List ℕ) (jobs : List units.Job) →
    count_by (is_kind k) (all_made p (came ++ over_bytes common jobs)) ≡
    count_by (is_kind k) (all_made p came) + count_by (is_kind k) (answers_to common jobs)
count_over k p came common jobs =
    let own : count_by (is_kind k) (flat_map (makes p.settings.grain) (over_bytes common jobs)) ≡
    count_by (is_kind k) (answers_to common jobs) =
    ap (count_by (is_kind k)) (made_over p.settings.grain common jobs) in
    omega (arith, count_more (is_kind k) p came (over_bytes common jobs), own)

-- Puzzles that are over.

both_false : (a b : Bool) → (a || b) ≡ false → (a ≡ false) × (b ≡ false)
both_false true b e = absurd (cc)
both_false false b e = (refl, e)

-- what none passes is counted nowhere
none_counted : {X : Type 0} (p : X → Bool) (xs : List X) → list_any p xs ≡ false → count_by p xs ≡ 0
none_counted p [] none = refl
none_counted p (x ∷ xs) none =
    let parts = both_false (p x) (list_any p xs) none in
    let one : Bool → ℕ = λ v. cond v 1 0 in
    let here : one_if p x ≡ 0 = ap one parts.0 in
    omega (arith, sum_by-cons (one_if p) x xs, here, none_counted p xs parts.1)

-- the test of one more unit
any_more : (grain n : ℕ) (came : List Arrival) (a : Arrival) (t : Bool) → is_over_at grain n a ≡ t →
    list_any (is_over_at grain n) (came ++ a ∷ []) ≡ (list_any (is_over_at grain n) came || (t || false))
any_more grain n came a t is =
    let last : Bool → Bool = λ v. list_any (is_over_at grain n) came || (v || false) in
    list_any-append (is_over_at grain n) came (a ∷ []) ∙ ap last is

or_none : (a e : Bool) → a ≡ (a || ((e && false) || false))
or_none true e = refl
or_none false true = refl
or_none false false = refl

or_nothing : (a : Bool) → a ≡ (a || (false || false))
or_nothing true = refl
or_nothing false = refl

or_same : (a e : Bool) → (a || (e || false)) ≡ (a || ((e && true) || false))
or_same true e = refl
or_same false true = refl
or_same false false = refl

or_there : (a e : Bool) → (e ≡ true → a ≡ true) → a ≡ (a || ((e && true) || false))
or_there true e there = refl
or_there false true there = there refl
or_there false false there = refl

over_there : (grain n : ℕ) (a : Arrival) (b : Board) (o : Bool) → a.unit ≡ made.Board b → (walk_of grain b).over ≡ o →
    is_over_at grain n a ≡ ((b.puzzle == n) && o)
over_there grain n a b o unit is = ap (over_in grain n) unit ∙ ap (λ v. (b.puzzle == n) && v) is

-- one more board
overs_board : (grain : ℕ) (came : List Arrival) (a : Arrival) (b : Board) (xs ys : List ℕ) (o t : Bool) → a.unit ≡ made.Board b →
    (walk_of grain b).over ≡ o →
    list_any (λ x. x == b.puzzle) xs ≡ t → AreOvers grain came xs → ys ≡ cond o (cond t xs (xs ++ b.puzzle ∷ [])) xs →
    AreOvers grain (came ++ a ∷ []) ys
overs_board grain came a b xs ys false t unit is there are same = record {
  once = λ n. rw same (are.once n);
  each = λ n. ap (list_any (λ x. x == n)) same ∙ are.each n ∙ or_none _ (b.puzzle == n)
      ∙ sym (any_more grain n came a _ (over_there grain n a b false unit is));
}
overs_board grain came a b xs ys true true unit is there are same = record {
  once = λ n. rw same (are.once n);
  each = λ n.
      let here : (b.puzzle == n) ≡ true → list_any (λ x. x == n) xs ≡
      true = λ e. ap (λ m. list_any (λ x. x == m) xs) (sym (eqb-true b.puzzle n e)) ∙ there in
      ap (list_any (λ x. x == n)) same ∙ or_there (list_any (λ x. x == n) xs) (b.puzzle == n) here
      ∙ ap (λ v. v || (((b.puzzle == n) && true) || false)) (are.each n)
      ∙ sym (any_more grain n came a _ (over_there grain n a b true unit is));
}
overs_board grain came a b xs ys true false unit is there are same = record {
  once = λ n.
      let count : count_by (λ x. x == n) ys ≡ count_by (λ x. x == n) xs + cond (b.puzzle == n) 1 0 =
      ap (count_by (λ x. x == n)) same ∙ sum_by_push (λ x. cond (x == n) 1 0) xs b.puzzle in
      let one : Bool → ℕ = λ v. cond v 1 0 in
      elim (cases_Bool (b.puzzle == n)) [
        | inl e ↦
            let none : count_by (λ x. x == n) xs ≡ 0 = ap (λ m. count_by (λ x. x == m) xs) (sym (eqb-true b.puzzle n e))
            ∙ none_counted (λ x. x == b.puzzle) xs there in
            let last : cond (b.puzzle == n) 1 0 ≡ 1 = ap one e in
            omega arith
        | inr e ↦
            let last : cond (b.puzzle == n) 1 0 ≡ 0 = ap one e in
            omega (arith, are.once n)
      ];
  each = λ n.
      ap (list_any (λ x. x == n)) same ∙ list_any-append (λ x. x == n) xs (b.puzzle ∷ [])
      ∙ or_same (list_any (λ x. x == n) xs) (b.puzzle == n)
      ∙ ap (λ v. v || (((b.puzzle == n) && true) || false)) (are.each n)
      ∙ sym (any_more grain n came a _ (over_there grain n a b true unit is));
}

-- one more unit that is no board
overs_other : (grain : ℕ) (came : List Arrival) (a : Arrival) (xs ys : List ℕ) → ((n : ℕ) → is_over_at grain n a ≡ false) →
    AreOvers grain came xs → ys ≡ xs →
    AreOvers grain (came ++ a ∷ []) ys
overs_other grain came a xs ys none are same = record {
  once = λ n. rw same (are.once n);
  each = λ n. ap (list_any (λ x. x == n)) same ∙ are.each n ∙ or_nothing (list_any (is_over_at grain n) came)
      ∙ sym (any_more grain n came a false (none n));
}

overs_one : (grain : ℕ) (came : List Arrival) (a : Arrival) (unit : Made) (xs ys : List ℕ) → a.unit ≡ unit → AreOvers grain came xs →
    ys ≡ overs_with grain unit xs → AreOvers grain (came ++ a ∷ []) ys
overs_one grain came a (made.Board b) xs ys e are same =
    overs_board grain came a b xs ys (walk_of grain b).over (list_any (λ x. x == b.puzzle) xs) e refl refl are same
overs_one grain came a (made.Solution s) xs ys e are same = overs_other grain came a xs ys (λ n. ap (over_in grain n) e) are same
overs_one grain came a (made.Job j) xs ys e are same = overs_other grain came a xs ys (λ n. ap (over_in grain n) e) are same
overs_one grain came a (made.Answer s) xs ys e are same = overs_other grain came a xs ys (λ n. ap (over_in grain n) e) are same

no_overs : (grain n : ℕ) (common : List ℕ) (jobs : List units.Job) → list_any (is_over_at grain n) (over_bytes common jobs) ≡ false
no_overs grain n common [] = refl
no_overs grain n common (j ∷ jobs) = no_overs grain n common jobs

or_false : (a : Bool) → a ≡ (a || false)
or_false true = refl
or_false false = refl

overs_over : (grain : ℕ) (came : List Arrival) (common : List ℕ) (jobs : List units.Job) (xs : List ℕ) → AreOvers grain came xs →
    AreOvers grain (came ++ over_bytes common jobs) xs
overs_over grain came common jobs xs are = record {
  once = are.once;
  each = λ n.
      are.each n ∙ or_false (list_any (is_over_at grain n) came)
      ∙ ap (λ v. list_any (is_over_at grain n) came || v) (sym (no_overs grain n common jobs))
      ∙ sym (list_any-append (is_over_at grain n) came (over_bytes common jobs));
}

-- the work on a unit makes no job
no_jobs_made : (grain : ℕ) (common : List ℕ) (unit : Made) → count_by (is_kind 2) (makes_of grain common unit) ≡ 0
no_jobs_made grain common (made.Board b) = no_jobs_by grain b
no_jobs_made grain common (made.Solution s) = refl
no_jobs_made grain common (made.Job j) = refl
no_jobs_made grain common (made.Answer a) = refl

-- Tallies.

-- one more unit came, in one call
pub tally_one : (p : PuzzleProgram) (came : List Arrival) (n m : ℕ) (a : Arrival) (d e : Desk) → IsTally p came n d →
    Receives p.settings.grain a d e → n + 1 ≤ m →
    IsTally p (came ++ a ∷ []) m e
tally_one p came n m a d e is more later = record {
  kept = more.kept ∙ ap (λ k. k ++ solutions_in (a ∷ [])) is.kept ∙ sym (solutions_more came (a ∷ []));
  answers = more.answers ∙ ap (λ k. k ++ answers_in (a ∷ [])) is.answers ∙ sym (answers_more came (a ∷ []));
  overs = overs_one p.settings.grain came a a.unit d.overs.items e.overs.items refl is.overs more.overs;
  boards = omega (arith, more.boards, is.boards, count_one (is_kind 0) p came a);
  found = omega (arith, more.found, is.found, count_one (is_kind 1) p came a);
  jobs = omega (arith, more.jobs, is.jobs, count_one (is_kind 2) p came a);
  answered = omega (arith, more.answered, is.answered, count_one (is_kind 3) p came a);
  few_boards = omega (arith, more.few_boards, is.few_boards, later);
  few_found = omega (arith, more.few_found, is.few_found, later);
  few_jobs = omega (arith, more.jobs, is.few_jobs, no_jobs_made p.settings.grain a.common a.unit);
  few_answered = omega (arith, more.few_answered, is.few_answered, later);
}

-- the items of a batch came
pub tally_over : (p : PuzzleProgram) (came : List Arrival) (n m : ℕ) (batch : ℕ) (common : List ℕ) (items : List Item) (d e : Desk) →
    IsTally p came n d →
    Answers batch common items d e → length items ≤ 2 ^ 24 → n + 1 ≤ m → IsTally p (came ++ over_bytes common (jobs_from batch 1 items)) m e
tally_over p came n m batch common items d e is more few later =
    let jobs : List units.Job = jobs_from batch 1 items in
    let many : count_by (is_kind 3) (answers_to common jobs) ≡ length items = answers_all common jobs ∙ jobs_many batch 1 items in
    record {
      kept = ap (λ k. k.items) more.kept ∙ is.kept
          ∙ sym (solutions_more came (over_bytes common jobs) ∙ ap (λ k. solutions_in came ++ k) (no_solutions common jobs)
          ∙ append-nil (solutions_in came));
      answers = ap (λ k. k.items) more.answers ∙ is.answers
          ∙ sym (answers_more came (over_bytes common jobs) ∙ ap (λ k. answers_in came ++ k) (no_answers common jobs)
          ∙ append-nil (answers_in came));
      overs = overs_over p.settings.grain came common jobs e.overs.items
          (subst (λ o. AreOvers p.settings.grain came o) (ap (λ o. o.items) (sym more.overs)) is.overs);
      boards = omega (arith, more.boards, is.boards, count_over 0 p came common jobs, answers_kind 0 common jobs refl);
      found = omega (arith, more.found, is.found, count_over 1 p came common jobs, answers_kind 1 common jobs refl);
      jobs = omega (arith, more.jobs, is.jobs, count_over 2 p came common jobs, answers_kind 2 common jobs refl);
      answered = omega (arith, more.answered, is.answered, count_over 3 p came common jobs, many);
      few_boards = omega (arith, more.boards, is.few_boards, later);
      few_found = omega (arith, more.found, is.few_found, later);
      few_jobs = omega (arith, more.jobs, is.few_jobs);
      few_answered = omega (arith, more.answered, is.few_answered, few, later);
    }

-- what else lies on the desk is as it was
pub record Same (d e : Desk) : Type 0 where
  pub kept : e.kept.items ≡ d.kept.items
  pub answers : e.answers.items ≡ d.answers.items
  pub overs : e.overs.items ≡ d.overs.items
  pub boards : e.boards ≡ d.boards
  pub found : e.found ≡ d.found
  pub jobs : e.jobs ≡ d.jobs
  pub answered : e.answered ≡ d.answered

-- a tally holds of an equal desk, and for more calls
pub tally_same : (p : PuzzleProgram) (came : List Arrival) (n m : ℕ) (d e : Desk) → IsTally p came n d → Same d e → n ≤ m →
    IsTally p came m e
tally_same p came n m d e is same later = record {
  kept = same.kept ∙ is.kept;
  answers = same.answers ∙ is.answers;
  overs = subst (λ o. AreOvers p.settings.grain came o) (sym same.overs) is.overs;
  boards = same.boards ∙ is.boards;
  found = same.found ∙ is.found;
  jobs = same.jobs ∙ is.jobs;
  answered = same.answered ∙ is.answered;
  few_boards = omega (arith, same.boards, is.few_boards, later);
  few_found = omega (arith, same.found, is.few_found, later);
  few_jobs = omega (arith, same.jobs, is.few_jobs);
  few_answered = omega (arith, same.answered, is.few_answered, later);
}

-- a desk is the same as itself
pub as_it_was : (d : Desk) → Same d d
as_it_was d = record { kept = refl; answers = refl; overs = refl; boards = refl; found = refl; jobs = refl; answered = refl }

-- The start.

jobs_kind : (k : ℕ) (jobs : List units.Job) → (2 == k) ≡ false → count_by (is_kind k) (as_units jobs) ≡ 0
jobs_kind k [] other = refl
jobs_kind k (j ∷ jobs) other =
    let one : Bool → ℕ = λ b. cond b 1 0 in
    let here : one_if (is_kind k) (made.Job j) ≡ 0 = ap one other in
    omega (arith, sum_by-cons (one_if (is_kind k)) (made.Job j) (as_units jobs), here, jobs_kind k jobs other)

jobs_all : (jobs : List units.Job) → count_by (is_kind 2) (as_units jobs) ≡ length jobs
jobs_all [] = refl
jobs_all (j ∷ jobs) = omega (arith, sum_by-cons (one_if (is_kind 2)) (made.Job j) (as_units jobs), jobs_all jobs)

-- how many boards and jobs are made of jobs in input order
pub record Counted (budget p b : ℕ) (input : List Job) : Type 0 where
  pub boards : count_by (is_kind 0) (all_units (tasks_from budget p b input)) ≡ length (puzzles input)
  pub found : count_by (is_kind 1) (all_units (tasks_from budget p b input)) ≡ 0
  pub jobs : count_by (is_kind 2) (all_units (tasks_from budget p b input)) ≡ all_items input
  pub answered : count_by (is_kind 3) (all_units (tasks_from budget p b input)) ≡ 0

-- the tasks of jobs make as many units of each type as the jobs have
pub counted_tasks : (budget p b : ℕ) (jobs : List Job) → Counted budget p b jobs
unfolding tasks_from puzzles
counted_tasks budget p b [] = record { boards = refl; found = refl; jobs = refl; answered = refl }
counted_tasks budget p b (Puzzle g ∷ jobs) =
    let later : Counted budget (p + 1) b jobs = counted_tasks budget (p + 1) b jobs in
    let more : List Made = all_units (tasks_from budget (p + 1) b jobs) in
    let x : Made = child_of p (budget, g) in record {
      boards = omega (arith, sum_by-cons (one_if (is_kind 0)) x more, later.boards);
      found = omega (arith, sum_by-cons (one_if (is_kind 1)) x more, later.found);
      jobs = omega (arith, sum_by-cons (one_if (is_kind 2)) x more, later.jobs, sum_by-cons item_count (Puzzle g) jobs);
      answered = omega (arith, sum_by-cons (one_if (is_kind 3)) x more, later.answered);
    }
counted_tasks budget p b (Batch common items ∷ jobs) =
    let later : Counted budget p (b + 1) jobs = counted_tasks budget p (b + 1) jobs in
    let more : List Made = all_units (tasks_from budget p (b + 1) jobs) in
    let own : List units.Job = jobs_from b 1 items in record {
      boards = omega (arith, sum_by-append (one_if (is_kind 0)) (as_units own) more, later.boards, jobs_kind 0 own refl);
      found = omega (arith, sum_by-append (one_if (is_kind 1)) (as_units own) more, later.found, jobs_kind 1 own refl);
      jobs = omega (
        arith,
        sum_by-append (one_if (is_kind 2))
            (as_units own) more,
        later.jobs,
        jobs_all own,
        jobs_many b 1 items,
        sum_by-cons item_count (Batch common items) jobs,
      );
      answered = omega (arith, sum_by-append (one_if (is_kind 3)) (as_units own) more, later.answered, jobs_kind 3 own refl);
    }

-- an empty desk, where these numbers of boards and jobs are counted
pub record Fresh (m n : ℕ) (d : Desk) : Type 0 where
  pub waiting : d.waiting.items ≡ []
  pub kept : d.kept.items ≡ []
  pub answers : d.answers.items ≡ []
  pub overs : d.overs.items ≡ []
  pub boards : d.boards ≡ m
  pub found : d.found ≡ 0
  pub jobs : d.jobs ≡ n
  pub answered : d.answered ≡ 0

-- the tally of a desk at the start
pub tally_fresh : (p : PuzzleProgram) (boards jobs : ℕ) (d : Desk) → Fresh boards jobs d →
    boards ≡ count_by (is_kind 0) (all_units (tasks_of p)) → 0 ≡ count_by (is_kind 1) (all_units (tasks_of p)) →
    jobs ≡ count_by (is_kind 2) (all_units (tasks_of p)) → 0 ≡ count_by (is_kind 3) (all_units (tasks_of p)) →
    boards ≤ 2 ^ 64 → jobs ≤ 2 ^ 64 → IsTally p [] 0 d
tally_fresh p boards jobs d fresh b f j a few_boards few_jobs =
    let all : all_units (tasks_of p) ≡ all_made p [] = sym (append-nil (all_units (tasks_of p))) in record {
      kept = fresh.kept;
      answers = fresh.answers;
      overs = subst (λ o. AreOvers p.settings.grain [] o) (sym fresh.overs) (record { once = λ n. zero-le; each = λ n. refl });
      boards = fresh.boards ∙ b ∙ ap (count_by (is_kind 0)) all;
      found = fresh.found ∙ f ∙ ap (count_by (is_kind 1)) all;
      jobs = fresh.jobs ∙ j ∙ ap (count_by (is_kind 2)) all;
      answered = fresh.answered ∙ a ∙ ap (count_by (is_kind 3)) all;
      few_boards = omega (arith, fresh.boards, few_boards);
      few_found = omega (arith, fresh.found);
      few_jobs = omega (arith, fresh.jobs, few_jobs);
      few_answered = omega (arith, fresh.answered);
    }
