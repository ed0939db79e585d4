-- A rank that runs its puzzle program is a worker, of the work whose units are boards, solutions, jobs and answers.
use Rattle.std.proofs.Common.{◌≡◌, ◌<◌, ◌^◌, ◌&&◌, ℕ, Bool, true, false, List, [], ◌∷◌, ◌++◌, map, flat_map, Option, Some, None, refl}
use Rattle.std.proofs.Common.{ap, All}
use Rattle.std.specs.Prelude.{nat_lt, pos}
use Rattle.std.proofs.lemmas.Bool.{and_from, and_parts, lt-ltb, ltb-true}
use Rattle.std.proofs.lemmas.List.Elements.{All-append, All-cons, All-nil}
use Rattle.adlb_unit.specs.declared.names.Target.TheVariants.{Any, Only}
use Rattle.bag_ledger.specs.declared.entries.Answer.{Answer}
use Rattle.bag_ledger.specs.declared.entries.Answer.TheVariants as answers
use Rattle.bag_ledger.specs.declared.entries.Said.{Said}
use Rattle.balance_law.specs.Orderly.{IsAimed}
use Rattle.sudoku_law.specs.Grid.{Cells}
use Rattle.sudoku_rules.specs.Sides.{is_sudoku}
use Rattle.sudoku_rules.proofs.Sides.{sudoku_test, test_sudoku}
use Rattle.job_units.specs.Bodies.{answer_body, board_body, job_body, solution_body}
use Rattle.job_units.specs.Forms.{IsUnit}
use Rattle.job_units.specs.Puts.{answer_rank, filled, put_of}
use Rattle.job_units.specs.Reading.{common_bytes, fetched as unit_fetched, unit_of}
use Rattle.job_units.specs.Works.{child_of, made_by, solution_at, walk_of}
use Rattle.job_units.specs.declared.boards.Board.{Board}
use Rattle.job_units.specs.declared.units.Made.{Made}
use Rattle.job_units.specs.declared.units.Made.TheVariants as made
use Rattle.job_units.proofs.ReadBack.{read_back}
use Rattle.puzzle_app.specs.Arrivals.{Arrival, arrival, bytes_on, common_for, makes, makes_of}
use Rattle.puzzle_app.specs.Books.{Books, Goes, brought, going, holding, over_bytes, said_of, shut}
use Rattle.puzzle_app.specs.Tasks as own
use Rattle.puzzle_app.specs.Tasks.{as_units}
use Rattle.puzzle_app.proofs.Calling.{OfEach, of_move}
use Rattle.work_law.specs.Books as work
use Rattle.work_law.specs.Work.{Form, IsWork, Work}
use Rattle.work_law.specs.Work.{arrival as arrival_by}
use Rattle.work_law.specs.Work.{put_of as put_by}

-- The work.

abbrev form_of : Made → Form
form_of (made.Board b) = record {
  kind = record { 0 = 0 };
  prio = pos (filled b.grid);
  target = Any;
  answer = Some answer_rank;
  body = board_body b;
}
form_of (made.Solution s) = record {
  kind = record { 0 = 1 };
  prio = pos 100;
  target = Only answer_rank;
  answer = None;
  body = solution_body s;
}
form_of (made.Job j) = record { kind = record { 0 = 2 }; prio = pos 50; target = Any; answer = Some answer_rank; body = job_body j }
form_of (made.Answer a) = record { kind = record { 0 = 3 }; prio = pos 100; target = Only answer_rank; answer = None; body = answer_body a }

-- the numbers fit their places in the body, and the grid is one of side 4, 9 or 16
abbrev unit_fits : Made → Bool
unit_fits (made.Board b) = nat_lt b.puzzle (2 ^ 32) && (nat_lt b.budget (2 ^ 64) && is_sudoku b.grid)
unit_fits (made.Solution s) = nat_lt s.puzzle (2 ^ 32) && is_sudoku s.grid
unit_fits (made.Job j) = nat_lt j.batch (2 ^ 32) && nat_lt j.number (2 ^ 32)
unit_fits (made.Answer a) = nat_lt a.batch (2 ^ 32) && (nat_lt a.number (2 ^ 32) && nat_lt a.value (2 ^ 64))

-- boards of this grain are worked
abbrev pub works : ℕ → Work Made
works grain = record {
  form = form_of;
  fits = unit_fits;
  read = λ kind answer body. unit_of kind.0 answer body;
  over = common_for;
  makes = makes_of grain;
}

fits_are : (unit : Made) → IsUnit unit → unit_fits unit ≡ true
fits_are (made.Board b) is =
    and_from (nat_lt b.puzzle (2 ^ 32)) (nat_lt b.budget (2 ^ 64) && is_sudoku b.grid) (lt-ltb b.puzzle (2 ^ 32) is.puzzle)
    (and_from (nat_lt b.budget (2 ^ 64)) (is_sudoku b.grid) (lt-ltb b.budget (2 ^ 64) is.budget) (sudoku_test b.grid is.grid))
fits_are (made.Solution s) is =
    and_from (nat_lt s.puzzle (2 ^ 32)) (is_sudoku s.grid) (lt-ltb s.puzzle (2 ^ 32) is.puzzle) (sudoku_test s.grid is.grid)
fits_are (made.Job j) is =
    and_from (nat_lt j.batch (2 ^ 32)) (nat_lt j.number (2 ^ 32)) (lt-ltb j.batch (2 ^ 32) is.batch) (lt-ltb j.number (2 ^ 32) is.number)
fits_are (made.Answer a) is =
    and_from (nat_lt a.batch (2 ^ 32)) (nat_lt a.number (2 ^ 32) && nat_lt a.value (2 ^ 64)) (lt-ltb a.batch (2 ^ 32) is.batch)
    (and_from (nat_lt a.number (2 ^ 32)) (nat_lt a.value (2 ^ 64)) (lt-ltb a.number (2 ^ 32) is.number) (lt-ltb a.value (2 ^ 64) is.value))

are_fit : (unit : Made) → unit_fits unit ≡ true → IsUnit unit
are_fit (made.Board b) e =
    let p = and_parts (nat_lt b.puzzle (2 ^ 32)) (nat_lt b.budget (2 ^ 64) && is_sudoku b.grid) e in
    let q = and_parts (nat_lt b.budget (2 ^ 64)) (is_sudoku b.grid) p.1 in
    record { puzzle = ltb-true b.puzzle (2 ^ 32) p.0; budget = ltb-true b.budget (2 ^ 64) q.0; grid = test_sudoku b.grid q.1 }
are_fit (made.Solution s) e =
    let p = and_parts (nat_lt s.puzzle (2 ^ 32)) (is_sudoku s.grid) e in
    record { puzzle = ltb-true s.puzzle (2 ^ 32) p.0; grid = test_sudoku s.grid p.1 }
are_fit (made.Job j) e =
    let p = and_parts (nat_lt j.batch (2 ^ 32)) (nat_lt j.number (2 ^ 32)) e in
    record { batch = ltb-true j.batch (2 ^ 32) p.0; number = ltb-true j.number (2 ^ 32) p.1 }
are_fit (made.Answer a) e =
    let p = and_parts (nat_lt a.batch (2 ^ 32)) (nat_lt a.number (2 ^ 32) && nat_lt a.value (2 ^ 64)) e in
    let q = and_parts (nat_lt a.number (2 ^ 32)) (nat_lt a.value (2 ^ 64)) p.1 in
    record { batch = ltb-true a.batch (2 ^ 32) p.0; number = ltb-true a.number (2 ^ 32) q.0; value = ltb-true a.value (2 ^ 64) q.1 }

back : (unit : Made) → IsUnit unit → unit_of (form_of unit).kind.0 (form_of unit).answer (form_of unit).body ≡ Some unit
back (made.Board b) is = read_back (made.Board b) is
back (made.Solution s) is = read_back (made.Solution s) is
back (made.Job j) is = read_back (made.Job j) is
back (made.Answer a) is = read_back (made.Answer a) is

-- work makes no jobs
abbrev IsPlain : Made → Type 0
IsPlain unit = (its : List ℕ) → common_for unit its ≡ []

all_plain : (X : Type 0) (into : X → Made) → ((x : X) → IsPlain (into x)) → (xs : List X) → All IsPlain (map into xs)
all_plain X into plain [] = All-nil IsPlain
all_plain X into plain (x ∷ xs) = All-cons IsPlain (into x) (map into xs) (plain x) (all_plain X into plain xs)

board_plain : (grain : ℕ) (b : Board) → All IsPlain (made_by grain b)
board_plain grain b =
    All-append IsPlain (map (child_of b.puzzle) (walk_of grain b).children) (map (solution_at b.puzzle) (walk_of grain b).solutions)
    (all_plain (ℕ × Cells) (child_of b.puzzle) (λ c its. refl) (walk_of grain b).children)
    (all_plain Cells (solution_at b.puzzle) (λ g its. refl) (walk_of grain b).solutions)

plain_of : (grain : ℕ) (common : List ℕ) (unit : Made) → All IsPlain (makes_of grain common unit)
plain_of grain common (made.Board b) = board_plain grain b
plain_of grain common (made.Solution s) = All-nil IsPlain
plain_of grain common (made.Job j) = All-cons IsPlain _ [] (λ its. refl) (All-nil IsPlain)
plain_of grain common (made.Answer a) = All-nil IsPlain

aimed_at : (ranks : ℕ) (unit : Made) → 0 < ranks → IsAimed ranks (form_of unit).target
aimed_at ranks (made.Board b) some = tt
aimed_at ranks (made.Solution s) some = some
aimed_at ranks (made.Job j) some = tt
aimed_at ranks (made.Answer a) some = some

pub is_work : (grain : ℕ) → IsWork (works grain)
is_work grain = record { read_back = λ unit fits. back unit (are_fit unit fits); plain = plain_of grain; aimed = aimed_at }

-- The books.

-- a task of the program as one of the work
abbrev pub task_of : own.Task → work.Task Made
task_of (own.Put unit) = work.Put unit
task_of (own.Begin common jobs) = work.Begin common (as_units jobs)
task_of own.End = work.End

abbrev pub tasks_of : List own.Task → List (work.Task Made)
tasks_of tasks = map task_of tasks

-- the books, with these tasks
abbrev books : List (work.Task Made) → Books → work.Books Made
books tasks b = record { tasks = tasks; on = b.on; held = b.held; came = b.came; ended = b.ended }

puts_same : (units : List Made) (tasks : List own.Task) →
    work.put_all units ++ tasks_of tasks ≡ tasks_of (own.put_all units ++ tasks)
puts_same [] tasks = refl
puts_same (unit ∷ units) tasks = ap (λ l. work.Put unit ∷ l) (puts_same units tasks)

put_same : (unit : Made) (grain : ℕ) → put_of unit ≡ put_by (works grain) unit
put_same (made.Board b) grain = refl
put_same (made.Solution s) grain = refl
put_same (made.Job j) grain = refl
put_same (made.Answer a) grain = refl

said_same : (unit : Made) (grain : ℕ) (answer : Answer) → said_of (put_of unit) answer ≡ work.said_of (put_by (works grain) unit) answer
said_same unit grain answer = ap (λ c. said_of c answer) (put_same unit grain)

-- while no end was told the tasks are those of the program; after one they are what is left
abbrev Agree : List (work.Task Made) → Books → Type 0
Agree tasks b = b.ended ≡ false → tasks ≡ tasks_of b.tasks

-- a call of the program is one of the work
abbrev IsMove : ℕ → Books → Said → Books → Type 0
IsMove grain b s next =
    (tasks : List (work.Task Made)) → Agree tasks b →
    (left : List (work.Task Made)) × work.Moves (works grain) (books tasks b) s (books left next) × Agree left next

-- what a fetch brings
brought_same : (grain : ℕ) (common : List ℕ) (o : Option Made) (came : List Arrival) →
    (left : List (work.Task Made)) × (books left (brought grain common o came) ≡ work.brought (works grain) common o came)
    × Agree left (brought grain common o came)
brought_same grain common None came = ([], refl, λ live. refl)
brought_same grain common (Some unit) came =
    let new : List Made = makes grain (arrival common unit) in
    (work.put_all new ++ [], refl, λ live. puts_same new [])

-- the common bytes of a batch that is going on, in both books
pub same_bytes : (on : Option (List ℕ)) → bytes_on on ≡ work.bytes_on on
same_bytes None = refl
same_bytes (Some common) = refl

each_moves : (grain : ℕ) → OfEach grain (IsMove grain)
each_moves grain = record {
  at_accepted = λ unit rest on came is tasks agree. (
    tasks_of rest,
    work.accepted unit (tasks_of rest) on came (fits_are unit is) (ap (λ l. work.going l on came) (agree refl))
        (said_same unit grain answers.Fine) refl,
    λ live. refl,
  );
  at_rejected = λ unit rest on came tasks agree.
      let new : List Made = makes grain (arrival (bytes_on on) unit) in (
        work.put_all new ++ tasks_of rest,
        work.rejected unit (tasks_of rest) on came (ap (λ l. work.going l on came) (agree refl))
            (said_same unit grain answers.Rejected)
            (ap (λ common. work.received (works grain) (arrival_by (works grain) common unit) (tasks_of rest) on came) (same_bytes on)),
        λ live. puts_same new rest,
      );
  at_stopped = λ unit rest on came end tasks agree. (
    work.Put unit ∷ tasks_of rest,
    work.stopped unit (tasks_of rest) on came end (ap (λ l. work.going l on came) (agree refl))
        (said_same unit grain (answers.Ended end)) refl,
    λ live. absurd (cc),
  );
  at_begun = λ common jobs rest came tasks agree. (
    work.put_all (as_units jobs) ++ work.End ∷ tasks_of rest,
    work.begun common (as_units jobs) (tasks_of rest) came (ap (λ l. work.going l None came) (agree refl)) refl refl,
    λ live. puts_same (as_units jobs) (own.End ∷ rest),
  );
  at_refused = λ common jobs rest came tasks agree.
      let new : List Made = flat_map (makes grain) (over_bytes common jobs) in (
        work.put_all new ++ tasks_of rest,
        work.refused common (as_units jobs) (tasks_of rest) came (ap (λ l. work.going l None came) (agree refl)) refl refl,
        λ live. puts_same new rest,
      );
  at_stopped_before = λ common jobs rest came end tasks agree. (
    work.put_all (as_units jobs) ++ tasks_of rest,
    work.stopped_before common (as_units jobs) (tasks_of rest) came end (ap (λ l. work.going l None came) (agree refl)) refl refl,
    λ live. absurd (cc),
  );
  at_closed = λ common rest came tasks agree. (
    tasks_of rest,
    work.closed common (tasks_of rest) came (ap (λ l. work.going l (Some common) came) (agree refl)) refl refl,
    λ live. refl,
  );
  at_closed_behind = λ common rest came tasks agree.
      (tasks, work.closed_behind common tasks came refl refl refl, λ live. absurd (cc));
  at_granted = λ came note tasks agree.
      ([], work.granted came note (ap (λ l. work.going l None came) (agree refl)) refl refl, λ live. refl);
  at_told = λ came end tasks agree.
      ([], work.told came end (ap (λ l. work.going l None came) (agree refl)) refl refl, λ live. absurd (cc));
  at_fetched = λ came note bytes tasks agree.
      let common : List ℕ = common_bytes note.length bytes in
      let is = brought_same grain common (unit_fetched note bytes) came in
      (is.0, work.fetched came note bytes (ap (λ l. books l (holding note came)) (agree refl)) refl is.1, is.2);
}

goes_as : (grain : ℕ) (b : Books) (said : List Said) (last : Books) → Goes grain b said last →
    (tasks : List (work.Task Made)) → Agree tasks b →
    (left : List (work.Task Made)) × work.Goes (works grain) (books tasks b) said (books left last)
goes_as grain b [] last same tasks agree = (tasks, ap (λ x. books tasks x) same)
goes_as grain b (s ∷ said) last goes tasks agree =
    let move = of_move grain (IsMove grain) (each_moves grain) b s goes.0 goes.1 tasks agree in
    let rest = goes_as grain goes.0 said last goes.2 move.0 move.2 in
    (rest.0, (books move.0 goes.0, move.1, rest.1))

-- the calls of the program from these tasks on are calls of the work
pub goes_by : (grain : ℕ) (first : List own.Task) (said : List Said) (left : List own.Task) (came : List Arrival) →
    Goes grain (going first None []) said (shut left None came) →
    (rest : List (work.Task Made)) × work.Goes (works grain) (work.going (tasks_of first) None []) said (work.shut rest None came)
goes_by grain first said left came goes =
    goes_as grain (going first None []) said (shut left None came) goes (tasks_of first) (λ live. refl)
