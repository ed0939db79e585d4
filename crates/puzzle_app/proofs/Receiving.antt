-- What a board changes on the desk when it comes.
use Rattle.std.proofs.Common.{◌≡◌, ℕ, List, Result, Ok, Err, OnOk, sym, ap, ◌∙◌, subst, arith, append-nil}
use Rattle.adlb_unit.specs.declared.names.NoMemory.{NoMemory}
use Rattle.job_units.specs.declared.boards.Board.{Board}
use Rattle.job_units.specs.declared.units.Made.{Made}
use Rattle.job_units.specs.declared.units.Made.TheVariants as made
use Rattle.job_units.proofs.Counts.{boards_by, no_answers_by, no_jobs_by, solutions_by}
use Rattle.puzzle_app.specs.Arrivals.{arrival}
use Rattle.puzzle_app.specs.Desk.{Receives, Works}
use Rattle.puzzle_app.specs.declared.desk.Desk.{Desk}

board_comes_so : (grain : ℕ) (common : List ℕ) (b : Board) (d e : Desk) → Works grain b d e →
    Receives grain (arrival common (made.Board b)) d e
board_comes_so grain common b d e works = record {
  waiting = works.waiting;
  kept = ap (λ k. k.items) works.kept ∙ sym (append-nil d.kept.items);
  answers = ap (λ k. k.items) works.answers ∙ sym (append-nil d.answers.items);
  overs = works.overs;
  boards = omega (arith, works.boards, boards_by grain b);
  found = omega (arith, works.found, solutions_by grain b);
  jobs = omega (arith, works.jobs, no_jobs_by grain b);
  answered = omega (arith, works.answered, no_answers_by grain b);
  few_boards = works.few_boards;
  few_found = works.few_found;
  few_answered = omega (arith, works.answered);
}

-- a board that comes is worked as its walk says
pub board_comes : (grain : ℕ) (common : List ℕ) (unit : Made) (b : Board) (d e : Desk) (result : Result (Unit {0}) NoMemory) →
    unit ≡ made.Board b →
    OnOk result (Works grain b d e) → OnOk result (Receives grain (arrival common unit) d e)
board_comes grain common unit b d e (Ok done) is works = subst (λ u. Receives grain (arrival common u) d e) (sym is)
    (board_comes_so grain common b d e works)
board_comes grain common unit b d e (Err fault) is works = tt
