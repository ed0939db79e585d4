-- What the units that come to a rank change on its desk.
use Rattle.std.specs.Prelude.{◌≡◌, ◌+◌, ◌≤◌, ◌<◌, ◌^◌, ◌==◌, ℕ, List, [], ◌∷◌, ◌++◌, length, map, Option, Some, None, if◌then◌else◌}
use Rattle.std.specs.Prelude.{count_by}
use Rattle.std.specs.List.{list_any}
use Rattle.job_text.specs.declared.items.Item.{Item}
use Rattle.job_units.specs.declared.boards.Board.{Board}
use Rattle.job_units.specs.declared.jobs.Job.{Job}
use Rattle.job_units.specs.declared.units.Made.{Made}
use Rattle.job_units.specs.declared.units.Made.TheVariants as made
use Rattle.job_units.specs.Puts.{is_kind}
use Rattle.job_units.specs.Works.{answer_of, made_by, walk_of}
use Rattle.puzzle_app.specs.Arrivals.{Arrival, answers_in, arrival, makes, solutions_in}
use Rattle.puzzle_app.specs.Tasks.{jobs_from}
use Rattle.puzzle_app.specs.declared.desk.Desk.{Desk}

-- the number is noted once
abbrev pub noted : ℕ → List ℕ → List ℕ
noted number numbers = if list_any (λ n. n == number) numbers then numbers else numbers ++ number ∷ []

-- the puzzles that are over, when this unit has come too
abbrev pub overs_with : ℕ → Made → List ℕ → List ℕ
overs_with grain (made.Board b) overs = if (walk_of grain b).over then noted b.puzzle overs else overs
overs_with grain _ overs = overs

-- no count is near the greatest number that it can have
pub record HasRoom (d : Desk) : Type 0 where
  pub boards : d.boards < 2 ^ 127
  pub found : d.found < 2 ^ 127
  pub answered : d.answered < 2 ^ 127

-- a unit came: what the work on it makes waits before all else, and is counted
pub record Receives (grain : ℕ) (a : Arrival) (old new : Desk) : Type 0 where
  pub waiting : new.waiting.items ≡ makes grain a ++ old.waiting.items
  pub kept : new.kept.items ≡ old.kept.items ++ solutions_in (a ∷ [])
  pub answers : new.answers.items ≡ old.answers.items ++ answers_in (a ∷ [])
  pub overs : new.overs.items ≡ overs_with grain a.unit old.overs.items
  pub boards : new.boards ≡ old.boards + count_by (is_kind 0) (makes grain a)
  pub found : new.found ≡ old.found + count_by (is_kind 1) (makes grain a)
  pub jobs : new.jobs ≡ old.jobs + count_by (is_kind 2) (makes grain a)
  pub answered : new.answered ≡ old.answered + count_by (is_kind 3) (makes grain a)
  pub few_boards : new.boards ≤ old.boards + 2 ^ 64
  pub few_found : new.found ≤ old.found + 2 ^ 64
  pub few_answered : new.answered ≤ old.answered + 2 ^ 64

-- a fetch came, of these common bytes and with this unit, if it has the form of one
abbrev pub Brings : ℕ → List ℕ → Option Made → Desk → Desk → Type 0
Brings grain common None old new = new ≡ old
Brings grain common (Some unit) old new = Receives grain (arrival common unit) old new

-- a board was worked
pub record Works (grain : ℕ) (board : Board) (old new : Desk) : Type 0 where
  pub waiting : new.waiting.items ≡ made_by grain board ++ old.waiting.items
  pub kept : new.kept ≡ old.kept
  pub answers : new.answers ≡ old.answers
  pub overs : new.overs.items ≡ (if (walk_of grain board).over then noted board.puzzle old.overs.items else old.overs.items)
  pub boards : new.boards ≡ old.boards + length (walk_of grain board).children
  pub found : new.found ≡ old.found + length (walk_of grain board).solutions
  pub jobs : new.jobs ≡ old.jobs
  pub answered : new.answered ≡ old.answered
  pub few_boards : new.boards ≤ old.boards + 2 ^ 64
  pub few_found : new.found ≤ old.found + 2 ^ 64

-- the answers of jobs over common bytes
abbrev pub answers_to : List ℕ → List Job → List Made
answers_to common jobs = map (λ (j : Job). made.Answer (answer_of common j)) jobs

-- the items of a batch that no server takes came: their answers wait after all else, and are counted
pub record Answers (batch : ℕ) (common : List ℕ) (items : List Item) (old new : Desk) : Type 0 where
  pub waiting : new.waiting.items ≡ old.waiting.items ++ answers_to common (jobs_from batch 1 items)
  pub kept : new.kept ≡ old.kept
  pub answers : new.answers ≡ old.answers
  pub overs : new.overs ≡ old.overs
  pub boards : new.boards ≡ old.boards
  pub found : new.found ≡ old.found
  pub jobs : new.jobs ≡ old.jobs
  pub answered : new.answered ≡ old.answered + length items
