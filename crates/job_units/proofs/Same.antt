-- The test that two units are the same is exact.
use Rattle.std.proofs.Common.{◌≡◌, ◌↔◌, ◌==◌, ◌&&◌, ℕ, Bool, true, false, sym, ap, ◌∙◌}
use Rattle.std.specs.Str.{bytes_eq}
use Rattle.std.proofs.lemmas.Bool.{and_from, and_parts, eq-eqb, eqb-true}
use Rattle.std.proofs.lemmas.Slice.Eq.{bytes_eq-Decides}
use Rattle.job_text.specs.declared.items.Item.{Item}
use Rattle.job_units.specs.Bodies.{item_bytes}
use Rattle.job_units.specs.Reading.{item_in}
use Rattle.job_units.specs.declared.answers.Answer.{Answer}
use Rattle.job_units.specs.declared.boards.Board.{Board}
use Rattle.job_units.specs.declared.jobs.Job.{Job}
use Rattle.job_units.specs.declared.solutions.Solution.{Solution}
use Rattle.job_units.specs.declared.units.Made.{Made}
use Rattle.job_units.specs.declared.units.Made.TheVariants as made
use Rattle.job_units.proofs.AnswerBodies.{same_answer}
use Rattle.job_units.proofs.BoardBodies.{same_board}
use Rattle.job_units.proofs.JobBodies.{item_back, same_job}
use Rattle.job_units.proofs.SolutionBodies.{same_solution}

-- by their parts; items by their bytes
abbrev pub same_unit : Made → Made → Bool
same_unit (made.Board a) (made.Board b) = (a.puzzle == b.puzzle) && ((a.budget == b.budget) && bytes_eq a.grid b.grid)
same_unit (made.Board a) (made.Solution b) = false
same_unit (made.Board a) (made.Job b) = false
same_unit (made.Board a) (made.Answer b) = false
same_unit (made.Solution a) (made.Board b) = false
same_unit (made.Solution a) (made.Solution b) = (a.puzzle == b.puzzle) && bytes_eq a.grid b.grid
same_unit (made.Solution a) (made.Job b) = false
same_unit (made.Solution a) (made.Answer b) = false
same_unit (made.Job a) (made.Board b) = false
same_unit (made.Job a) (made.Solution b) = false
same_unit (made.Job a) (made.Job b) = (a.batch == b.batch) && ((a.number == b.number) && bytes_eq (item_bytes a.item) (item_bytes b.item))
same_unit (made.Job a) (made.Answer b) = false
same_unit (made.Answer a) (made.Board b) = false
same_unit (made.Answer a) (made.Solution b) = false
same_unit (made.Answer a) (made.Job b) = false
same_unit (made.Answer a) (made.Answer b) = (a.batch == b.batch) && ((a.number == b.number) && (a.value == b.value))

-- what three tests say, and when they pass
three_from : (a b c d : ℕ) (last : Bool) → (a == b) && ((c == d) && last) ≡ true → (a ≡ b) × (c ≡ d) × (last ≡ true)
three_from a b c d last e =
    let first = and_parts (a == b) ((c == d) && last) e in
    let rest = and_parts (c == d) last first.1 in (eqb-true a b first.0, eqb-true c d rest.0, rest.1)

three_pass : (a b c d : ℕ) (last : Bool) → a ≡ b → c ≡ d → last ≡ true → (a == b) && ((c == d) && last) ≡ true
three_pass a b c d last e f g = and_from (a == b) ((c == d) && last) (eq-eqb a b e) (and_from (c == d) last (eq-eqb c d f) g)

same_item : (i k : Item) → item_bytes i ≡ item_bytes k → i ≡ k
same_item i k e = sym (item_back i) ∙ ap (λ x. item_in x) e ∙ item_back k

board_test : (a b : Board) → (same_unit (made.Board a) (made.Board b) ≡ true) ↔ (a ≡ b)
board_test a b = (
  λ e. let parts = three_from a.puzzle b.puzzle a.budget b.budget (bytes_eq a.grid b.grid) e in
      same_board a b parts.0 parts.1 ((bytes_eq-Decides a.grid b.grid).0 parts.2),
  λ e. three_pass a.puzzle b.puzzle a.budget b.budget (bytes_eq a.grid b.grid) (ap (λ (x : Board). x.puzzle) e)
      (ap (λ (x : Board). x.budget) e)
      ((bytes_eq-Decides a.grid b.grid).1 (ap (λ (x : Board). x.grid) e)),
)

solution_test : (a b : Solution) → (same_unit (made.Solution a) (made.Solution b) ≡ true) ↔ (a ≡ b)
solution_test a b = (
  λ e. let parts = and_parts (a.puzzle == b.puzzle) (bytes_eq a.grid b.grid) e in
      same_solution a b (eqb-true a.puzzle b.puzzle parts.0) ((bytes_eq-Decides a.grid b.grid).0 parts.1),
  λ e. and_from (a.puzzle == b.puzzle) (bytes_eq a.grid b.grid) (eq-eqb a.puzzle b.puzzle (ap (λ (x : Solution). x.puzzle) e))
      ((bytes_eq-Decides a.grid b.grid).1 (ap (λ (x : Solution). x.grid) e)),
)

job_test : (a b : Job) → (same_unit (made.Job a) (made.Job b) ≡ true) ↔ (a ≡ b)
job_test a b = (
  λ e. let parts = three_from a.batch b.batch a.number b.number (bytes_eq (item_bytes a.item) (item_bytes b.item)) e in
      same_job a b parts.0 parts.1 (same_item a.item b.item ((bytes_eq-Decides (item_bytes a.item) (item_bytes b.item)).0 parts.2)),
  λ e. three_pass a.batch b.batch a.number b.number (bytes_eq (item_bytes a.item) (item_bytes b.item)) (ap (λ (x : Job). x.batch) e)
      (ap (λ (x : Job). x.number) e)
      ((bytes_eq-Decides (item_bytes a.item) (item_bytes b.item)).1 (ap (λ (x : Job). item_bytes x.item) e)),
)

answer_test : (a b : Answer) → (same_unit (made.Answer a) (made.Answer b) ≡ true) ↔ (a ≡ b)
answer_test a b = (
  λ e. let parts = three_from a.batch b.batch a.number b.number (a.value == b.value) e in
      same_answer a b parts.0 parts.1 (eqb-true a.value b.value parts.2),
  λ e. three_pass a.batch b.batch a.number b.number (a.value == b.value) (ap (λ (x : Answer). x.batch) e) (ap (λ (x : Answer). x.number) e)
      (eq-eqb a.value b.value (ap (λ (x : Answer). x.value) e)),
)

-- the test is exact
pub unit_test : (x y : Made) → (same_unit x y ≡ true) ↔ (x ≡ y)
unit_test (made.Board a) (made.Board b) =
    let test = board_test a b in (λ e. ap made.Board (test.0 e), λ e. let same : a ≡ b = cc in test.1 same)
unit_test (made.Solution a) (made.Solution b) =
    let test = solution_test a b in (λ e. ap made.Solution (test.0 e), λ e. let same : a ≡ b = cc in test.1 same)
unit_test (made.Job a) (made.Job b) =
    let test = job_test a b in (λ e. ap made.Job (test.0 e), λ e. let same : a ≡ b = cc in test.1 same)
unit_test (made.Answer a) (made.Answer b) =
    let test = answer_test a b in (λ e. ap made.Answer (test.0 e), λ e. let same : a ≡ b = cc in test.1 same)
unit_test (made.Board a) (made.Solution b) = (λ e. absurd (cc), λ e. absurd (cc))
unit_test (made.Board a) (made.Job b) = (λ e. absurd (cc), λ e. absurd (cc))
unit_test (made.Board a) (made.Answer b) = (λ e. absurd (cc), λ e. absurd (cc))
unit_test (made.Solution a) (made.Board b) = (λ e. absurd (cc), λ e. absurd (cc))
unit_test (made.Solution a) (made.Job b) = (λ e. absurd (cc), λ e. absurd (cc))
unit_test (made.Solution a) (made.Answer b) = (λ e. absurd (cc), λ e. absurd (cc))
unit_test (made.Job a) (made.Board b) = (λ e. absurd (cc), λ e. absurd (cc))
unit_test (made.Job a) (made.Solution b) = (λ e. absurd (cc), λ e. absurd (cc))
unit_test (made.Job a) (made.Answer b) = (λ e. absurd (cc), λ e. absurd (cc))
unit_test (made.Answer a) (made.Board b) = (λ e. absurd (cc), λ e. absurd (cc))
unit_test (made.Answer a) (made.Solution b) = (λ e. absurd (cc), λ e. absurd (cc))
unit_test (made.Answer a) (made.Job b) = (λ e. absurd (cc), λ e. absurd (cc))
