use Rattle.std.proofs.Common.{◌≡◌, ◌∙◌, ◌↔◌, ap, sym, subst, List, ℕ, Some, None, arith}
use Rattle.std.specs.Int.{from_be_bytes, w32}
use Rattle.sudoku_law.specs.Text.{text_of}
use Rattle.sudoku_rules.specs.Sides.{IsSudoku}
use Rattle.job_units.specs.Reading.{solution_of_body}
use Rattle.job_units.proofs.SolutionBodies.{solution_exact, solution_found, solution_short, solution_unread}
use Rattle.job_units.proofs.solutions.Solution.read.Goals as goal

pub returns-then-body-lt-HEAD : goal.returns-then-body-lt-HEAD
returns-then-body-lt-HEAD c =
    let none : None ≡ solution_of_body c.args.body.now = solution_short c.args.body.now c.if-body-lt-HEAD.true in
    record { read = none; exact = solution_exact c.args.body.now None none }

pub returns-in_err-grid : goal.returns-in_err-grid
returns-in_err-grid c =
    let P : List ℕ → Type 0 = λ t. (g : List ℕ) → IsSudoku g → (None ≡ Some g) ↔ (t ≡ text_of g) in
    let none : None ≡ solution_of_body c.args.body.now =
    solution_unread c.args.body.now (subst P c.split_at.ensures.back c.in_err-grid.ensures.exact) in
    rw c.from_residual.ensures (record { read = none; exact = solution_exact c.args.body.now None none })

pub returns : goal.returns
returns c =
    let found = solution_found c.args.body.now _ c.if-body-lt-HEAD.false (λ i. omega (arith, c.type_inv.body i))
    (c.from_be_bytes.ensures ∙ ap (λ x. from_be_bytes w32 x) (c.array_of.ensures ∙ c.split_at.ensures.front))
    (sym c.split_at.ensures.back ∙ c.in_ok-grid.ensures.some)
    c.in_ok-grid.ensures.grid in
    record { read = found; exact = solution_exact c.args.body.now _ found }
