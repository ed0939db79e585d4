use Rattle.std.proofs.Common.{◌≡◌, ◌∙◌, ◌↔◌, ap, sym, subst, take, drop, List, ℕ, Some, None, arith}
use Rattle.std.specs.Int.{from_be_bytes, w32, w64}
use Rattle.sudoku_law.specs.Text.{text_of}
use Rattle.sudoku_rules.specs.Sides.{IsSudoku}
use Rattle.job_units.specs.Reading.{board_of_body}
use Rattle.job_units.proofs.BoardBodies.{board_exact, board_found, board_short, board_unread}
use Rattle.job_units.proofs.boards.Board.read.Goals as goal

pub returns-then-body-lt-HEAD : goal.returns-then-body-lt-HEAD
returns-then-body-lt-HEAD c =
    let none : None ≡ board_of_body c.args.body.now = board_short c.args.body.now c.if-body-lt-HEAD.true in
    record { read = none; exact = board_exact c.args.body.now None none }

pub returns-in_err-grid : goal.returns-in_err-grid
returns-in_err-grid c =
    let text : c.split_at-2.result.1.now ≡ drop 8 (drop 4 c.args.body.now) =
    c.split_at-2.ensures.back ∙ ap (λ x. drop 8 x) c.split_at.ensures.back in
    let P : List ℕ → Type 0 = λ t. (g : List ℕ) → IsSudoku g → (None ≡ Some g) ↔ (t ≡ text_of g) in
    let none : None ≡ board_of_body c.args.body.now = board_unread c.args.body.now (subst P text c.in_err-grid.ensures.exact) in
    rw c.from_residual.ensures (record { read = none; exact = board_exact c.args.body.now None none })

pub returns : goal.returns
returns c =
    let text : c.split_at-2.result.1.now ≡ drop 8 (drop 4 c.args.body.now) =
    c.split_at-2.ensures.back ∙ ap (λ x. drop 8 x) c.split_at.ensures.back in
    let found = board_found c.args.body.now _ c.if-body-lt-HEAD.false (λ i. omega (arith, c.type_inv.body i))
    (c.from_be_bytes.ensures ∙ ap (λ x. from_be_bytes w32 x) (c.array_of.ensures ∙ c.split_at.ensures.front))
    (c.from_be_bytes-2.ensures
    ∙ ap (λ x. from_be_bytes w64 x) (c.array_of-2.ensures ∙ c.split_at-2.ensures.front ∙ ap (λ x. take 8 x) c.split_at.ensures.back))
    (sym text ∙ c.in_ok-grid.ensures.some)
    c.in_ok-grid.ensures.grid in
    record { read = found; exact = board_exact c.args.body.now _ found }
