-- The bodies of solutions.
use Rattle.std.proofs.Common.{◌≡◌, ◌↔◌, ℕ, ◌+◌, ◌^◌, ◌<◌, ◌≤◌, Bool, true, List, ◌++◌, length, map, take, drop, Option, Some, None, refl}
use Rattle.std.proofs.Common.{sym, ap, ◌∙◌, subst, arith, length-append}
use Rattle.std.specs.Int.{to_be_bytes, from_be_bytes, w32}
use Rattle.std.proofs.lemmas.List.{take-append-drop, length-map}
use Rattle.std.proofs.lemmas.Nat.{from_be_bytes-to_be_bytes_4}
use Rattle.sudoku_law.specs.Grid.{Cells}
use Rattle.sudoku_law.specs.Text.{text_of, sign}
use Rattle.sudoku_rules.specs.Reading.{digit_of}
use Rattle.sudoku_rules.specs.Sides.{IsSudoku, is_sudoku}
use Rattle.sudoku_rules.proofs.Reading.{text_reads}
use Rattle.sudoku_rules.proofs.Sides.{sudoku_test, test_sudoku}
use Rattle.job_units.specs.Bodies.{solution_body}
use Rattle.job_units.specs.Forms.{IsSolution}
use Rattle.job_units.specs.Reading.{solution_in, solution_of_body}
use Rattle.job_units.specs.declared.solutions.Solution.{Solution}
use Rattle.job_units.proofs.ItsBody.{body_found, body_law, exactly, no_body, whose_body}
use Rattle.job_units.proofs.Numbers.{AreBytes, four_fit, four_first}

-- the grid is one of side 4, 9 or 16
abbrev has_grid : Solution → Bool
has_grid s = is_sudoku s.grid

-- a body by its pieces, and what is at their places
pub solution_is : (s : Solution) → solution_body s ≡ to_be_bytes w32 s.puzzle ++ text_of s.grid
unfolding solution_body
solution_is s = refl

solution_front : (s : Solution) → take 4 (solution_body s) ≡ to_be_bytes w32 s.puzzle
unfolding solution_body
solution_front s = refl

solution_end : (s : Solution) → drop 4 (solution_body s) ≡ text_of s.grid
unfolding solution_body
solution_end s = refl

-- a body has 4 bytes and those of the grid
pub solution_long : (s : Solution) → length (solution_body s) ≡ 4 + length s.grid
solution_long s =
    let long : length (text_of s.grid) ≡ length s.grid = length-map s.grid sign in
    let front : List ℕ = to_be_bytes w32 s.puzzle in
    let four : length front ≡ 4 = refl in
    ap length (solution_is s) ∙ omega (arith, length-append front (text_of s.grid), long, four)

-- solutions with the same parts are one
pub same_solution : (a b : Solution) → a.puzzle ≡ b.puzzle → a.grid ≡ b.grid → a ≡ b
same_solution a b p g =
    let with_puzzle : ℕ → Solution = λ x. record { puzzle = x; grid = a.grid } in
    let with_grid : Cells → Solution = λ x. record { puzzle = b.puzzle; grid = x } in
    ap with_puzzle p ∙ ap with_grid g

-- a body of which these are the parts
solution_whole : (body : List ℕ) (s : Solution) → to_be_bytes w32 s.puzzle ≡ take 4 body → drop 4 body ≡ text_of s.grid
    → body ≡ solution_body s
solution_whole body s front back =
    sym (take-append-drop 4 body)
    ∙ ap (λ x. x ++ drop 4 body) (sym front)
    ∙ ap (λ x. to_be_bytes w32 s.puzzle ++ x) back
    ∙ sym (solution_is s)

-- a solution is in its body
solution_back : (s : Solution) → IsSolution s → solution_in (solution_body s) ≡ s
solution_back s fits = same_solution (solution_in (solution_body s)) s
    (ap (λ x. from_be_bytes w32 x) (solution_front s) ∙ from_be_bytes-to_be_bytes_4 s.puzzle fits.puzzle)
    (ap (λ x. map digit_of x) (solution_end s) ∙ sym (text_reads s.grid fits.grid).cells)

-- a solution is read of its body alone
pub solution_law : (body : List ℕ) (s : Solution) → IsSolution s → (solution_of_body body ≡ Some s) ↔ (body ≡ solution_body s)
unfolding solution_of_body
solution_law body s fits = body_law Solution has_grid solution_body solution_in body s (sudoku_test s.grid fits.grid) (solution_back s fits)

-- as code reads it
pub solution_exact : (body : List ℕ) (read : Option Solution) → read ≡ solution_of_body body → (s : Solution) → IsSolution s
    → (read ≡ Some s) ↔ (body ≡ solution_body s)
solution_exact body read is s fits = exactly solution_body body s (solution_of_body body) read is (solution_law body s fits)

-- what is read of a body has this body
solution_whose : (body : List ℕ) (s : Solution) → solution_of_body body ≡ Some s
    → (has_grid s ≡ true) × (body ≡ solution_body s) × (solution_in body ≡ s)
unfolding solution_of_body
solution_whose body s e = whose_body Solution has_grid solution_body body (solution_in body) s e

-- what is read of a body fits one
pub solution_fits : (body : List ℕ) (s : Solution) → solution_of_body body ≡ Some s → IsSolution s
solution_fits body s e =
    let is = solution_whose body s e in
    let puzzle : from_be_bytes w32 (to_be_bytes w32 s.puzzle) ≡ s.puzzle =
    ap (λ x. from_be_bytes w32 x) (sym (solution_front s)) ∙ ap (λ x. from_be_bytes w32 (take 4 x)) (sym is.1)
    ∙ ap (λ (x : Solution). x.puzzle) is.2 in
    record { puzzle = subst (λ n. n < 2 ^ 32) puzzle (four_fit s.puzzle); grid = test_sudoku s.grid is.0 }

-- the number that is read of this part, and the grid, are the solution of the body
pub solution_found : (body : List ℕ) (found : Solution) → 4 ≤ length body → AreBytes body
    → found.puzzle ≡ from_be_bytes w32 (take 4 body) → drop 4 body ≡ text_of found.grid → IsSudoku found.grid
    → Some found ≡ solution_of_body body
unfolding solution_of_body
solution_found body found long bytes puzzle text grid =
    let front : to_be_bytes w32 found.puzzle ≡ take 4 body = four_first body found.puzzle long bytes puzzle in
    let is : found ≡ solution_in body =
    same_solution found (solution_in body) puzzle ((text_reads found.grid grid).cells ∙ ap (λ x. map digit_of x) (sym text)) in
    body_found Solution has_grid solution_body body (solution_in body) found is (sudoku_test found.grid grid)
    (solution_whole body found front text)

-- a body that is too short is of no solution, and so is one whose text is of no grid
pub solution_short : (body : List ℕ) → length body < 4 → None ≡ solution_of_body body
unfolding solution_of_body
solution_short body short = no_body Solution has_grid solution_body body (solution_in body) (λ s grid e.
    let long : length body ≡ 4 + length s.grid = ap length e ∙ solution_long s in omega arith)

-- a body whose text is no grid is no solution
pub solution_unread : (body : List ℕ) → ((g : Cells) → IsSudoku g → (None ≡ Some g) ↔ (drop 4 body ≡ text_of g))
    → None ≡ solution_of_body body
unfolding solution_of_body
solution_unread body none = no_body Solution has_grid solution_body body (solution_in body) (λ s grid e.
    let text : drop 4 body ≡ text_of s.grid = ap (λ x. drop 4 x) e ∙ solution_end s in
    let no_grid : None ≡ Some s.grid = (none s.grid (test_sudoku s.grid grid)).1 text in cc)
