-- The bodies of boards.
use Rattle.std.proofs.Common.{◌≡◌, ◌↔◌, ℕ, ◌+◌, ◌-◌, ◌^◌, ◌<◌, ◌≤◌, Bool, true, List, ◌++◌, length, map, take, drop, Option, Some, None}
use Rattle.std.proofs.Common.{refl, sym, ap, ◌∙◌, subst, arith, length-append, length-drop}
use Rattle.std.specs.Int.{to_be_bytes, from_be_bytes, w32, w64}
use Rattle.std.proofs.lemmas.List.{take-append-drop, length-map}
use Rattle.std.proofs.lemmas.Nat.{from_be_bytes-to_be_bytes_4, from_be_bytes-to_be_bytes_8}
use Rattle.sudoku_law.specs.Grid.{Cells}
use Rattle.sudoku_law.specs.Text.{text_of, sign}
use Rattle.sudoku_rules.specs.Reading.{digit_of}
use Rattle.sudoku_rules.specs.Sides.{IsSudoku, is_sudoku}
use Rattle.sudoku_rules.proofs.Reading.{text_reads}
use Rattle.sudoku_rules.proofs.Sides.{sudoku_test, test_sudoku}
use Rattle.job_units.specs.Bodies.{board_body}
use Rattle.job_units.specs.Forms.{IsBoard}
use Rattle.job_units.specs.Reading.{board_in, board_of_body}
use Rattle.job_units.specs.declared.boards.Board.{Board}
use Rattle.job_units.proofs.ItsBody.{body_found, body_law, exactly, no_body, whose_body}
use Rattle.job_units.proofs.Numbers.{AreBytes, bytes_drop, eight_fit, eight_first, four_fit, four_first}

-- the grid is one of side 4, 9 or 16
abbrev has_grid : Board → Bool
has_grid b = is_sudoku b.grid

-- a body by its pieces, and what is at their places
pub board_is : (b : Board) → board_body b ≡ to_be_bytes w32 b.puzzle ++ (to_be_bytes w64 b.budget ++ text_of b.grid)
unfolding board_body
board_is b = refl

board_front : (b : Board) → take 4 (board_body b) ≡ to_be_bytes w32 b.puzzle
unfolding board_body
board_front b = refl

board_middle : (b : Board) → take 8 (drop 4 (board_body b)) ≡ to_be_bytes w64 b.budget
unfolding board_body
board_middle b = refl

board_end : (b : Board) → drop 8 (drop 4 (board_body b)) ≡ text_of b.grid
unfolding board_body
board_end b = refl

-- a body has 12 bytes and those of the grid
pub board_long : (b : Board) → length (board_body b) ≡ 12 + length b.grid
board_long b =
    let long : length (text_of b.grid) ≡ length b.grid = length-map b.grid sign in
    let front : List ℕ = to_be_bytes w32 b.puzzle in
    let middle : List ℕ = to_be_bytes w64 b.budget in
    let four : length front ≡ 4 = refl in
    let eight : length middle ≡ 8 = refl in
    ap length (board_is b)
    ∙ omega (arith, length-append front (middle ++ text_of b.grid), length-append middle (text_of b.grid), long, four, eight)

-- boards with the same parts are one
pub same_board : (a b : Board) → a.puzzle ≡ b.puzzle → a.budget ≡ b.budget → a.grid ≡ b.grid → a ≡ b
same_board a b p n g =
    let with_puzzle : ℕ → Board = λ x. record { puzzle = x; budget = a.budget; grid = a.grid } in
    let with_budget : ℕ → Board = λ x. record { puzzle = b.puzzle; budget = x; grid = a.grid } in
    let with_grid : Cells → Board = λ x. record { puzzle = b.puzzle; budget = b.budget; grid = x } in
    ap with_puzzle p ∙ ap with_budget n ∙ ap with_grid g

-- a body of which these are the parts
board_whole : (body : List ℕ) (b : Board) → to_be_bytes w32 b.puzzle ≡ take 4 body → to_be_bytes w64 b.budget ≡ take 8 (drop 4 body)
    → drop 8 (drop 4 body) ≡ text_of b.grid → body ≡ board_body b
board_whole body b front middle back =
    sym (take-append-drop 4 body)
    ∙ ap (λ x. x ++ drop 4 body) (sym front)
    ∙ ap (λ x. to_be_bytes w32 b.puzzle ++ x)
    (sym (take-append-drop 8 (drop 4 body)) ∙ ap (λ x. x ++ drop 8 (drop 4 body)) (sym middle)
    ∙ ap (λ x. to_be_bytes w64 b.budget ++ x) back)
    ∙ sym (board_is b)

-- a board is in its body
board_back : (b : Board) → IsBoard b → board_in (board_body b) ≡ b
board_back b fits = same_board (board_in (board_body b)) b
    (ap (λ x. from_be_bytes w32 x) (board_front b) ∙ from_be_bytes-to_be_bytes_4 b.puzzle fits.puzzle)
    (ap (λ x. from_be_bytes w64 x) (board_middle b) ∙ from_be_bytes-to_be_bytes_8 b.budget fits.budget)
    (ap (λ x. map digit_of x) (board_end b) ∙ sym (text_reads b.grid fits.grid).cells)

-- a board is read of its body alone
pub board_law : (body : List ℕ) (b : Board) → IsBoard b → (board_of_body body ≡ Some b) ↔ (body ≡ board_body b)
unfolding board_of_body
board_law body b fits = body_law Board has_grid board_body board_in body b (sudoku_test b.grid fits.grid) (board_back b fits)

-- as code reads it
pub board_exact : (body : List ℕ) (read : Option Board) → read ≡ board_of_body body → (b : Board) → IsBoard b
    → (read ≡ Some b) ↔ (body ≡ board_body b)
board_exact body read is b fits = exactly board_body body b (board_of_body body) read is (board_law body b fits)

-- what is read of a body has this body
board_whose : (body : List ℕ) (b : Board) → board_of_body body ≡ Some b → (has_grid b ≡ true) × (body ≡ board_body b) × (board_in body ≡ b)
unfolding board_of_body
board_whose body b e = whose_body Board has_grid board_body body (board_in body) b e

-- what is read of a body fits one
pub board_fits : (body : List ℕ) (b : Board) → board_of_body body ≡ Some b → IsBoard b
board_fits body b e =
    let is = board_whose body b e in
    let puzzle : from_be_bytes w32 (to_be_bytes w32 b.puzzle) ≡ b.puzzle =
    ap (λ x. from_be_bytes w32 x) (sym (board_front b)) ∙ ap (λ x. from_be_bytes w32 (take 4 x)) (sym is.1)
    ∙ ap (λ (x : Board). x.puzzle) is.2 in
    let budget : from_be_bytes w64 (to_be_bytes w64 b.budget) ≡ b.budget =
    ap (λ x. from_be_bytes w64 x) (sym (board_middle b)) ∙ ap (λ x. from_be_bytes w64 (take 8 (drop 4 x))) (sym is.1)
    ∙ ap (λ (x : Board). x.budget) is.2 in
    record {
      puzzle = subst (λ n. n < 2 ^ 32) puzzle (four_fit b.puzzle);
      budget = subst (λ n. n < 2 ^ 64) budget (eight_fit b.budget);
      grid = test_sudoku b.grid is.0;
    }

-- the numbers that are read of these parts, and the grid, are the board of the body
pub board_found : (body : List ℕ) (found : Board) → 12 ≤ length body → AreBytes body → found.puzzle ≡ from_be_bytes w32 (take 4 body)
    → found.budget ≡ from_be_bytes w64 (take 8 (drop 4 body)) → drop 8 (drop 4 body) ≡ text_of found.grid → IsSudoku found.grid
    → Some found ≡ board_of_body body
unfolding board_of_body
board_found body found long bytes puzzle budget text grid =
    let rest_long : length (drop 4 body) ≡ length body - 4 = length-drop 4 body in
    let front : to_be_bytes w32 found.puzzle ≡ take 4 body = four_first body found.puzzle (omega arith) bytes puzzle in
    let middle : to_be_bytes w64 found.budget ≡ take 8 (drop 4 body) =
    eight_first (drop 4 body) found.budget (omega arith) (bytes_drop 4 body bytes) budget in
    let is : found ≡ board_in body =
    same_board found (board_in body) puzzle budget ((text_reads found.grid grid).cells ∙ ap (λ x. map digit_of x) (sym text)) in
    body_found Board has_grid board_body body (board_in body) found is (sudoku_test found.grid grid)
    (board_whole body found front middle text)

-- a body that is too short is of no board, and so is one whose text is of no grid
pub board_short : (body : List ℕ) → length body < 12 → None ≡ board_of_body body
unfolding board_of_body
board_short body short = no_body Board has_grid board_body body (board_in body) (λ b grid e.
    let long : length body ≡ 12 + length b.grid = ap length e ∙ board_long b in omega arith)

-- a body whose text is no grid is no board
pub board_unread : (body : List ℕ) → ((g : Cells) → IsSudoku g → (None ≡ Some g) ↔ (drop 8 (drop 4 body) ≡ text_of g))
    → None ≡ board_of_body body
unfolding board_of_body
board_unread body none = no_body Board has_grid board_body body (board_in body) (λ b grid e.
    let text : drop 8 (drop 4 body) ≡ text_of b.grid = ap (λ x. drop 8 (drop 4 x)) e ∙ board_end b in
    let no_grid : None ≡ Some b.grid = (none b.grid (test_sudoku b.grid grid)).1 text in cc)
