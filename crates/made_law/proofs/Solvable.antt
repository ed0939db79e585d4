-- Each made puzzle has a solution: the full grid of which cells were blanked. No two of its digits in a row, column or box
-- are alike, for those of the grid before its relabelling are not, and no two digits are relabelled alike.
use Rattle.std.proofs.Common.{◌≡◌, ◌≢◌, ◌<◌, ◌≤◌, ◌⊎◌, inl, inr, ℕ, zero, suc, ◌+◌, ◌-◌, ◌%◌, ◌==◌, Bool, true, false, cond, List, [], ◌∷◌}
use Rattle.std.proofs.Common.{◌++◌, get_or, length, map, set, refl, sym, ap, ◌∙◌, subst, arith, length-set}
use Rattle.std.specs.Prelude.{All, codes, swap}
use Rattle.std.proofs.lemmas.Bool.{agree_below_at, cases_eq, eqb-true, lt-ltb, ne_eqb}
use Rattle.std.proofs.lemmas.Grind.{get_or-set_at}
use Rattle.std.proofs.lemmas.List.{get_or-map, get_or-set_other, length-map}
use Rattle.std.proofs.lemmas.List.Edits.{swap_is}
use Rattle.std.proofs.lemmas.List.Elements.{All-append, All-cons, All-nil}
use Rattle.std.proofs.lemmas.Nat.{mod_below}
use Rattle.rand_pcg.specs.Lcg.{Lcg}
use Rattle.job_report.specs.Jobs.{puzzles}
use Rattle.job_text.specs.declared.jobs.Job.{Job}
use Rattle.job_text.specs.declared.jobs.Job.TheVariants.{Batch, Puzzle}
use Rattle.made_jobs.specs.Made.{blanks, draw, exchange, exchanges, full_grid, made, puzzle, relabelled, shuffled, sign_for}
use Rattle.made_jobs.proofs.Lengths.{relabelled_long}
use Rattle.made_jobs.proofs.Relabelling.{grid_digit, grid_long}
use Rattle.made_law.specs.Jobs.{made_items, made_jobs, puzzle_jobs}
use Rattle.made_law.specs.Solved.{IsSolvable}
use Rattle.sudoku_law.specs.Grid.{Cells, IsSolution, any_below, conflict, shares}
use Rattle.sudoku_law.specs.Pairs.{IsPairwise}
use Rattle.sudoku_law.proofs.Pairwise.{solution_from_pairwise}
use Rattle.sudoku_law.proofs.Sound.{no_clash}
use Rattle.sudoku_rules.specs.Reading.{digit_of}

-- no two of them are alike
abbrev AreApart : List ℕ → Type 0
AreApart xs = (i j : ℕ) → i < length xs → j < length xs → i ≢ j → get_or xs i 0 ≢ get_or xs j 0

-- An exchange.

-- what is at place k after it was at place p before
abbrev Goes : ℕ → ℕ → ℕ → ℕ → Type 0
Goes a b k p = ((k ≡ b) × (p ≡ a)) ⊎ ((k ≢ b) × (k ≡ a) × (p ≡ b)) ⊎ ((k ≢ b) × (k ≢ a) × (p ≡ k))

goes_apart : (a b k l p q : ℕ) → Goes a b k p → Goes a b l q → k ≢ l → p ≢ q
goes_apart a b k l p q (inl x) (inl y) differs = λ same. differs (x.0 ∙ sym y.0)
goes_apart a b k l p q (inl x) (inr (inl y)) differs = λ same. y.0 (omega (arith, x.0, x.1, y.1, y.2, same))
goes_apart a b k l p q (inl x) (inr (inr y)) differs = λ same. y.1 (omega (arith, x.0, x.1, y.2, same))
goes_apart a b k l p q (inr (inl x)) (inl y) differs = λ same. x.0 (omega (arith, x.1, x.2, y.0, y.1, same))
goes_apart a b k l p q (inr (inl x)) (inr (inl y)) differs = λ same. differs (x.1 ∙ sym y.1)
goes_apart a b k l p q (inr (inl x)) (inr (inr y)) differs = λ same. y.0 (omega (arith, x.2, y.2, same))
goes_apart a b k l p q (inr (inr x)) (inl y) differs = λ same. x.1 (omega (arith, x.2, y.1, same))
goes_apart a b k l p q (inr (inr x)) (inr (inl y)) differs = λ same. x.0 (omega (arith, x.2, y.2, same))
goes_apart a b k l p q (inr (inr x)) (inr (inr y)) differs = λ same. differs (omega (arith, x.2, y.2, same))

module _ (xs : List ℕ) (a b : ℕ) (la : a < length xs) (lb : b < length xs) where
  swapped_at : (k : ℕ) → k < length xs → (p : ℕ) × (p < length xs) × (get_or (swap xs a b) k 0 ≡ get_or xs p 0) × Goes a b k p
  swapped_at k within = by_last (cases_eq k b)
    where
      ys : List ℕ
      ys = set xs a (get_or xs b 0)

      is : set ys b (get_or xs a 0) ≡ swap xs a b
      is = swap_is xs a b 0 la lb

      read : get_or (swap xs a b) k 0 ≡ get_or (set ys b (get_or xs a 0)) k 0
      read = ap (λ (l : List ℕ). get_or l k 0) (sym is)

      by_first : k ≢ b → (k ≡ a) ⊎ (k ≢ a) → (p : ℕ) × (p < length xs) × (get_or (swap xs a b) k 0 ≡ get_or xs p 0) × Goes a b k p
      by_first apart (inl e) = (
        b,
        lb,
        read ∙ get_or-set_other ys b k (get_or xs a 0) 0 apart ∙ get_or-set_at xs a k (get_or xs b 0) 0 e la,
        inr (inl (apart, e, refl)),
      )
      by_first apart (inr other) = (
        k,
        within,
        read ∙ get_or-set_other ys b k (get_or xs a 0) 0 apart ∙ get_or-set_other xs a k (get_or xs b 0) 0 other,
        inr (inr (apart, other, refl)),
      )

      by_last : (k ≡ b) ⊎ (k ≢ b) → (p : ℕ) × (p < length xs) × (get_or (swap xs a b) k 0 ≡ get_or xs p 0) × Goes a b k p
      by_last (inl e) = (
        a,
        la,
        read ∙ get_or-set_at ys b k (get_or xs a 0) 0 e (let long = length-set xs a (get_or xs b 0) in omega arith),
        inl (e, refl),
      )
      by_last (inr apart) = by_first apart (cases_eq k a)

  swap_long : length (swap xs a b) ≡ length xs
  swap_long =
      ap length (sym (swap_is xs a b 0 la lb))
      ∙ length-set (set xs a (get_or xs b 0)) b (get_or xs a 0)
      ∙ length-set xs a (get_or xs b 0)

  swap_apart : AreApart xs → AreApart (swap xs a b)
  swap_apart all i j li lj differs same =
      let x = swapped_at i (let e = swap_long in omega arith) in
      let y = swapped_at j (let e = swap_long in omega arith) in
      all x.0 y.0 x.1 y.1 (goes_apart a b i j x.0 y.0 x.3 y.3 differs) (sym x.2 ∙ same ∙ y.2)

-- nine digits, no two of them alike
record IsShuffle (xs : List ℕ) : Type 0 where
  long : length xs ≡ 9
  apart : AreApart xs
  digits : (i : ℕ) → i < length xs → (49 ≤ get_or xs i 0) × (get_or xs i 0 ≤ 57)

exchanges_keep : (place : ℕ) (at : List ℕ × Lcg) → place < 9 → IsShuffle at.0 → IsShuffle (exchanges place at).0
unfolding exchanges
exchanges_keep zero at low is = is
exchanges_keep (suc before) at low is =
    exchanges_keep before (exchange (suc before) at) (omega arith) (record {
      long = same_long ∙ is.long;
      apart = swap_apart at.0 (suc before) to la lb is.apart;
      digits = λ i within.
          let x = swapped_at at.0 (suc before) to la lb i (let e = same_long in omega arith) in
          let d = is.digits x.0 x.1 in
          (let e = x.2 in omega (arith, e, d.0), let e = x.2 in omega (arith, e, d.1));
    })
  where
    to : ℕ
    to = (draw at.1).0 % (suc before + 1)

    la : suc before < length at.0
    la = let e = is.long in omega arith

    lb : to < length at.0
    lb = let e = is.long in let few = mod_below (draw at.1).0 (suc before + 1) (omega arith) in omega arith

    same_long : length (swap at.0 (suc before) to) ≡ length at.0
    same_long = swap_long at.0 (suc before) to la lb

nine : List ℕ
nine = codes "123456789"

nine_at : (i : ℕ) → i < 9 → get_or nine i 0 ≡ 49 + i
unfolding nine
nine_at i low =
    eqb-true (get_or (codes "123456789") i 0) (49 + i)
    (agree_below_at (λ k. get_or (codes "123456789") k 0 == 49 + k) (λ k. true) 9 i refl low)

nine_long : length nine ≡ 9
unfolding nine
nine_long = refl

nine_is : IsShuffle nine
nine_is = record {
  long = nine_long;
  apart = λ i j li lj differs same.
      let e = nine_long in
      let a = nine_at i (omega arith) in
      let b = nine_at j (omega arith) in
      differs (omega (arith, a, b, same));
  digits = λ i within. let e = nine_long in let a = nine_at i (omega arith) in (omega (arith, a), omega (arith, a, e, within));
}

shuffled_is : (generator : Lcg) → IsShuffle (shuffled generator).0
unfolding shuffled nine
shuffled_is generator = exchanges_keep 8 (codes "123456789", generator) (omega arith) nine_is

-- The full grid.

full_fine : conflict 3 full_grid ≡ false
unfolding full_grid any_below
full_fine = refl

full_apart : (i j : ℕ) → j < i → i < 81 → shares 3 i j ≡ true → get_or full_grid i 0 ≢ get_or full_grid j 0
full_apart i j before within share same =
    let d = grid_digit i within in
    no_clash 3 full_grid i j full_fine (λ none. omega (arith, none, d.0)) before (let e = grid_long in omega arith) share same

digit_is : (sign : ℕ) → 49 ≤ sign → sign ≤ 57 → digit_of sign ≡ sign - 48
digit_is sign low high =
    let no_dot = ne_eqb sign 46 (λ same. omega arith) in
    let small = lt-ltb sign 65 (omega arith) in
    rw (no_dot, small) refl

module _ (signs : List ℕ) (is : IsShuffle signs) where
  solution : List ℕ
  solution = map digit_of (relabelled signs)

  place : ℕ → ℕ
  place k = get_or full_grid k 0 - 49

  place_low : (k : ℕ) → k < 81 → place k < length signs
  unfolding place
  place_low k within = let d = grid_digit k within in let e = is.long in omega (arith, d.0, d.1, e)

  sign_at : (k : ℕ) → k < 81 → get_or (relabelled signs) k 0 ≡ get_or signs (place k) 0
  unfolding relabelled place
  sign_at k within = get_or-map (sign_for signs) full_grid k 0 0 (let e = grid_long in omega arith)

  solution_long : length solution ≡ 81
  unfolding solution
  solution_long = length-map (relabelled signs) _ ∙ relabelled_long signs

  cell_at : (k : ℕ) → k < 81 → get_or solution k 0 ≡ get_or signs (place k) 0 - 48
  unfolding solution
  cell_at k within =
      let d = is.digits (place k) (place_low k within) in
      get_or-map digit_of (relabelled signs) k 0 0 (let e = relabelled_long signs in omega arith)
      ∙ ap digit_of (sign_at k within)
      ∙ digit_is (get_or signs (place k) 0) d.0 d.1

  pairwise : IsPairwise 3 solution
  unfolding place
  pairwise = record {
    digits = λ i within.
        let e = solution_long in
        let c = cell_at i (omega arith) in
        let d = is.digits (place i) (place_low i (omega arith)) in
        (omega (arith, c, d.0), omega (arith, c, d.1));
    once = λ i j before within share same.
        let e = solution_long in
        let low : i < 81 = omega arith in
        let low_j : j < 81 = omega arith in
        let c = cell_at i low in
        let f = cell_at j low_j in
        let d = is.digits (place i) (place_low i low) in
        let g = is.digits (place j) (place_low j low_j) in
        let full_i = grid_digit i low in
        let full_j = grid_digit j low_j in
        let differs : place i ≢ place j = λ one. full_apart i j before low share (omega (arith, one, full_i.0, full_j.0)) in
        is.apart (place i) (place j) (place_low i low) (place_low j low_j) differs (omega (arith, c, f, d.0, g.0, same));
  }

-- The blanked cells.

-- in a list of the same length, each cell is a dot or as it was
record AreLeft (before after : List ℕ) : Type 0 where
  long : length after ≡ length before
  cells : (cell : ℕ) → cell < length before → (get_or after cell 0 ≡ 46) ⊎ (get_or after cell 0 ≡ get_or before cell 0)

blanked_one : (full before : List ℕ) (place : ℕ) → AreLeft full before → AreLeft full (set before place 46)
blanked_one full before place left = record {
  long = length-set before place 46 ∙ left.long;
  cells = λ cell within. by_place cell within (cases_eq cell place);
}
  where
    by_before : (cell : ℕ) → cell ≢ place → (get_or before cell 0 ≡ 46) ⊎ (get_or before cell 0 ≡ get_or full cell 0)
        → (get_or (set before place 46) cell 0 ≡ 46) ⊎ (get_or (set before place 46) cell 0 ≡ get_or full cell 0)
    by_before cell other (inl dot) = inl (get_or-set_other before place cell 46 0 other ∙ dot)
    by_before cell other (inr same) = inr (get_or-set_other before place cell 46 0 other ∙ same)

    by_place : (cell : ℕ) → cell < length full → (cell ≡ place) ⊎ (cell ≢ place)
        → (get_or (set before place 46) cell 0 ≡ 46) ⊎ (get_or (set before place 46) cell 0 ≡ get_or full cell 0)
    by_place cell within (inl e) = inl (get_or-set_at before place cell 46 0 e (omega (arith, e, within, left.long)))
    by_place cell within (inr other) = by_before cell other (left.cells cell within)

blanks_leave : (times : ℕ) (at : List ℕ × Lcg) → AreLeft at.0 (blanks times at).0
unfolding blanks
blanks_leave zero at = record { long = refl; cells = λ cell within. inr refl }
blanks_leave (suc times) at =
    blanked_one at.0 (blanks times at).0 ((draw (blanks times at).1).0 % 81) (blanks_leave times at)

cells_long : (generator : Lcg) (cell : ℕ) → cell < length (relabelled (shuffled generator).0) → cell < length (puzzle generator).0
unfolding puzzle
cells_long generator cell within =
    let left = blanks_leave 40 (relabelled (shuffled generator).0, (shuffled generator).1) in
    omega (arith, within, left.long)

given_kept : (generator : Lcg) (cell : ℕ) → cell < length (relabelled (shuffled generator).0)
    → get_or (map digit_of (puzzle generator).0) cell 0 ≢ 0
    → (get_or (puzzle generator).0 cell 0 ≡ 46) ⊎ (get_or (puzzle generator).0 cell 0 ≡ get_or (relabelled (shuffled generator).0) cell 0)
    → get_or (map digit_of (relabelled (shuffled generator).0)) cell 0 ≡ get_or (map digit_of (puzzle generator).0) cell 0
given_kept generator cell within given (inl dot) =
    absurd (given (get_or-map digit_of (puzzle generator).0 cell 0 0 (cells_long generator cell within) ∙ ap digit_of dot))
given_kept generator cell within given (inr same) =
    get_or-map digit_of (relabelled (shuffled generator).0) cell 0 0 within
    ∙ ap digit_of (sym same)
    ∙ sym (get_or-map digit_of (puzzle generator).0 cell 0 0 (cells_long generator cell within))

-- it is the full grid with its digits relabelled
puzzle_solved : (generator : Lcg)
    → IsSolution 3 (map digit_of (puzzle generator).0) (map digit_of (relabelled (shuffled generator).0))
unfolding puzzle solution
puzzle_solved generator =
    let full = relabelled (shuffled generator).0 in
    let is = shuffled_is generator in
    let left = blanks_leave 40 (full, (shuffled generator).1) in
    let long = length-map (puzzle generator).0 digit_of in
    solution_from_pairwise 3 (map digit_of (puzzle generator).0) (map digit_of full) (solution_long (shuffled generator).0 is)
    (λ cell within given.
    let inside : cell < length full = omega (arith, within, long, left.long) in
    given_kept generator cell inside given (left.cells cell inside))
    (pairwise (shuffled generator).0 is)

-- The puzzles of the jobs.

puzzles_join : (front back : List Job) → puzzles (front ++ back) ≡ puzzles front ++ puzzles back
unfolding puzzles
puzzles_join [] back = refl
puzzles_join (Puzzle grid ∷ front) back = ap (λ later. grid ∷ later) (puzzles_join front back)
puzzles_join (Batch common items ∷ front) back = puzzles_join front back

one_solved : (number : ℕ) (generator : Lcg) → All IsSolvable (puzzles (puzzle_jobs number (puzzle generator).0))
unfolding puzzles
one_solved number generator = by_test (number % 8 == 0)
  where
    alone : All IsSolvable (map digit_of (puzzle generator).0 ∷ [])
    alone =
        All-cons IsSolvable (map digit_of (puzzle generator).0) []
        (map digit_of (relabelled (shuffled generator).0), puzzle_solved generator)
        (All-nil IsSolvable)

    batch : Bool → List Job
    batch eighth = cond eighth (Batch (puzzle generator).0 made_items ∷ []) []

    by_test : (eighth : Bool) → All IsSolvable (puzzles (Puzzle (map digit_of (puzzle generator).0) ∷ batch eighth))
    by_test true = alone
    by_test false = alone

pub made_solved : (count : ℕ) (generator : Lcg) → All IsSolvable (puzzles (made_jobs count generator))
unfolding made_jobs puzzles
made_solved zero generator = All-nil IsSolvable
made_solved (suc count) generator =
    let next = puzzle_jobs (suc count) (puzzle (made count generator).1).0 in
    subst (λ (grids : List Cells). All IsSolvable grids) (sym (puzzles_join (made_jobs count generator) next))
    (All-append IsSolvable (puzzles (made_jobs count generator)) (puzzles next)
    (made_solved count generator)
    (one_solved (suc count) (made count generator).1))
