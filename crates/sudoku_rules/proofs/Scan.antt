-- The blank cells of a row, one after the other.
use Rattle.std.proofs.Common.{◌≡◌, ◌≤◌, ℕ, ◌+◌, ◌-◌, ◌*◌, Bool, false, eqb, get_or, Option, arith, subst}
use Rattle.std.proofs.lemmas.Bool.{eqb-false}
use Rattle.sudoku_law.specs.Grid.{Cells, side}
use Rattle.sudoku_rules.specs.declared.look.Choice.{Choice}
use Rattle.sudoku_rules.specs.inside.Masks.{IsBest}
use Rattle.sudoku_rules.specs.inside.Marked.{IsRest, IsNext, IsBlankRow}
use Rattle.sudoku_rules.proofs.Best.{best_skips}
use Rattle.sudoku_rules.proofs.Rest.{rest_all, rest_none}

-- the cell in this row and column is blank
abbrev pub blank_at : ℕ → Cells → ℕ → ℕ → Bool
blank_at m g row k = eqb (get_or g (row * side m + k) 0) 0

-- a mask has the blank cells of a row from some column on, and this is the best choice of the cells before
pub record IsScanned (m : ℕ) (g : Cells) (row left : ℕ) (best : Option Choice) : Type 0 where
  pub from : ℕ
  pub few : from ≤ side m
  pub rest : IsRest (side m) (λ k. blank_at m g row k) from left
  pub chosen : IsBest m g (row * side m + from) best

-- at the start of a row, all its blank cells are left
pub scan_first : (m : ℕ) (g : Cells) (row mask : ℕ) (best : Option Choice) → IsBlankRow m g row (side m) mask
    → IsBest m g (row * side m) best → IsScanned m g row mask best
scan_first m g row mask best is chosen = record {
  from = 0;
  few = omega arith;
  rest = rest_all (side m) (λ k. blank_at m g row k) mask is.small is.bits;
  chosen = let e : row * side m + 0 ≡ row * side m = omega arith in rw e chosen;
}

-- the best choice of the cells before the next blank one
pub scan_next : (m : ℕ) (g : Cells) (row left k : ℕ) (best : Option Choice) → (s : IsScanned m g row left best)
    → IsNext (side m) (λ j. blank_at m g row j) s.from k → IsBest m g (row * side m + k) best
scan_next m g row left k best s next =
    let e : row * side m + s.from + (k - s.from) ≡ row * side m + k = omega (arith, next.low) in
    subst (λ n. IsBest m g n best) e (best_skips m g (row * side m + s.from) (k - s.from) best (λ j above below.
    let at : row * side m + (j - row * side m) ≡ j = omega arith in
    let full : eqb (get_or g (row * side m + (j - row * side m)) 0) 0 ≡ false =
    next.others (j - row * side m) (omega arith) (omega (arith, next.low)) in
    eqb-false (get_or g j 0) 0 (subst (λ i. eqb (get_or g i 0) 0 ≡ false) at full)) s.chosen)

-- at the end of a row, the best so far is that up to its end
pub scan_last : (m : ℕ) (g : Cells) (row : ℕ) (best : Option Choice) → IsScanned m g row 0 best → IsBest m g (row * side m + side m) best
scan_last m g row best s =
    let few : s.from ≤ side m = s.few in
    let e : row * side m + s.from + (side m - s.from) ≡ row * side m + side m = omega arith in
    subst (λ n. IsBest m g n best) e (best_skips m g (row * side m + s.from) (side m - s.from) best (λ j above below.
    let at : row * side m + (j - row * side m) ≡ j = omega arith in
    let full : eqb (get_or g (row * side m + (j - row * side m)) 0) 0 ≡ false =
    rest_none (side m) (λ i. blank_at m g row i) s.from (j - row * side m) s.rest (omega arith) (omega arith) in
    eqb-false (get_or g j 0) 0 (subst (λ i. eqb (get_or g i 0) 0 ≡ false) at full)) s.chosen)
