-- The children of a node, one candidate after the other.
use Rattle.std.proofs.Common.{◌≡◌, ◌<◌, ◌≤◌, ℕ, ◌+◌, ◌-◌, Bool, true, false, cond, not, set, refl, sym, ap, ◌∙◌, arith}
use Rattle.std.proofs.lemmas.Bool.{not-false}
use Rattle.sudoku_law.specs.Grid.{Cells, side, used}
use Rattle.sudoku_law.specs.Tree.{Met, both, hands_out, tree, walk}
use Rattle.sudoku_rules.specs.declared.marked.Marked.{Marked}
use Rattle.sudoku_rules.specs.declared.expansion.Expansion.{Expansion}
use Rattle.sudoku_rules.specs.Expansion.{met_of}
use Rattle.sudoku_rules.specs.inside.Pieces.{handed_out}
use Rattle.sudoku_rules.specs.inside.Masks.{AreOptions}
use Rattle.sudoku_rules.specs.inside.Marked.{IsRest, IsNext}
use Rattle.sudoku_rules.proofs.Rest.{rest_all, rest_none}
use Rattle.sudoku_rules.proofs.Walking.{at_digit, both_assoc, both_nothing, rest_of, from_digit, digit_next, digits_end, digits_skip}

-- the digit k + 1 is a candidate
abbrev pub can : ℕ → Cells → ℕ → ℕ → Bool
can m g cell k = not (used m g cell (k + 1))

-- a mask has the candidates from some one on, and the children of those before are met
pub record IsWorked (m : ℕ) {S C : ℕ} (grain budget k share : ℕ) (start : Marked S C) (cell : ℕ) (before : Expansion) (left : ℕ)
    (marked : Marked S C) (found : Expansion) : Type 0 where
  pub from : ℕ
  pub few : from ≤ side m
  pub rest : IsRest (side m) (λ d. can m start.cells cell d) from left
  pub kept : marked ≡ start
  pub met : both (met_of found) (rest_of m grain budget k share start.cells cell (from_digit m start.cells cell (from + 1)))
      ≡ both (met_of before) (walk grain (tree m budget start.cells))

-- the same where the grid stays as it is
pub record IsTried (m : ℕ) (grain budget k share : ℕ) (g : Cells) (cell : ℕ) (before : Expansion) (left : ℕ)
    (found : Expansion) : Type 0 where
  pub from : ℕ
  pub few : from ≤ side m
  pub rest : IsRest (side m) (λ d. can m g cell d) from left
  pub met : both (met_of found) (rest_of m grain budget k share g cell (from_digit m g cell (from + 1)))
      ≡ both (met_of before) (walk grain (tree m budget g))

-- the mask of the candidates
pub options_rest : (m : ℕ) (g : Cells) (cell options : ℕ) → AreOptions m g cell options → IsRest (side m) (λ d. can m g cell d) 0 options
options_rest m g cell options are =
    rest_all (side m) (λ d. can m g cell d) options are.small (λ k few. are.bits k few ∙ turned (used m g cell (k + 1)))
  where
    turned : (b : Bool) → ◌≡◌ {A = ℕ} (cond b 0 1) (cond (not b) 1 0)
    turned true = refl
    turned false = refl

-- the digits before the next candidate have no child
pub to_next : (m : ℕ) (g : Cells) (cell from k : ℕ) → k < side m → IsNext (side m) (λ d. can m g cell d) from k
    → from_digit m g cell (from + 1) ≡ from_digit m g cell (k + 1)
to_next m g cell from k few next =
    let low : from ≤ k = next.low in
    let e : from + 1 + (k - from) ≡ k + 1 = omega arith in
    digits_skip m g cell (from + 1) (k - from) (omega arith)
    (λ j above below. is_used j (omega arith) (next.others (j - 1) (omega arith) (omega arith)))
    ∙ ap (λ i. from_digit m g cell i) e
  where
    is_used : (j : ℕ) → 1 ≤ j → can m g cell (j - 1) ≡ false → used m g cell j ≡ true
    is_used j some off = let e : j ≡ j - 1 + 1 = omega arith in ap (λ i. used m g cell i) e ∙ not-false (used m g cell (j - 1 + 1)) off

-- one child more
pub child_met : (m : ℕ) (grain budget k share : ℕ) (g : Cells) (cell from x : ℕ) (before met now : Met) → x < side m
    → IsNext (side m) (λ d. can m g cell d) from x → now ≡ both met (at_digit m (hands_out grain budget k) grain share g cell (x + 1))
    → both met (rest_of m grain budget k share g cell (from_digit m g cell (from + 1))) ≡ before
    → both now (rest_of m grain budget k share g cell (from_digit m g cell (x + 1 + 1))) ≡ before
child_met m grain budget k share g cell from x before met now few next is all =
    let left : Met = rest_of m grain budget k share g cell (from_digit m g cell (x + 1 + 1)) in
    let here : Met = at_digit m (hands_out grain budget k) grain share g cell (x + 1) in
    ap (λ m. both m left) is
    ∙ both_assoc met here left
    ∙ ap (λ m. both met m) (sym (digit_next m grain budget k share g cell (x + 1) (omega arith)))
    ∙ ap (λ ds. both met (rest_of m grain budget k share g cell ds)) (sym (to_next m g cell from x few next))
    ∙ all

-- where no candidate is left all children are met
pub all_met : (m : ℕ) (grain budget k share : ℕ) (g : Cells) (cell from : ℕ) (before met : Met) → from ≤ side m
    → IsRest (side m) (λ d. can m g cell d) from 0
    → both met (rest_of m grain budget k share g cell (from_digit m g cell (from + 1))) ≡ before → met ≡ before
all_met m grain budget k share g cell from before met few rest all =
    let e : from + 1 + (side m - from) ≡ side m + 1 = omega arith in
    sym (both_nothing met)
    ∙ ap (λ m. both met m) (sym (digits_end m grain budget k share g cell (side m + 1) (omega arith)))
    ∙ ap (λ ds. both met (rest_of m grain budget k share g cell ds))
    (sym (digits_skip m g cell (from + 1) (side m - from) (omega arith)
    (λ j above below. is_used j (omega arith)
    (rest_none (side m) (λ d. can m g cell d) from (j - 1) rest (omega arith) (omega arith))) ∙ ap (λ i. from_digit m g cell i) e))
    ∙ all
  where
    is_used : (j : ℕ) → 1 ≤ j → can m g cell (j - 1) ≡ false → used m g cell j ≡ true
    is_used j some off = let e : j ≡ j - 1 + 1 = omega arith in ap (λ i. used m g cell i) e ∙ not-false (used m g cell (j - 1 + 1)) off

-- a candidate whose child is handed out, and one whose child is worked
pub digit_handed : (m : ℕ) (hands : Bool) (grain share : ℕ) (g : Cells) (cell d : ℕ) → used m g cell d ≡ false → hands ≡ true
    → handed_out share (set g cell d) ≡ at_digit m hands grain share g cell d
digit_handed m hands grain share g cell d unused is = rw (unused, is) refl

-- the child of a candidate is worked here, unless the node hands its children out
pub digit_worked : (m : ℕ) (hands : Bool) (grain share : ℕ) (g : Cells) (cell d : ℕ) → used m g cell d ≡ false → hands ≡ false
    → walk grain (tree m share (set g cell d)) ≡ at_digit m hands grain share g cell d
digit_worked m hands grain share g cell d unused is = rw (unused, is) refl
