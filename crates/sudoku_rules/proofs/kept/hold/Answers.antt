use Rattle.std.proofs.Common.{◌≡◌, ◌++◌, ◌∷◌, [], List, ℕ, arith, ap, get_or, length, subst, sym, ◌∙◌}
use Rattle.sudoku_law.specs.Grid.{IsGrid}
use Rattle.sudoku_rules.specs.inside.Forms.{cells_of}
use Rattle.sudoku_rules.specs.inside.Packed.{halves, pairs}
use Rattle.sudoku_rules.proofs.Packed.{kept_four, kept_nine, pairs_long}
use Rattle.sudoku_rules.proofs.kept.hold.Goals as goal
use Rattle.sudoku_rules.proofs.kept.hold.Goals.{In_ok-or_no_memory-in-Four, In_ok-or_no_memory-in-Nine}

-- the bytes in the box
four : (c : In_ok-or_no_memory-in-Four) → c.in_ok-or_no_memory-in-Four.field-0.value ≡ pairs c.in-Four.cells
four c = (rw c.in_ok-or_no_memory-in-Four.ensures at c.new.ensures.ok) ∙ c.in_pairs.ensures

nine : (c : In_ok-or_no_memory-in-Nine) → c.in_ok-or_no_memory-in-Nine.field-0.value ≡ pairs c.in-Nine.cells
nine c = (rw c.in_ok-or_no_memory-in-Nine.ensures at c.new-in-Nine.ensures.ok) ∙ c.in_pairs-in-Nine.ensures

pub returns-in_ok-or_no_memory-in-Four-clause-held : goal.returns-in_ok-or_no_memory-in-Four-clause-held
returns-in_ok-or_no_memory-in-Four-clause-held c =
    let g = c.in-Four.cells in
    let is : IsGrid 2 g = rw c.in-Four.is at c.requires in (
      ap length (four c) ∙ pairs_long 8 g (omega (arith, is.long)) (omega (arith, is.long)),
      subst (IsGrid 2) (sym (ap halves (four c) ∙ kept_four g is)) is,
    )

pub returns-in_ok-or_no_memory-in-Four-clause-cells : goal.returns-in_ok-or_no_memory-in-Four-clause-cells
returns-in_ok-or_no_memory-in-Four-clause-cells c =
    let g = c.in-Four.cells in
    let is : IsGrid 2 g = rw c.in-Four.is at c.requires in
    ap halves (four c) ∙ kept_four g is ∙ sym (ap cells_of c.in-Four.is)

pub returns-in_ok-or_no_memory-in-Nine-clause-held : goal.returns-in_ok-or_no_memory-in-Nine-clause-held
returns-in_ok-or_no_memory-in-Nine-clause-held c =
    let g = c.in-Nine.cells in
    let is : IsGrid 3 g = rw c.in-Nine.is at c.requires in (
      ap length (nine c) ∙ pairs_long 40 g (omega (arith, is.long)) (omega (arith, is.long)),
      subst (IsGrid 3) (sym (ap (λ (l : List ℕ). halves l ++ get_or g 80 0 ∷ []) (nine c) ∙ kept_nine g is)) is,
    )

pub returns-in_ok-or_no_memory-in-Nine-clause-cells : goal.returns-in_ok-or_no_memory-in-Nine-clause-cells
returns-in_ok-or_no_memory-in-Nine-clause-cells c =
    let g = c.in-Nine.cells in
    let is : IsGrid 3 g = rw c.in-Nine.is at c.requires in
    ap (λ (l : List ℕ). halves l ++ get_or g 80 0 ∷ []) (nine c) ∙ kept_nine g is ∙ sym (ap cells_of c.in-Nine.is)
