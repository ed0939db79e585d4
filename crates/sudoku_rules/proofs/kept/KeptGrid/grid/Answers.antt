use Rattle.std.proofs.Common.{◌≡◌, ◌+◌, ◌++◌, ◌∷◌, [], ap, length, subst, sym, take, ◌∙◌}
use Rattle.sudoku_rules.specs.declared.grid.Form.TheVariants as side
use Rattle.sudoku_rules.specs.Sides.{IsSudoku}
use Rattle.sudoku_rules.specs.inside.Packed.{halves}
use Rattle.sudoku_rules.proofs.Forms.{form_sudoku}
use Rattle.sudoku_rules.proofs.kept.KeptGrid.grid.Goals as goal

pub of-requires : goal.of-requires
of-requires c =
    let is = rw c.in-Four.is at c.self.invariant in
    let all = c.apart.result in
    let same : take 16 all ≡ halves c.in-Four.bytes.value =
    ap (λ n. take (n + n) all) (sym (ap length c.as_ref.ensures ∙ is.0)) ∙ c.apart.ensures.halves ∙ ap halves c.as_ref.ensures in
    subst IsSudoku (sym same) (form_sudoku (side.Four (halves c.in-Four.bytes.value)) is.1)

pub of-requires-in-Nine : goal.of-requires-in-Nine
of-requires-in-Nine c =
    let is = rw c.in-Nine.is at c.self.invariant in
    let all = c.apart-in-Nine.result in
    let cells = halves c.in-Nine.bytes.value ++ c.in-Nine.last ∷ [] in
    let same : take 81 all ≡ cells =
    ap (λ n. take (n + n + 1) all) (sym (ap length c.as_ref-in-Nine.ensures ∙ is.0)) ∙ c.apart-in-Nine.ensures.last
    ∙ ap (λ l. halves l ++ c.in-Nine.last ∷ []) c.as_ref-in-Nine.ensures in
    subst IsSudoku (sym same) (form_sudoku (side.Nine cells) is.1)

pub of-requires-in-Sixteen : goal.of-requires-in-Sixteen
of-requires-in-Sixteen c =
    let is = rw c.in-Sixteen.is at c.self.invariant in
    subst IsSudoku (sym c.as_ref-in-Sixteen.ensures) (form_sudoku (side.Sixteen c.in-Sixteen.cells.value) is)
