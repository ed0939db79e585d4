use Rattle.std.proofs.Common.{◌≡◌, ap, ◌+◌, ◌*◌, ℕ, subst, Option}
use Rattle.sudoku_law.specs.Grid.{side}
use Rattle.sudoku_rules.specs.declared.look.Choice.{Choice}
use Rattle.sudoku_rules.specs.inside.Masks.{IsBest}
use Rattle.sudoku_rules.proofs.Counted.{options_count}
use Rattle.sudoku_rules.proofs.Best.{best_stays, best_first, best_wins}
use Rattle.sudoku_rules.proofs.look.Masks.better.Goals as goal

pub returns-in-None : goal.returns-in-None
returns-in-None g c = λ h below blank are best.
    let at : c.args.row * g.row.SIDE + c.args.column ≡ c.args.row * side g.row.M + c.args.column =
    ap (λ s. c.args.row * s + c.args.column) c.requires.side in
    let cell : ℕ = c.args.row * side g.row.M + c.args.column in
    let P : Option Choice → Type 0 = λ o. IsBest g.row.M h cell o in
    rw at (best_first g.row.M h cell c.options_at-options.result below blank (c.options_at-options.ensures h are)
    (subst P c.in-None.is best))

pub returns-then-count-choice : goal.returns-then-count-choice
returns-then-count-choice g c = λ h below blank are best.
    let at : c.args.row * g.row.SIDE + c.args.column ≡ c.args.row * side g.row.M + c.args.column =
    ap (λ s. c.args.row * s + c.args.column) c.requires.side in
    let cell : ℕ = c.args.row * side g.row.M + c.args.column in
    let P : Option Choice → Type 0 = λ o. IsBest g.row.M h cell o in
    rw at (best_wins g.row.M h cell c.options_at-options.result c.in-Some.choice below blank
    (c.options_at-options.ensures h are) c.if-count-choice.true (subst P c.in-Some.is best))

pub returns-else-count-choice : goal.returns-else-count-choice
returns-else-count-choice g c = λ h below blank are best.
    let cell : ℕ = c.args.row * side g.row.M + c.args.column in
    let P : Option Choice → Type 0 = λ o. IsBest g.row.M h cell o in
    let counted = options_count g.row.M h cell c.options_at-options.result (c.options_at-options.ensures h are) in
    best_stays g.row.M h cell c.in-Some.choice _ blank counted c.if-count-choice.false (subst P c.in-Some.is best)
