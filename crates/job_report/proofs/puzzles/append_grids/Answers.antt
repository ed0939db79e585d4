use Rattle.std.proofs.Common.{◌++◌, ◌∙◌, ap}
use Rattle.std.proofs.lemmas.List.{drop_all}
use Rattle.job_report.proofs.Pieces.{one_more_line, all_lines}
use Rattle.job_report.proofs.puzzles.append_grids.Goals as goal

pub loop-grid-preserved : goal.loop-grid-preserved
loop-grid-preserved c = one_more_line _ _ _ _ c.args.grids.now c.loop-grid.grid-index c.grid-item.result c.loop-grid-test.true
    c.grid-item.is c.loop-grid.invariant (c.in_ok-append.ensures ∙ ap (λ x. c.loop-grid.text.items ++ x) (c.as_slice.ensures
    ∙ c.text.ensures.text)) c.in_ok-append-2.ensures

pub returns : goal.returns
returns c = all_lines _ _ c.args.grids.now c.loop-grid.grid-index (drop_all c.loop-grid.grid-index c.args.grids.now
    c.loop-grid-test.false) c.loop-grid.invariant
