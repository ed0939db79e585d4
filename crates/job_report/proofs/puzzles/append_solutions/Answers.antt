use Rattle.std.proofs.Common.{◌++◌, ◌∙◌, ap, codes, decimal, length}
use Rattle.job_report.specs.Report.{grid_lines}
use Rattle.job_report.proofs.Pieces.{count_after, four}
use Rattle.job_report.proofs.puzzles.append_solutions.Goals as goal

pub returns : goal.returns
returns c =
    four _ _ _ _ _ _ _ _ _ c.in_ok-append.ensures c.in_ok-append_number.ensures c.in_ok-append_count.ensures c.in_ok-append_grids.ensures
    ∙ ap (λ x. c.args.text.now.items ++ (x ++ grid_lines c.args.solutions.now)) (count_after (codes "puzzle " ++ decimal c.args.number)
    (codes " solutions") (length c.args.solutions.now))
