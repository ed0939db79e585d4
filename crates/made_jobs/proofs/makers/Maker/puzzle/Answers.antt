use Rattle.std.proofs.Common.{◌∙◌, ap}
use Rattle.made_jobs.specs.Made.{blanks, puzzle, relabelled}
use Rattle.made_jobs.proofs.makers.Maker.puzzle.Goals as goal

pub returns : goal.returns
unfolding puzzle
returns c =
    c.blank_cells.ensures
    ∙ ap (λ cells. blanks 40 (cells, c.shuffled_signs-signs.new.self.generator)) c.relabel-cells.ensures
    ∙ ap (λ d. blanks 40 (relabelled d.0, d.1)) c.shuffled_signs-signs.ensures
