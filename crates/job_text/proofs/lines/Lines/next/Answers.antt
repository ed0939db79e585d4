use Rattle.std.proofs.Common.{◌∷◌, [], ap, sym, ◌∙◌}
use Rattle.job_text.specs.Lines.{lines}
use Rattle.job_text.specs.inside.Left.{lines_in}
use Rattle.job_text.proofs.Cuts.{first_line, last_line}
use Rattle.job_text.proofs.lines.Lines.next.Goals as goal

pub returns-in-Some-clause-line : goal.returns-in-Some-clause-line
returns-in-Some-clause-line c =
    ap lines_in c.in_ok-text.was
    ∙ first_line c.in_ok-text.text.now c.in-Some.line.now c.in-Some.rest.now c.in-Some.ensures.0 c.in-Some.ensures.1 c.in-Some.ensures.2
    ∙ ap (λ l. l ∷ lines c.in-Some.rest.now) (sym c.without_return.ensures.line)

pub returns-in-None-clause-line : goal.returns-in-None-clause-line
returns-in-None-clause-line c =
    ap lines_in c.in_ok-text.was ∙ last_line c.in_ok-text.text.now c.in-None.ensures
    ∙ ap (λ l. l ∷ []) (sym c.without_return-in-None.ensures.line)
