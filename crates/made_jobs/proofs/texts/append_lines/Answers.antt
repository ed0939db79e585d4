use Rattle.std.proofs.Common.{◌++◌, ◌∙◌, ap}
use Rattle.std.specs.Prelude.{codes}
use Rattle.made_jobs.proofs.Drawing.{lines_with, lines_without}
use Rattle.made_jobs.proofs.texts.append_lines.Goals as goal

pub returns-in_ok-append-5 : goal.returns-in_ok-append-5
returns-in_ok-append-5 c =
    let line = c.in_ok-append-2.ensures ∙ ap (λ l. l ++ codes "\n") c.in_ok-append.ensures in
    let named = c.in_ok-append-3.ensures ∙ ap (λ l. l ++ codes "batch ") line in
    let told = c.in_ok-append-4.ensures ∙ ap (λ l. l ++ c.args.puzzle.now) named in
    c.in_ok-append-5.ensures ∙ ap (λ l. l ++ codes "\ncount 49 53\nsum\nmax\n") told
    ∙ lines_with c.args.number c.args.text.now.items c.args.puzzle.now c.if-number-eq0.true

pub returns-else-number-eq0 : goal.returns-else-number-eq0
returns-else-number-eq0 c =
    c.in_ok-append-2.ensures ∙ ap (λ l. l ++ codes "\n") c.in_ok-append.ensures
    ∙ lines_without c.args.number c.args.text.now.items c.args.puzzle.now c.if-number-eq0.false
