use Rattle.std.proofs.Common.{◌∙◌, [], ap}
use Rattle.made_jobs.specs.Made.{made, seeded}
use Rattle.made_jobs.proofs.Drawing.{made_on}
use Rattle.made_jobs.proofs.texts.made.Goals as goal

pub loop-before-init : goal.loop-before-init
unfolding made
loop-before-init c = ap (λ l. (l, c.new-maker.result.generator)) c.new-text.ensures.items ∙ ap (λ g. ([], g)) c.new-maker.ensures

pub loop-before-preserved : goal.loop-before-preserved
loop-before-preserved c =
    ap (λ l. (l, c.puzzle-puzzle.new.self.generator)) c.in_ok-append_lines.ensures
    ∙ made_on c.loop-before.before _ _ _ _ (seeded c.args.seed) c.puzzle-puzzle.ensures c.loop-before.invariant
