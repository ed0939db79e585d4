use Rattle.std.proofs.Common.{◌≡◌}
use Rattle.made_jobs.specs.Made.{made, seeded}
use Rattle.made_jobs.proofs.texts.made.Given as goal

abbrev pub invariant-loop-before : goal.invariant-loop-before
invariant-loop-before l = (l.text.items, l.maker.generator) ≡ made l.before (seeded l.fn.seed)
