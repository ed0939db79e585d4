use Rattle.std.proofs.Common.{◌≡◌}
use Rattle.made_jobs.specs.Made.{blanks}
use Rattle.made_jobs.proofs.makers.Maker.blank_cells.Given as goal

abbrev pub invariant-loop : goal.invariant-loop
invariant-loop l = (l.cells, l.self.generator) ≡ blanks l.counter (l.initial.cells, l.initial.self.generator)
