use Rattle.std.proofs.Common.{refl}
use Rattle.made_jobs.specs.Made.{blanks}
use Rattle.made_jobs.proofs.Drawing.{blanks_on}
use Rattle.made_jobs.proofs.makers.Maker.blank_cells.Goals as goal

pub loop-init : goal.loop-init
unfolding blanks
loop-init c = refl

pub loop-preserved : goal.loop-preserved
loop-preserved c = blanks_on c.loop.counter _ _ _ _ _ c.word-cell.ensures c.loop.invariant
