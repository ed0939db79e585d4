use Rattle.std.proofs.Common.{◌≡◌, ◌-◌, ◌∙◌, arith, get_or, length-set}
use Rattle.made_jobs.specs.Made.{full_grid}
use Rattle.made_jobs.proofs.Relabelling.{grid_digit, relabel_done, relabel_on}
use Rattle.made_jobs.proofs.makers.relabel.Goals as goal

pub overflow_sub-digit : goal.overflow_sub-digit
unfolding full_grid
overflow_sub-digit c = (grid_digit c.loop-place.place c.loop-place-test.true).0

pub bounds-signs-from : goal.bounds-signs-from
unfolding full_grid
bounds-signs-from c =
    let from : c.from.result ≡ get_or full_grid c.loop-place.place 0 - 49 = c.from.ensures in
    omega (arith, from, (grid_digit c.loop-place.place c.loop-place-test.true).1)

pub loop-place-preserved : goal.loop-place-preserved
unfolding full_grid
loop-place-preserved c = record {
  long = length-set c.loop-place.cells c.loop-place.place _ ∙ c.loop-place.invariant.long;
  read = relabel_on c.args.signs.now c.loop-place.cells c.loop-place.place c.from.result c.loop-place-test.true c.loop-place.invariant.long
      c.from.ensures c.loop-place.invariant.read;
}

pub returns : goal.returns
unfolding full_grid
returns c =
    relabel_done c.args.signs.now c.loop-place.cells c.loop-place.place c.loop-place-test.false c.loop-place.invariant.long
    c.loop-place.invariant.read
