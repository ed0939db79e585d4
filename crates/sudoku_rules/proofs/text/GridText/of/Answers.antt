use Rattle.std.proofs.Common.{◌<◌, ◌∙◌, length, arith}
use Rattle.std.proofs.lemmas.List.{length-set}
use Rattle.sudoku_law.specs.Text.{sign}
use Rattle.sudoku_rules.proofs.Sides.{sudoku_digit, sudoku_few}
use Rattle.sudoku_rules.proofs.Reading.{map_more}
use Rattle.sudoku_rules.proofs.text.GridText.of.Goals as goal

pub sign_of-requires : goal.sign_of-requires
sign_of-requires c = sudoku_digit c.args.cells.now c.loop-place.place c.requires c.loop-place-test.true

pub bounds-bytes-place : goal.bounds-bytes-place
bounds-bytes-place c = omega (arith, sudoku_few c.args.cells.now c.requires)

pub loop-place-preserved : goal.loop-place-preserved
loop-place-preserved c =
    let room : c.loop-place.place < length c.loop-place.bytes =
    omega (arith, c.loop-place.invariant.long, sudoku_few c.args.cells.now c.requires) in
    record {
      long = length-set c.loop-place.bytes c.loop-place.place c.sign_of.result ∙ c.loop-place.invariant.long;
      written = map_more sign c.args.cells.now c.loop-place.bytes c.loop-place.place c.sign_of.result c.loop-place-test.true room
          c.sign_of.ensures c.loop-place.invariant.written;
    }
