use Rattle.std.proofs.Common.{◌≡◌, ◌++◌, take}
use Rattle.tour_app.specs.Bodies.{words}
use Rattle.tour_app.proofs.bodies.append_words.Given as goal

abbrev pub invariant-loop-number : goal.invariant-loop-number
invariant-loop-number l = l.bytes.items ≡ l.fn.bytes.items ++ words (take l.number-index l.numbers)
