use Rattle.std.proofs.Common.{◌≡◌, ◌∙◌, ◌++◌, ap, sym, arith, append-nil, take, get_or}
use Rattle.std.specs.Int.{to_be_bytes, w32}
use Rattle.std.proofs.lemmas.List.{take_all}
use Rattle.tour_app.specs.Bodies.{words}
use Rattle.tour_app.proofs.Common.{flat_step}
use Rattle.tour_app.proofs.bodies.append_words.Goals as goal

pub loop-number-init : goal.loop-number-init
loop-number-init c = sym (append-nil c.args.bytes.now.items)

pub loop-number-preserved : goal.loop-number-preserved
loop-number-preserved c =
    c.in_ok-append.ensures
    ∙ ap (λ l. l ++ c.to_be_bytes.result) c.loop-number.invariant
    ∙ ap (λ l. (c.args.bytes.now.items ++ words (take c.loop-number.number-index c.args.numbers.now)) ++ l) c.to_be_bytes.ensures
    ∙ flat_step (to_be_bytes w32) c.args.bytes.now.items c.args.numbers.now c.loop-number.number-index c.loop-number-test.true

pub returns : goal.returns
returns c = c.loop-number.invariant
    ∙ ap (λ l. c.args.bytes.now.items ++ words l) (take_all c.loop-number.number-index c.args.numbers.now (omega arith))
