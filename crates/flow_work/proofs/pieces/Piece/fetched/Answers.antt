use Rattle.std.proofs.Common.{◌≡◌, ◌-◌, ◌∙◌, ap, arith, drop, length}
use Rattle.flow_units.specs.Bodies.{unit_in}
use Rattle.flow_work.proofs.pieces.Piece.fetched.Goals as goal

pub returns : goal.returns
returns c =
    let long = c.requires in let front = c.common_count.ensures in
    let at : c.common_count.result ≡ length c.args.body.now - c.args.note.now.length = omega (arith, long, front) in
    c.read.ensures ∙ ap (unit_in c.args.note.now.kind c.args.note.now.answer)
    (c.in_ok-parts.ensures.rest ∙ ap (λ k. drop k c.args.body.now) at)
