use Rattle.std.proofs.Common.{◌≡◌, ◌-◌, ◌∙◌, ap, arith, drop, length, take}
use Rattle.tour_app.specs.Works.{unit_of}
use Rattle.tour_app.proofs.Desks.{brings_by}
use Rattle.tour_app.proofs.desk.Desk.bring.Goals as goal

pub returns : goal.returns
returns c =
    let long = c.requires in let front = c.common_count.ensures in
    let at : c.common_count.result ≡ length c.args.body.now - c.args.note.now.length = omega (arith, long, front) in
    brings_by _ _ _ _ _ _ c.receive_if.result
    (c.in_ok-parts.ensures.first ∙ ap (λ k. take k c.args.body.now) at)
    (c.in_ok-unit.ensures ∙ ap (unit_of c.args.note.now.kind.0 c.args.note.now.answer)
    (c.in_ok-parts.ensures.rest ∙ ap (λ k. drop k c.args.body.now) at)) c.receive_if.ensures
