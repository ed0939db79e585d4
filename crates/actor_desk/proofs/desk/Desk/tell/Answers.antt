use Rattle.std.proofs.Common.{refl}
use Rattle.actor_desk.specs.Desks.{Begins, DeskModel}
use Rattle.actor_desk.specs.inside.{desk_of}
use Rattle.actor_desk.proofs.Begun.{told_begins}
use Rattle.actor_desk.proofs.desk.Desk.tell.Goals as goal

pub returns-clause-begins : goal.returns-clause-begins
returns-clause-begins g c = λ told was.
    let desk : DeskModel = desk_of c.self.inside in
    let before : Begins desk = rw c.self.view_is was in
    told_begins desk _ c.args.to c.args.message told refl c.send.ensures.sent before
