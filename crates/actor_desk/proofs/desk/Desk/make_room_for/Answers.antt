use Rattle.std.proofs.Common.{ap}
use Rattle.actor_desk.specs.Desks.{DeskModel, with_room}
use Rattle.actor_desk.proofs.Begun.{roomy_begins}
use Rattle.actor_desk.proofs.desk.Desk.make_room_for.Goals as goal

pub returns-clause-begins : goal.returns-clause-begins
returns-clause-begins g c = λ was. roomy_begins c.args.self.now _ (ap (λ (d : DeskModel). with_room d 0) c.self.view_is) was
