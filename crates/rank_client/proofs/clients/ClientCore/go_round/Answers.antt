use Rattle.rank_client.proofs.RoomLeft.{first_room}
use Rattle.rank_client.proofs.clients.ClientCore.go_round.Goals as goal

pub returns-clause-has : goal.returns-clause-has
returns-clause-has c =
    let r = c.in_ok-room.ensures in (
      c.requires.to,
      first_room c.args.self.now.config c.in_ok-room.room c.args.first c.args.errand c.args.body _ c.requires.offer c.requires.short
          c.requires.first
          r.tries r.bodies c.pending.ensures,
    )
