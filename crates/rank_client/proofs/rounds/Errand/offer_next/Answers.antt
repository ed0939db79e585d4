use Rattle.std.proofs.Common.{rules}
use Rattle.rank_client.proofs.RoomLeft.{room_left}
use Rattle.rank_client.proofs.rounds.Errand.offer_next.Goals as goal

pub returns-in-Some-clause-fits : goal.returns-in-Some-clause-fits
returns-in-Some-clause-fits c =
    let went = c.offer_next.ensures in
    let has =
    room_left c.args.place.now.config c.args.room.now c.offer_next.new.room c.args.round _ c.args.self c.pending.result c.requires.room
    went.bodies (search rules) went.others (search rules) c.pending.ensures in
    (has, c.server.ensures.there)
