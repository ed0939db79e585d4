use Rattle.std.proofs.Common.{rules, subst}
use Rattle.rank_client.specs.inside.{IsSound}
use Rattle.rank_client.proofs.Insides.{held_server}
use Rattle.rank_client.proofs.clients.ClientCore.fetch.Goals as goal

pub returns-clause-opens : goal.returns-clause-opens
returns-clause-opens c =
    let placed = held_server c.args.self.now c.args.id c.args.note (subst IsSound c.self.view_is c.self.invariant.sound) c.requires.held in
    (search rules, (placed.0, placed))
