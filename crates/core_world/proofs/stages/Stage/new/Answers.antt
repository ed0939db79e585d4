use Rattle.core_world.proofs.Starting.{start_full, start_whole}
use Rattle.core_world.proofs.stages.Stage.new.Goals as goal

pub invariant_of-result : goal.invariant_of-result
invariant_of-result c = let f = start_full c.args.config in
    record { ranks = rw c.in_ok-clients.ensures f.ranks; servers = rw c.in_ok-servers.ensures f.servers }

pub returns-clause-whole : goal.returns-clause-whole
returns-clause-whole c = let f = start_whole c.args.config in
    record { ranks = rw c.in_ok-clients.ensures f.ranks; servers = rw c.in_ok-servers.ensures f.servers }
