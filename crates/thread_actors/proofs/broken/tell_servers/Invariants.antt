use Rattle.std.proofs.Common.{◌==◌, not}
use Rattle.thread_actors.specs.World.{server_named}
use Rattle.thread_actors.specs.ServerJobs.{abort_to}
use Rattle.thread_actors.specs.inside.Serving.{AreTold}
use Rattle.thread_actors.proofs.Telling.{first_told}
use Rattle.thread_actors.proofs.broken.tell_servers.Given as goal

abbrev pub invariant-loop-number : goal.invariant-loop-number
invariant-loop-number g l =
    AreTold l.fn.desk (first_told (abort_to l.fn.trouble) (λ s. not (s.0 == l.fn.me.0)) server_named l.number) l.desk
