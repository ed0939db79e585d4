use Rattle.std.proofs.Common.{◌≡◌, ◌<◌, ℕ, slice_get, Some}
use Rattle.rank_mail.specs.declared.posted.Posted.{Posted}
use Rattle.server_law.specs.State.{ServerModel}
use Rattle.thread_actors.specs.World.{rank_named}
use Rattle.thread_actors.specs.ServerJobs.{broken_to, waits_for}
use Rattle.thread_actors.specs.inside.Serving.{AreTold}
use Rattle.thread_actors.proofs.Telling.{first_told}
use Rattle.thread_actors.proofs.broken.tell_ranks.Given as goal

abbrev pub invariant-loop-number : goal.invariant-loop-number
invariant-loop-number g l =
    (s : ServerModel) (x : Posted)
    → ((k : ℕ) → k < l.fn.config.ranks → slice_get l.fn.roll.waits k ≡ Some (waits_for s x (rank_named k)))
    → AreTold l.fn.desk (first_told (broken_to l.fn.trouble) (waits_for s x) rank_named l.number) l.desk
