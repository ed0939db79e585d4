use Rattle.std.proofs.Common.{◌≢◌, ℕ, ◌<◌, get_or}
use Rattle.work_queue.specs.Queue.{Promise}
use Rattle.work_queue.proofs.rooms.Rooms.place_of.Given as goal

abbrev pub invariant-loop-place : goal.invariant-loop-place
invariant-loop-place l = (k : ℕ) (d : Promise) → k < l.place → (get_or l.self k d).id ≢ l.id
